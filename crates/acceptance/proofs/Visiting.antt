-- A walk from a construct: its own visit, then those of its children.
-- Assumes nothing.
use mathlib.Core.Path.{◌≡◌, refl, sym, ap, ◌∙◌}
use mathlib.Core.Bool.{false, ◌&&◌}
use mathlib.Core.List.{List, [], ◌∷◌, ◌++◌}
use Prim.Native.Nat.{ℕ, ◌+◌, ◌≤◌}
use native.Mathlib.Omega.{arith}
use lib.Dec.{eqb}
use borrow.Author.Tests.{ne_eqb}
use lib.ListN.{length}
use Rattle.rules.specs.Tree.{head_of}
use Rattle.rules.specs.Table.{kind_at, second_at, program_of, records_of}
use Rattle.rules.specs.Check.{Around, nothing_around, may_end, walk, visits_of}
use Rattle.rules.specs.Check as Rules
use Rattle.theory.specs.Logic.{◌also◌}
use Rattle.table.specs.Kinds.{children_of}
use Rattle.table.specs.Places.{Place, tree_of}
use Rattle.theory.specs.Walk.{walk-size}
use Rattle.table.proofs.Places.{children-most, root-span}
use Rattle.table.proofs.Trees.{by_kind, tree-span, tree-program}
use Rattle.table.specs.declared.construct.Construct.{Construct}
use Rattle.acceptance.specs.Visits.{around_of, inner, visit_at, visit_of, walk_of, below_at, IsFirst, IsSecond}
use Rattle.acceptance.specs.declared.visit.Around as Code
use Rattle.acceptance.specs.declared.visit.Visit.{Visit}

abbrev walk_by : ℕ → List ℕ → Around → ℕ → List Rules.Visit
walk_by k b a i = record { place = i; kind = k; around = a; endless = eqb k 14 && may_end (tree_of b (i + 1)) } ∷ below_at (children_of k) b (inner k a) i

walk-by : (b : List ℕ) (i : ℕ) → Place b i → (a : Around) → walk a (tree_of b i) ≡ walk_by (kind_at b i) b a i
unfolding walk inner children_of head_of
walk-by b i p a = by_kind b i p (λ k t. walk a t ≡ walk_by k b a i) (refl also refl also refl also refl also refl also refl also refl also refl also refl also refl also refl also refl also refl also refl also refl also refl also refl also refl also refl also refl also tt)

-- the law of the stages that walk
pub walk_at : (b : List ℕ) (i : ℕ) → Place b i → (a : Around) → walk a (tree_of b i) ≡ visit_at b a i ∷ below_at (children_of (kind_at b i)) b (inner (kind_at b i) a) i
walk_at b i p a = walk-by b i p a

-- a construct of two children is no loop, no every and no fin
pub inner-two : (k : ℕ) (a : Around) → 2 ≤ children_of k → a ≡ inner k a
unfolding inner children_of
inner-two k a h = sym (rw (ne_eqb k 14 (other 14 refl), ne_eqb k 15 (other 15 refl), ne_eqb k 16 (other 16 refl), ne_eqb k 19 (other 19 refl)))
  where
    other : (m : ℕ) → children_of m ≡ 1 → k ≡ m → ⊥
    other m e q = omega (arith, ap children_of q)

module _ (v : Visit) where
  pub walk-leaf : children_of (kind_at v.at.table.now v.at.place) ≡ 0 → walk_of v ≡ visit_of v ∷ []
  walk-leaf n = rw (walk_at v.at.table.now v.at.place v.at.stands.place (around_of v.around), n)

  pub walk-one : children_of (kind_at v.at.table.now v.at.place) ≡ 1 → (w : Visit) → IsFirst v w → walk_of v ≡ visit_of v ∷ walk_of w
  walk-one n w h = rw (walk_at v.at.table.now v.at.place v.at.stands.place (around_of v.around), n, h.table, h.place, h.around)

  -- what it goes through from the second child on
  abbrev pub walk_second : List Rules.Visit
  walk_second = walk (inner (kind_at v.at.table.now v.at.place) (around_of v.around)) (tree_of v.at.table.now (second_at v.at.table.now v.at.place))

  pub second-is : (u : Visit) → IsSecond v u → walk_of u ≡ walk_second
  second-is u k = rw (k.table, k.place, k.around)

  pub walk-two : 2 ≤ children_of (kind_at v.at.table.now v.at.place) → (w : Visit) → IsFirst v w → walk_of v ≡ visit_of v ∷ (walk_of w ++ walk_second)
  walk-two l w h =
      let n : children_of (kind_at v.at.table.now v.at.place) ≡ 2 = omega (arith, children-most v.at.table.now v.at.place v.at.stands.place) in
      rw (walk_at v.at.table.now v.at.place v.at.stands.place (around_of v.around), n, h.table, h.place, h.around)

pub nothing-is : (a : Code.Around) → a.loops ≡ 0 → a.in_every ≡ false → a.in_fin ≡ false → around_of a ≡ nothing_around
nothing-is a p q r = rw (p, q, r)

-- the program is the construct at place 0, with nothing around it
pub whole-walk : (b : List ℕ) {a : Around} → a ≡ nothing_around → walk a (tree_of b 0) ≡ visits_of b
unfolding visits_of program_of tree_of
whole-walk b e = rw e

pub whole-length : (b : List ℕ) → Place b 0 → length (visits_of b) ≡ records_of b
whole-length b p = rw (← whole-walk b {a = nothing_around} refl) (walk-size nothing_around (tree_of b 0) (tree-program b 0 p) ∙ (tree-span b 0 p ∙ root-span b p))

pub visits-most : (p : Construct) → p.place ≡ 0 → length (visits_of p.table.now) ≤ 256
visits-most p e =
    let whole : Place p.table.now 0 = rw (← e) p.stands.place in
    omega (arith, p.stands.small, whole-length p.table.now whole)
