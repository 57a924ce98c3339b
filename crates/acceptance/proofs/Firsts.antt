-- The first place of a walk that a test hits.
-- Assumes nothing.
use Rattle.std.specs.Prelude.{if◌then◌else◌, Option, None, Some}
use mathlib.Core.Path.{◌≡◌, refl, sym, ap, ◌∙◌}
use mathlib.Core.Bool.{Bool, true, false}
use mathlib.Core.List.{List, [], ◌∷◌, ◌++◌}
use Prim.Native.Nat.{ℕ, ◌≤◌}
use Rattle.rules.specs.Table.{kind_at}
use Rattle.rules.specs.Check as Rules
use Rattle.rules.specs.Check.{hits}
use Rattle.table.specs.Kinds.{children_of}
use Rattle.table.specs.Found.{first_of, or_next}
use Rattle.acceptance.specs.Visits.{around_of, inner, visit_of, walk_of, below_at, IsFirst, IsSecond}
use Rattle.acceptance.specs.declared.visit.Visit.{Visit}
use Rattle.acceptance.proofs.Visiting.{walk_at, walk-leaf, walk-one, walk-two, walk_second, second-is}

abbrev first : (Rules.Visit → Bool) → List Rules.Visit → Option ℕ
first f vs = first_of (hits f vs)

module _ (f : Rules.Visit → Bool) where
  -- ---- of a list

  hit : (v : Rules.Visit) (vs : List Rules.Visit) → f v ≡ true → first f (v ∷ vs) ≡ Some v.place
  unfolding hits
  hit v vs e = rw e

  miss : (v : Rules.Visit) (vs : List Rules.Visit) → f v ≡ false → first f (v ∷ vs) ≡ first f vs
  unfolding hits
  miss v vs e = rw e

  none : first f [] ≡ None
  unfolding hits
  none = refl

  first-append : (us vs : List Rules.Visit) → first f (us ++ vs) ≡ or_next (first f us) (first f vs)
  unfolding hits
  first-append [] vs = refl
  first-append (u ∷ us) vs = go (f u) (first-append us vs)
    where
      go : (x : Bool) → first f (us ++ vs) ≡ or_next (first f us) (first f vs) → first_of (if x then u.place ∷ hits f (us ++ vs) else hits f (us ++ vs)) ≡ or_next (first_of (if x then u.place ∷ hits f us else hits f us)) (first f vs)
      go true h = refl
      go false h = h

-- ---- of the walk from a construct

module _ (f : Rules.Visit → Bool) (v : Visit) where
  pub first_here : f (visit_of v) ≡ true → first f (walk_of v) ≡ Some v.at.place
  first_here e = ap (first f) (walk_at v.at.table.now v.at.place v.at.stands.place (around_of v.around)) ∙ hit f (visit_of v) (below_at (children_of (kind_at v.at.table.now v.at.place)) v.at.table.now (inner (kind_at v.at.table.now v.at.place) (around_of v.around)) v.at.place) e

  module _ (e : f (visit_of v) ≡ false) where
    pub first_leaf : children_of (kind_at v.at.table.now v.at.place) ≡ 0 → first f (walk_of v) ≡ None
    first_leaf n = ap (first f) (walk-leaf v n) ∙ (miss f (visit_of v) [] e ∙ none f)

    module _ (w : Visit) (h : IsFirst v w) where
      pub first_one : children_of (kind_at v.at.table.now v.at.place) ≡ 1 → first f (walk_of v) ≡ first f (walk_of w)
      first_one n = ap (first f) (walk-one v n w h) ∙ miss f (visit_of v) (walk_of w) e

      module _ (n : 2 ≤ children_of (kind_at v.at.table.now v.at.place)) where
        both : first f (walk_of v) ≡ or_next (first f (walk_of w)) (first f (walk_second v))
        both = ap (first f) (walk-two v n w h) ∙ (miss f (visit_of v) (walk_of w ++ walk_second v) e ∙ first-append f (walk_of w) (walk_second v))

        pub first_left : {i : ℕ} → first f (walk_of w) ≡ Some i → first f (walk_of v) ≡ Some i
        first_left d = both ∙ rw d

        pub first_right : first f (walk_of w) ≡ None → (u : Visit) → IsSecond v u → first f (walk_of v) ≡ first f (walk_of u)
        first_right d u k = both ∙ (rw d (ap (first f) (sym (second-is v u k))))

pub ruleset finding = (first_here, first_leaf, first_one)
