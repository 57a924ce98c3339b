-- Constructs that stand one behind the other up to a place: the walk goes through the first, then through the rest.
-- Assumes nothing.
use mathlib.Core.Path.{◌≡◌, refl, sym, ap, subst}
use mathlib.Core.List.{List, [], ◌∷◌, ◌++◌, append-nil, append_assoc}
use Prim.Native.Nat.{ℕ, zero, suc, ◌+◌, ◌≤◌, ◌<◌}
use native.Mathlib.Omega.{arith}
use Rattle.rules.specs.Table.{kind_at, span_at, second_at, records_of}
use Rattle.rules.specs.Check.{Around, nothing_around, Visit, walk}
use Rattle.table.specs.Kinds.{children_of}
use Rattle.table.specs.Places.{Place, SpanFor, tree_of}
use Rattle.table.proofs.Places.{span-for, span_pos, down-place, next_place, root-span}
use Rattle.acceptance.specs.Visits.{inner, visit_at}
use Rattle.acceptance.specs.Rows.{Visits, ends, goes, Ends}
use Rattle.acceptance.proofs.Visiting.{walk_at, inner-two}

pub visits-order : {b : List ℕ} {a : Around} {e i : ℕ} {vs : List Visit} → Visits b a e i vs → i ≤ e
visits-order (ends h) = omega arith
visits-order (goes p r) = omega (arith, visits-order r)

-- the first construct, then the rest
pub record First (b : List ℕ) (a : Around) (e i : ℕ) (vs : List Visit) : Type 0 where
  pub place : Place b i
  pub fits : i + span_at b i ≤ e
  pub rest : List Visit
  pub is : vs ≡ walk a (tree_of b i) ++ rest
  pub after : Visits b a e (i + span_at b i) rest

pub first-visits : (b : List ℕ) (a : Around) (e i : ℕ) {vs : List Visit} → Visits b a e i vs → i < e → First b a e i vs
first-visits b a e i (ends h) l = absurd (omega arith)
first-visits b a e i (goes {vs = vs} p r) l = record { place = p; fits = visits-order r; rest = vs; is = refl; after = r }

-- the record at place i, then those behind it: a construct that has not one child has what stands around it around its children too
pub record Next (b : List ℕ) (a : Around) (e i : ℕ) (vs : List Visit) : Type 0 where
  pub rest : List Visit
  pub is : vs ≡ visit_at b a i ∷ rest
  pub after : Visits b a e (i + 1) rest

module _ (b : List ℕ) (a : Around) (e i : ℕ) (p : Place b i) (vs : List Visit) (r : Visits b a e (i + span_at b i) vs) where
  by-children : (m : ℕ) → children_of (kind_at b i) ≡ m → SpanFor m b i → (m ≡ 1 → ⊥) → Next b a e i (walk a (tree_of b i) ++ vs)
  by-children zero q s n =
      let f : i + span_at b i ≡ i + 1 = omega arith in
      record { rest = vs; is = rw (walk_at b i p a, q); after = subst (λ j. Visits b a e j vs) f r }
  by-children (suc zero) q s n = absurd (n refl)
  by-children (suc (suc m)) q s n =
      let f : i + span_at b i ≡ second_at b i + span_at b (second_at b i) = omega arith in
      let w : a ≡ inner (kind_at b i) a = inner-two (kind_at b i) a (omega arith) in
      record {
        rest = walk a (tree_of b (i + 1)) ++ (walk a (tree_of b (second_at b i)) ++ vs);
        is = rw (walk_at b i p a, q, ← w) (ap (λ us. visit_at b a i ∷ us) (append_assoc (walk a (tree_of b (i + 1))) (walk a (tree_of b (second_at b i))) vs));
        after = goes (down-place b i p (omega arith)) (goes (next_place b i p (omega arith)) (subst (λ j. Visits b a e j vs) f r));
      }

pub next-visits : (b : List ℕ) (a : Around) (e i : ℕ) {vs : List Visit} → Visits b a e i vs → i < e → (children_of (kind_at b i) ≡ 1 → ⊥) → Next b a e i vs
next-visits b a e i (ends h) l n = absurd (omega arith)
next-visits b a e i (goes {vs = vs} p r) l n = by-children b a e i p vs r (children_of (kind_at b i)) refl (span-for b i p) n

-- the only child of the construct at place i
module _ (b : List ℕ) (i : ℕ) (p : Place b i) (one : children_of (kind_at b i) ≡ 1) where
  child-span : i + 1 + span_at b (i + 1) ≡ i + span_at b i
  child-span = let s : SpanFor 1 b i = subst (λ m. SpanFor m b i) one (span-for b i p) in omega (arith, s.1)

  pub child : (a : Around) → Visits b a (i + span_at b i) (i + 1) (walk a (tree_of b (i + 1)) ++ [])
  child a = goes (down-place b i p (omega arith)) (ends child-span)

  pub walk-child : (a : Around) → walk a (tree_of b i) ≡ visit_at b a i ∷ (walk (inner (kind_at b i) a) (tree_of b (i + 1)) ++ [])
  walk-child a = rw (walk_at b i p a, one) (ap (λ us. visit_at b a i ∷ us) (sym (append-nil (walk (inner (kind_at b i) a) (tree_of b (i + 1))))))

  pub row-child : Ends b (i + span_at b i) (i + 1)
  row-child = record { visits = walk nothing_around (tree_of b (i + 1)) ++ []; are = child nothing_around }

module _ {b : List ℕ} {e i : ℕ} (r : Ends b e i) (l : i < e) where
  pub row-place : Place b i
  row-place = (first-visits b nothing_around e i r.are l).place

  pub row-next : (children_of (kind_at b i) ≡ 1 → ⊥) → Ends b e (i + 1)
  row-next n = let s = next-visits b nothing_around e i r.are l n in record { visits = s.rest; are = s.after }

  pub row-after : Ends b e (i + span_at b i)
  row-after = let s = first-visits b nothing_around e i r.are l in record { visits = s.rest; are = s.after }

  pub row-fits : (1 ≤ span_at b i) × (i + span_at b i ≤ e)
  row-fits = let s = first-visits b nothing_around e i r.are l in (span_pos b i s.place, s.fits)

from_zero : (b : List ℕ) → Place b 0 → 0 + span_at b 0 ≡ records_of b
from_zero b p = omega (arith, root-span b p)

-- the whole program is the row from place 0 to the end
pub whole-visits : (b : List ℕ) → Place b 0 → Visits b nothing_around (records_of b) 0 (walk nothing_around (tree_of b 0) ++ [])
whole-visits b p = goes p (ends (from_zero b p))

pub whole-row : (b : List ℕ) → Place b 0 → Ends b (records_of b) 0
whole-row b p = record { visits = walk nothing_around (tree_of b 0) ++ []; are = whole-visits b p }
