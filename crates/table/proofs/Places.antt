-- A place of a table whose shape is right: its kind, its span, and its children's places.
-- Assumes nothing.
use mathlib.Core.Path.{◌≡◌, refl, sym, subst}
use mathlib.Core.Bool.{Bool, true, false, not, ◌&&◌, ◌||◌}
use mathlib.Core.List.{List}
use Prim.Native.Nat.{ℕ, zero, suc, ◌+◌, ◌≤◌, ◌<◌}
use native.Mathlib.Omega.{arith}
use lib.Dec.{T, eqb, ltb, leb, eqb→eq, ltb→lt, lit≤}
use lib.ListN.{get_or-eq_default}
use borrow.Author.Tests.{ltb-false}
use Rattle.rules.specs.Table.{Children, leaf, one, two, wrong, kinds, over19, kind_at, span_at, second_at, row_at, records_of, span_fits}
use Rattle.theory.specs.Logic.{both_left, both_right}
use Rattle.table.specs.Kinds.{row_of, arity, children_of}
use Rattle.table.specs.Places.{Place, SpanFor}

-- ---- kinds

pub over-19 : (k : ℕ) → 20 ≤ k → children_of k ≡ 3
unfolding children_of
over-19 k h = rw (get_or-eq_default kinds over19 h)

-- a kind that is known has as many children as the kinds table says: at a numeral k the last argument is `tt`
pub children-from : {n m : ℕ} (k : ℕ) → n ≡ k → T (leb m (arity (row_of k).children)) → m ≤ children_of n
unfolding children_of
children-from {n} {m} k e h = rw e (lit≤ h)

-- ---- spans

fits-for : (s : Children) (b : List ℕ) (i : ℕ) → T (span_fits s b (records_of b) i) → SpanFor (arity s) b i
fits-for leaf b i h = eqb→eq (span_at b i) 1 h
fits-for one b i h = (
  ltb→lt (i + 1) (records_of b) (both_left (ltb (i + 1) (records_of b)) (eqb (span_at b i) (1 + span_at b (i + 1))) h),
  eqb→eq (span_at b i) (1 + span_at b (i + 1)) (both_right (ltb (i + 1) (records_of b)) (eqb (span_at b i) (1 + span_at b (i + 1))) h),
)
fits-for two b i h =
    let inside = both_left (ltb (i + 1) (records_of b) && ltb (second_at b i) (records_of b)) (eqb (span_at b i) (1 + span_at b (i + 1) + span_at b (second_at b i))) h in (
      ltb→lt (i + 1) (records_of b) (both_left (ltb (i + 1) (records_of b)) (ltb (second_at b i) (records_of b)) inside),
      ltb→lt (second_at b i) (records_of b) (both_right (ltb (i + 1) (records_of b)) (ltb (second_at b i) (records_of b)) inside),
      eqb→eq (span_at b i) (1 + span_at b (i + 1) + span_at b (second_at b i)) (both_right (ltb (i + 1) (records_of b) && ltb (second_at b i) (records_of b)) (eqb (span_at b i) (1 + span_at b (i + 1) + span_at b (second_at b i))) h),
    )
fits-for wrong b i h = absurd h

few : (s : Children) (b : List ℕ) (n i : ℕ) → T (span_fits s b n i) → arity s ≤ 2
few leaf b n i h = omega arith
few one b n i h = omega arith
few two b n i h = omega arith
few wrong b n i h = absurd h

-- what a span says where there is a first or a second child
for-pos : (a : ℕ) (b : List ℕ) (i : ℕ) → SpanFor a b i → 1 ≤ span_at b i
for-pos zero b i h = omega arith
for-pos (suc zero) b i h = omega arith
for-pos (suc (suc a)) b i h = omega arith

for-down : (a : ℕ) (b : List ℕ) (i : ℕ) → 1 ≤ a → SpanFor a b i → (i + 1 < records_of b) × (span_at b (i + 1) < span_at b i)
for-down zero b i l h = absurd (omega arith)
for-down (suc zero) b i l h = (h.0, omega arith)
for-down (suc (suc a)) b i l h = (h.0, omega arith)

for-next : (a : ℕ) (b : List ℕ) (i : ℕ) → 2 ≤ a → SpanFor a b i → (second_at b i < records_of b) × (span_at b (i + 1) + span_at b (second_at b i) < span_at b i)
for-next zero b i l h = absurd (omega arith)
for-next (suc zero) b i l h = absurd (omega arith)
for-next (suc (suc a)) b i l h = (h.1, omega arith)

-- ---- a place

module _ (b : List ℕ) (i : ℕ) (p : Place b i) where
  here : T (span_fits (row_at b i).children b (records_of b) i)
  here = both_left (span_fits (row_at b i).children b (records_of b) i) (not (eqb i 0) || eqb (span_at b 0) (records_of b)) (p.shape i p.inside)

  pub children-most : children_of (kind_at b i) ≤ 2
  unfolding children_of
  children-most = few (row_at b i).children b (records_of b) i here

  pub kind-most : kind_at b i < 20
  kind-most = go (ltb (kind_at b i) 20) refl
    where
      go : (x : Bool) → ltb (kind_at b i) 20 ≡ x → kind_at b i < 20
      go true e = ltb→lt (kind_at b i) 20 (subst T (sym e) tt)
      go false e = absurd (omega (arith, children-most, over-19 (kind_at b i) (omega (arith, ltb-false (kind_at b i) 20 e))))

  pub span-for : SpanFor (children_of (kind_at b i)) b i
  unfolding children_of
  span-for = fits-for (row_at b i).children b i here

  pub span_pos : 1 ≤ span_at b i
  span_pos = for-pos (children_of (kind_at b i)) b i span-for

  -- the first child's place, and that its span is less
  pub down-place : 1 ≤ children_of (kind_at b i) → Place b (i + 1)
  down-place h = record { shape = p.shape; inside = (for-down (children_of (kind_at b i)) b i h span-for).0 }

  pub down-falls : 1 ≤ children_of (kind_at b i) → span_at b (i + 1) < span_at b i
  down-falls h = (for-down (children_of (kind_at b i)) b i h span-for).1

  -- the second child's place, and that both spans together are less
  pub next_place : 2 ≤ children_of (kind_at b i) → Place b (second_at b i)
  next_place h = record { shape = p.shape; inside = (for-next (children_of (kind_at b i)) b i h span-for).0 }

  pub next-falls : 2 ≤ children_of (kind_at b i) → span_at b (i + 1) + span_at b (second_at b i) < span_at b i
  next-falls h = (for-next (children_of (kind_at b i)) b i h span-for).1

-- record 0 spans the table
pub root-span : (b : List ℕ) → Place b 0 → span_at b 0 ≡ records_of b
root-span b p = eqb→eq (span_at b 0) (records_of b) (both_right (span_fits (row_at b 0).children b (records_of b) 0) (not (eqb 0 0) || eqb (span_at b 0) (records_of b)) (p.shape 0 p.inside))
