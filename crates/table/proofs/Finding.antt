-- The places that fail a test, place by place; the lowest of them, also of two lists, and the refusal that it stands for.
-- Assumes nothing.
use Rattle.std.specs.Prelude.{if◌then◌else◌, None, Some}
use Rattle.std.specs.Prelude as std
use mathlib.Core.Path.{◌≡◌, refl, sym, ap, subst, ◌∙◌}
use mathlib.Core.Bool.{Bool, true, false}
use mathlib.Core.List.{List, [], ◌∷◌, ◌++◌}
use mathlib.Core.Option.{Option, some}
use Prim.Native.Nat.{ℕ, zero, suc, ◌+◌, ◌-◌, ◌≤◌, ◌<◌}
use native.Mathlib.Numerals.{add-one}
use native.Mathlib.Omega.{arith}
use Rattle.rules.specs.Stages.{failing, Refusal, refusal, or_else}
use Rattle.rules.specs.Table.{records_of}
use Rattle.theory.specs.Logic.{clash}
use Rattle.table.specs.Found.{first_of, Inside, or_next, First}

-- ---- the places that fail a test, from place i on

pub failing-all : (ok : ℕ → Bool) (n : ℕ) → failing ok 0 n ≡ failing ok 0 (n - 0)
failing-all ok n = let e : n - 0 ≡ n = omega arith in rw e

module _ (ok : ℕ → Bool) (i n : ℕ) where
  pub failing-over : n ≤ i → failing ok i (n - i) ≡ []
  unfolding failing
  failing-over h = let e : n - i ≡ 0 = omega arith in rw e

  module _ (l : i < n) where
    one_more_lem : failing ok i (n - i) ≡ (if ok i then failing ok (i + 1) (n - (i + 1)) else i ∷ failing ok (i + 1) (n - (i + 1)))
    unfolding failing
    one_more_lem =
        let e : n - i ≡ suc (n - (i + 1)) = omega arith in
        let f : i + 1 ≡ suc i = omega arith in
        rw (e, f)

    pub failing-passes : ok i ≡ true → failing ok i (n - i) ≡ failing ok (i + 1) (n - (i + 1))
    failing-passes e = rw (one_more_lem, e)

    pub failing-fails : ok i ≡ false → failing ok i (n - i) ≡ i ∷ failing ok (i + 1) (n - (i + 1))
    failing-fails e = rw (one_more_lem, e)

-- ---- the lowest of them

module _ (ok : ℕ → Bool) (i n : ℕ) (l : i < n) where
  pub passes-here : ok i ≡ true → first_of (failing ok i (n - i)) ≡ first_of (failing ok (i + 1) (n - (i + 1)))
  passes-here e = ap first_of (failing-passes ok i n l e)

  pub fails-here : ok i ≡ false → first_of (failing ok i (n - i)) ≡ Some i
  fails-here e = ap first_of (failing-fails ok i n l e)

pub none_left : (ok : ℕ → Bool) (i n : ℕ) → n ≤ i → first_of (failing ok i (n - i)) ≡ None
none_left ok i n h = ap first_of (failing-over ok i n h)

pub first-append : (a b : List ℕ) → first_of (a ++ b) ≡ or_next (first_of a) (first_of b)
first-append [] b = refl
first-append (i ∷ is) b = refl

pub found_inside : (b : List ℕ) {x : std.Option ℕ} {m : ℕ} → x ≡ Some m → Inside b x → m < records_of b
found_inside b e h = subst (Inside b) e h

-- ---- what `find` over a range says

module _ (ok : ℕ → Bool) (n : ℕ) where
  passes_before : (i : ℕ) → i ≤ n → ((k : ℕ) → 0 ≤ k → k < i → ok k ≡ true) → failing ok 0 n ≡ failing ok i (n - i)
  passes_before zero h f = failing-all ok n
  passes_before (suc i) h f =
      passes_before i (omega arith) (λ k z l. f k z (omega arith))
      ∙ rw (add-one i) at (failing-passes ok i n (omega arith) (f i (omega arith) (omega arith)))

  pub first_fails : (r : std.Option ℕ) → First ok n r → r ≡ first_of (failing ok 0 n)
  first_fails None h = sym (ap first_of (passes_before n (omega arith) h ∙ failing-over ok n n (omega arith)))
  first_fails (Some i) h = sym (ap first_of (passes_before i (omega arith) h.3 ∙ failing-fails ok i n h.1 h.2))

-- ---- what was found of the places that fail a stage

pub found-fails : (is : List ℕ) {x : std.Option ℕ} {p : ℕ} → x ≡ first_of is → x ≡ Some p → (k : ℕ) (later : Option Refusal) → or_else is k later ≡ some (refusal k p)
found-fails [] e d k later = clash (cc)
found-fails (i ∷ is) {x} {p} e d k later = let q : i ≡ p = cc in rw q

pub found_none : (is : List ℕ) {x : std.Option ℕ} → x ≡ first_of is → x ≡ None → is ≡ []
found_none [] e d = refl
found_none (i ∷ is) e d = clash (cc)
