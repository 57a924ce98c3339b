-- An array of what is known of each place, filled from the last place on.
-- Assumes nothing.
use mathlib.Core.Path.{◌≡◌, refl, sym, subst, ◌∙◌}
use mathlib.Core.Bool.{Bool, true, false}
use mathlib.Core.List.{List}
use Prim.Native.Nat.{ℕ, ◌+◌, ◌≤◌, ◌<◌}
use native.Mathlib.Omega.{arith}
use lib.Dec.{eqb}
use lib.ListN.{get_or, set, length-set}
use lib.Seq.{get_or-set_same, get_or-set_other}
use borrow.Author.Tests.{eqb-true, eqb-false}
use Rattle.rules.specs.Limits.{most_records}
use Rattle.marks.specs.Fitting.{Known}

module _ {A : Type 0} {z : A} {P : ℕ → A → Type 0} {n : ℕ} (vs : List A) where
  pub known_from : {i j : ℕ} → Known z P n i vs → i ≤ j → Known z P n j vs
  known_from k h = record { many = k.many; at = λ j g l. k.at j (omega arith) l }

  pub known_more : (i : ℕ) → i < most_records → Known z P n (i + 1) vs → {v : A} → P i v → Known z P n i (set vs i v)
  known_more i l known {v} p = record { many = length-set vs i v ∙ known.many; at = λ j g h. go j g h (eqb j i) refl }
    where
      go : (j : ℕ) → i ≤ j → j < n → (y : Bool) → eqb j i ≡ y → P j (get_or (set vs i v) j z)
      go j g h true f = let q : j ≡ i = eqb-true j i f in rw q (subst (P i) (sym (get_or-set_same vs i v z (omega (arith, known.many)))) p)
      go j g h false f = subst (P j) (sym (get_or-set_other vs i j v z (eqb-false j i f))) (known.at j (omega (arith, eqb-false j i f)) h)
