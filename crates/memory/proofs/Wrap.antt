-- What std's wrapping methods leave of a sum, a difference and a quotient is what the rules take modulo 2^32.
-- Assumes nothing.
use Rattle.std.proofs.Common.{◌≡◌, ℕ, zero, suc, ◌/◌, ◌^◌, ◌<◌, ◌≤◌, ℤ, pos, negsuc, ◌+ℤ◌, ◌-ℤ◌, neg_ℤ, refl, sym, ap, ◌∙◌, arith, div-le_self, eq-eqb, ne_eqb, w32, SFits, to_z, of_z}
use Rattle.std.proofs.lemmas.Int.{wrapping_add_is, wrapping_sub_is}
use Rattle.std.specs.Int.{int_wrap, int_wrapping_add, int_wrapping_sub, int_wrapping_div}
use lib.Signed.{mag, quot_z}
use Rattle.rules.specs.Number.{wrap, sum, difference, quotient}

wraps : (z : ℤ) → int_wrap w32 z ≡ wrap z
unfolding int_wrap wrap
wraps (pos n) = refl
wraps (negsuc n) = ap (to_z w32) (omega arith)

module _ (a b : ℤ) (f : SFits w32 a) where
  pub sum_wraps : SFits w32 b → int_wrapping_add w32 a b ≡ sum a b
  unfolding sum
  sum_wraps g = wrapping_add_is w32 a b f g ∙ wraps (a +ℤ b)

  pub difference_wraps : SFits w32 b → int_wrapping_sub w32 a b ≡ difference a b
  unfolding difference
  difference_wraps g = wrapping_sub_is w32 a b f g ∙ wraps (a -ℤ b)

-- ---- the quotient

pub quotient_by_zero : (a b : ℤ) → SFits w32 b → of_z w32 b ≡ 0 → quotient a b ≡ pos 0
unfolding quotient
quotient_by_zero a (pos n) f e = rw (eq-eqb n 0 e)
quotient_by_zero a (negsuc n) f e = let h : n < 2 ^ 31 = f.sfits in absurd (omega arith)

by-other : (a b : ℤ) → (of_z w32 b ≡ 0 → ⊥) → quotient a b ≡ wrap (quot_z a b)
unfolding quotient
by-other a (pos n) e = rw (ne_eqb n 0 e)
by-other a (negsuc n) e = refl

negated : (q : ℕ) → mag (neg_ℤ (pos q)) ≤ q
negated zero = omega arith
negated (suc q) = omega arith

magnitude : (a b : ℤ) → mag (quot_z a b) ≤ suc (mag a)
magnitude (pos a) (pos b) = omega (arith, div-le_self a b)
magnitude (pos a) (negsuc b) = omega (arith, negated (a / suc b), div-le_self a (suc b))
magnitude (negsuc a) (pos b) = omega (arith, negated (suc a / b), div-le_self (suc a) b)
magnitude (negsuc a) (negsuc b) = div-le_self (suc a) (suc b)

-- 32 bits hold it
low : (z : ℤ) → mag z < 2 ^ 32 → to_z w32 (of_z w32 z) ≡ wrap z
unfolding wrap
low (pos n) h = ap (to_z w32) (omega arith)
low (negsuc n) h = ap (to_z w32) (omega arith)

pub quotient_wraps : (a b : ℤ) → SFits w32 a → (of_z w32 b ≡ 0 → ⊥) → int_wrapping_div w32 a b ≡ quotient a b
quotient_wraps a b f e = low (quot_z a b) (omega (arith, magnitude a b, f.sfits)) ∙ sym (by-other a b e)
