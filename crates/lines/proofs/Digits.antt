-- The digits of a number: the last one behind those of a tenth, and a sign before those of a negative one. They are what the library prints.
-- Assumes nothing.
use Rattle.std.proofs.Common.{◌≡◌, refl, ap, ◌∙◌, ℕ, zero, suc, ◌+◌, ◌-◌, ◌/◌, ◌%◌, ◌^◌, ◌<◌, ◌≤◌, Bool, true, false, List, [], ◌∷◌, ◌++◌, ltb, ℤ, pos, negsuc, w32, of_z, arith, lt-ltb, le-ltb, length, length-append, true≢false}
use Rattle.std.specs.Prelude.{if◌then◌else◌}
use Rattle.std.specs.Fmt as printed
use Rattle.std.proofs.lemmas.Fmt.{AppendsLastDigit, decimal_from_appends, length-decimal-le_succ}
use native.Mathlib.Nat.{pow-succ'}
use borrow.Author.Tests.{ltb-true, ltb-false}
use lib.Signed.{lt_z}
use mir.Val.{SFits}
use Rattle.std.specs.Int.RustNames.{unsigned_abs}
use Rattle.lines.specs.Lines.{ascii, digit, last_digits, decimal, signed_decimal}

-- ---- laws of the definitions

else_same : (b : Bool) (x y z : List ℕ) → (b ≡ false → y ≡ z) → (if b then x else y) ≡ (if b then x else z)
else_same true x y z h = refl
else_same false x y z h = h refl

-- a further limit changes nothing
enough : (k j n : ℕ) → n < k → n < j → last_digits k n ≡ last_digits j n
unfolding last_digits
enough zero j n h g = absurd (omega arith)
enough (suc k) zero n h g = absurd (omega arith)
enough (suc k) (suc j) n h g =
    else_same (ltb n 10) _ _ _
    (λ e.
    let m : 10 ≤ n = ltb-false n 10 e in
    rw (enough k j (n / 10) (omega arith) (omega arith)))

pub one-digit : (n : ℕ) → n < 10 → decimal n ≡ digit n ∷ []
unfolding decimal last_digits
one-digit n h = rw (lt-ltb n 10 h)

pub more-digits : (n : ℕ) → 10 ≤ n → decimal n ≡ decimal (n / 10) ++ (digit (n % 10) ∷ [])
unfolding decimal last_digits
more-digits n h = rw (le-ltb n 10 h) (ap (λ ds. ds ++ (digit (n % 10) ∷ [])) (enough n (suc (n / 10)) (n / 10) (omega arith) (omega arith)))

pub few-digits : (k n : ℕ) → n < 10 ^ suc k → length (decimal n) ≤ suc k
few-digits zero n h = omega (arith, ap length (one-digit n (omega arith)))
few-digits (suc k) n h = go (ltb n 10) refl (few-digits k (n / 10) (omega (arith, pow-succ' 10 (suc k))))
  where
    go : (b : Bool) → ltb n 10 ≡ b → length (decimal (n / 10)) ≤ suc k → length (decimal n) ≤ suc (suc k)
    go true e fewer = omega (arith, ap length (one-digit n (ltb-true n 10 e)))
    go false e fewer = omega (arith, ap length (more-digits n (ltb-false n 10 e)), length-append (decimal (n / 10)) (digit (n % 10) ∷ []))

-- a sign and ten digits
pub few-signed : (z : ℤ) → SFits w32 z → length (signed_decimal z) ≤ 11
unfolding signed_decimal
few-signed (pos n) f = let l : n < 2 ^ 31 = f.sfits in omega (arith, few-digits 9 n (omega arith))
few-signed (negsuc n) f = let l : n < 2 ^ 31 = f.sfits in omega (arith, few-digits 9 (suc n) (omega arith))

-- the length behind each of the two laws
pub one-length : (n : ℕ) → n < 10 → length (decimal n) ≡ 1
one-length n h = ap length (one-digit n h)

pub more-length : (n : ℕ) → 10 ≤ n → length (decimal n) ≡ length (decimal (n / 10)) + 1
more-length n h = ap length (more-digits n h) ∙ length-append (decimal (n / 10)) (digit (n % 10) ∷ [])

-- ---- a number of 32 signed bits, read from its bits

pub plain-digits : (z : ℤ) → SFits w32 z → of_z w32 z < 2 ^ 31 → signed_decimal z ≡ decimal (of_z w32 z)
unfolding signed_decimal
plain-digits (pos n) f h = refl
plain-digits (negsuc n) f h = let l : n < 2 ^ 31 = f.sfits in absurd (omega arith)

pub minus-digits : (z : ℤ) → SFits w32 z → 2 ^ 31 ≤ of_z w32 z → signed_decimal z ≡ ascii "-" ++ decimal (2 ^ 32 - of_z w32 z)
unfolding signed_decimal
minus-digits (pos n) f h = let l : n < 2 ^ 31 = f.sfits in absurd (omega arith)
minus-digits (negsuc n) f h =
    let l : n < 2 ^ 31 = f.sfits in
    let magnitude : suc n ≡ 2 ^ 32 - (2 ^ 32 - suc n) = omega arith in
    ap (λ m. ascii "-" ++ decimal m) magnitude

-- by its magnitude
pub plain-magnitude : (z : ℤ) → lt_z z (pos 0) ≡ false → decimal (unsigned_abs z) ≡ signed_decimal z
unfolding signed_decimal
plain-magnitude (pos n) h = refl
plain-magnitude (negsuc n) h = absurd (true≢false h)

pub minus-magnitude : (z : ℤ) → lt_z z (pos 0) ≡ true → ascii "-" ++ decimal (unsigned_abs z) ≡ signed_decimal z
unfolding signed_decimal
minus-magnitude (pos n) h = absurd (omega (arith, ltb-true n 0 h))
minus-magnitude (negsuc n) h = refl

-- ---- what the library prints

by_last_digit : AppendsLastDigit last_digits
unfolding last_digits
by_last_digit = record { one = λ k n h. rw (lt-ltb n 10 h); more = λ k n h. rw (le-ltb n 10 h) }

pub printed-decimal : (n : ℕ) → n < 2 ^ 64 → decimal n ≡ printed.decimal n
unfolding decimal
printed-decimal n h = decimal_from_appends last_digits by_last_digit (suc n) n h (omega (arith, length-decimal-le_succ n h))

pub printed-signed : (z : ℤ) → SFits w32 z → signed_decimal z ≡ printed.signed_decimal z
unfolding signed_decimal
printed-signed (pos n) f = let l : n < 2 ^ 31 = f.sfits in printed-decimal n (omega arith)
printed-signed (negsuc n) f = let l : n < 2 ^ 31 = f.sfits in ap (λ ds. 45 ∷ ds) (printed-decimal (suc n) (omega arith))
