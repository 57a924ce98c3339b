-- Numbers of 32 signed bits (in code an `i32`), and their four bytes.
use Rattle.std.specs.Prelude.{Bool, false, List, [], ◌∷◌, ℕ, suc, ◌+◌, ◌-◌, ◌*◌, ◌/◌, ◌%◌, ◌^◌, ℤ, pos, negsuc, ◌+ℤ◌, ◌-ℤ◌, eqb, if◌then◌else◌}
use Rattle.std.specs.Int.Signed.{lt_z, quot_z}
use Rattle.std.proofs.Common.{to_z, of_z}
use Rattle.std.specs.Int.{w32}

-- a whole number taken modulo 2^32 into the range of 32 signed bits
unfoldable pub wrap : ℤ → ℤ
wrap (pos n) = to_z w32 (n % 2 ^ 32)
wrap (negsuc n) = to_z w32 (2 ^ 32 - suc (n % 2 ^ 32))

unfoldable pub sum : ℤ → ℤ → ℤ
unfolding wrap
sum a b = wrap (a +ℤ b)

unfoldable pub difference : ℤ → ℤ → ℤ
unfolding wrap
difference a b = wrap (a -ℤ b)

abbrev pub is_zero : ℤ → Bool
is_zero (pos n) = eqb n 0
is_zero (negsuc n) = false

-- towards zero; by 0 it gives 0; -2147483648 / -1 wraps to -2147483648
unfoldable pub quotient : ℤ → ℤ → ℤ
unfolding wrap
quotient a b = if is_zero b then pos 0 else wrap (quot_z a b)

-- 1 if a < b, else 0
abbrev pub is_less : ℤ → ℤ → ℤ
is_less a b = if lt_z a b then pos 1 else pos 0

-- four bytes, the lowest first
abbrev pub num32 : ℕ → ℕ → ℕ → ℕ → ℤ
num32 a b c d = to_z w32 (a + 256 * b + 256 * 256 * c + 256 * 256 * 256 * d)

abbrev pub four_bytes : ℕ → List ℕ
four_bytes n = n % 256 ∷ n / 256 % 256 ∷ n / 65536 % 256 ∷ n / 16777216 ∷ []

abbrev pub bytes32 : ℤ → List ℕ
bytes32 z = four_bytes (of_z w32 z)
