-- A bound of products, for the announced numbers.
-- Assumes nothing.
use Prim.Native.Nat.{ℕ, ◌*◌, ◌≤◌}
use native.Mathlib.Nat.{mul-le-mul_left, mul-le-mul_right, le_trans}

pub product-bound : (a b c d : ℕ) → a ≤ c → b ≤ d → a * b ≤ c * d
product-bound a b c d p q = le_trans (mul-le-mul_left a q) (mul-le-mul_right d p)
