-- What holds at each of the numbers below a numeral, said once.
-- Assumes nothing.
use mathlib.Core.Path.{◌≡◌, subst}
use Prim.Native.Nat.{ℕ, zero, suc, ◌+◌, ◌<◌}
use native.Mathlib.Omega.{arith}

-- P from m on, at n numbers
abbrev pub Each : (ℕ → Type 0) → ℕ → ℕ → Type 0
Each P m zero = Unit {0}
Each P m (suc n) = P m × Each P (suc m) n

from : (P : ℕ → Type 0) (n m : ℕ) → Each P m n → (k : ℕ) → k < n → P (m + k)
from P zero m a k h = absurd (omega arith)
from P (suc n) m a zero h = let e : m ≡ m + 0 = omega arith in subst P e a.0
from P (suc n) m a (suc k) h = let e : suc m + k ≡ m + suc k = omega arith in subst P e (from P n (suc m) a.1 k (omega arith))

pub each : (P : ℕ → Type 0) (n : ℕ) → Each P 0 n → (k : ℕ) → k < n → P k
each P n a k h = let e : 0 + k ≡ k = omega arith in subst P e (from P n 0 a k h)
