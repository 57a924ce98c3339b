-- Runs of bytes stored in a buffer, one after the other.
-- Assumes nothing.
use mathlib.Core.Path.{◌≡◌, ◌∙◌}
use mathlib.Core.List.{List, [], ◌∷◌, ◌++◌}
use Prim.Native.Nat.{ℕ, suc, ◌+◌, ◌≤◌, ◌<◌}
use native.Mathlib.Omega.{arith}
use lib.ListN.{length, get_or, take, set}
use lib.Seq.{sets, sets-eq, take-suc, length-take-le, take-length}
use Rattle.rules.specs.Calls.{onto}

-- one run, and the next behind it
pub stored-after : (l : List ℕ) (i : ℕ) (vs ws : List ℕ) {n : ℕ} → n ≡ i + length vs → sets (sets l i vs) n ws ≡ sets l i (vs ++ ws)
stored-after l i [] ws e = let f : i + 0 ≡ i = omega arith in rw (e, f)
stored-after l i (v ∷ vs) ws {n} e = stored-after (set l i v) (suc i) vs ws (omega arith)

-- a run at the front
pub stored-front : (l vs : List ℕ) {n : ℕ} → n ≡ 0 → length vs ≤ length l → sets l n vs ≡ onto vs l
stored-front l vs e h = let f : 0 + length vs ≡ length vs = omega arith in rw (e, sets-eq vs l 0 (omega arith), f)

-- one byte more of a copy
pub copied-more : (l s : List ℕ) (to j : ℕ) {out : List ℕ} → out ≡ sets l to (take j s) → j < length s → set out (to + j) (get_or s j 0) ≡ sets l to (take (j + 1) s)
copied-more l s to j e k =
    let n : j + 1 ≡ suc j = omega arith in
    rw (e, n, take-suc s j 0 k)
    (stored-after l to (take j s) (get_or s j 0 ∷ []) (omega (arith, length-take-le j s (omega arith))))

pub copied-all : (l s : List ℕ) (to j : ℕ) {out : List ℕ} → out ≡ sets l to (take j s) → j ≡ length s → out ≡ sets l to s
copied-all l s to j e h = e ∙ rw (h, take-length s)

-- a number and a numeral, one by one
pub record Sums (n : ℕ) : Type 0 where
  pub one : n + 1 ≡ suc n
  pub two : n + 2 ≡ suc (suc n)
  pub three : n + 3 ≡ suc (suc (suc n))
  pub four : n + 4 ≡ suc (suc (suc (suc n)))
  pub five : n + 5 ≡ suc (suc (suc (suc (suc n))))
  pub six : n + 6 ≡ suc (suc (suc (suc (suc (suc n)))))
  pub seven : n + 7 ≡ suc (suc (suc (suc (suc (suc (suc n))))))

pub sums : (n : ℕ) → Sums n
sums n = record { one = omega arith; two = omega arith; three = omega arith; four = omega arith; five = omega arith; six = omega arith; seven = omega arith }
