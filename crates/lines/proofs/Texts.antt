-- Text put behind text is the two joined.
-- Assumes nothing.
use mathlib.Core.Path.{◌≡◌, sym, ap, ◌∙◌}
use mathlib.Core.List.{List, [], ◌∷◌, ◌++◌}
use Prim.Native.Nat.{ℕ, suc, ◌+◌, ◌≤◌}
use native.Mathlib.Nat.{add-zero}
use native.Mathlib.Omega.{arith}
use lib.ListN.{length, set, take, length-append}
use lib.Seq.{sets, length-sets, length-take-le}
use Rattle.lines.specs.Writes.{Puts, Line, most_line}

pub sets-append : (l : List ℕ) (i : ℕ) (a b : List ℕ) → sets l i (a ++ b) ≡ sets (sets l i a) (i + length a) b
sets-append l i [] b = ap (λ k. sets l k b) (sym (add-zero i))
sets-append l i (x ∷ a) b =
    let same : suc i + length a ≡ i + suc (length a) = omega arith in
    sets-append (set l i x) (suc i) a b ∙ ap (λ k. sets (sets (set l i x) (suc i) a) k b) same

infixr 20 ◌then◌
pub ◌then◌ : {a b l m n : List ℕ} {i j k : ℕ} → Puts a l i m j → Puts b m j n k → Puts (a ++ b) l i n k
◌then◌ {a} {b} {l} {m} {n} {i} {j} {k} p q = record { bytes = whole; end = omega (arith, p.end, q.end, length-append a b) }
  where
    whole : n ≡ sets l i (a ++ b)
    whole = rw (sets-append, ← p.bytes, ← p.end) q.bytes

-- the same text in other words
pub puts-is : {a b l m : List ℕ} {i j : ℕ} → a ≡ b → Puts a l i m j → Puts b l i m j
puts-is e p = rw e at p

-- ---- a line in a buffer of its size

module _ {text before after : List ℕ} {n : ℕ} (l : Line text before after n) (size : length before ≡ most_line) where
  pub line-fits : n ≤ length after
  line-fits = omega (arith, l.within, size, ap length l.is.bytes, length-sets before 0 text)

  pub line-length : n ≡ length (take n after)
  line-length = sym (length-take-le n after line-fits)
