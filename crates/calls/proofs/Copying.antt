-- A list whose front is copied from another, one element a turn.
-- Assumes nothing.
use mathlib.Core.Path.{◌≡◌, sym, ap, ◌∙◌}
use mathlib.Core.List.{List, ◌++◌}
use Prim.Native.Nat.{ℕ, suc, ◌+◌, ◌<◌}
use native.Mathlib.Numerals.{add-one}
use native.Mathlib.Omega.{arith}
use lib.ListN.{length, take, drop, get_or, set}
use lib.Seq.{append_snoc, drop-cons, length-take-le, set_at, take-suc}

module _ {A : Type 0} where
  abbrev pub copied : ℕ → List A → List A → List A
  copied i s d = take i s ++ drop i d

  pub copied_more : (s d : List A) (i : ℕ) (z : A) {l : List A} {a : A} → i < length s → i < length d → l ≡ copied i s d → a ≡ get_or s i z → set l i a ≡ copied (i + 1) s d
  copied_more s d i z p q e h =
      rw (e, h, add-one i) (ap (λ (r : List A). set (take i s ++ r) i (get_or s i z)) (drop-cons d i z q)
      ∙ set_at (take i s) (get_or d i z) (drop (suc i) d) (get_or s i z) i (length-take-le i s (omega arith))
      ∙ sym (append_snoc (take i s) (get_or s i z) (drop (suc i) d))
      ∙ ap (λ (r : List A). r ++ drop (suc i) d) (sym (take-suc s i z p)))
