-- What stage 3 says of a record's name and number.
-- Assumes nothing.
use mathlib.Core.Path.{◌≡◌, sym, ap}
use mathlib.Core.List.{List}
use Prim.Native.Nat.{ℕ, ◌≤◌}
use lib.Dec.{T, leb, eqb→eq, leb→le}
use lib.IntN.{ℤ, pos, negsuc}
use Rattle.rules.specs.Stages.{within}
use Rattle.rules.specs.Limits.{most_name}
use Rattle.rules.specs.Table.{name_at, number_at, row_at, in_range, nought, in_kinds_table}
use Rattle.theory.specs.Logic.{both_left, both_right}

module _ (b : List ℕ) (i : ℕ) (t : T (in_kinds_table b i)) where
  pub name-range : T (in_range (row_at b i).name (pos (name_at b i)))
  name-range = both_left (in_range (row_at b i).name (pos (name_at b i))) (in_range (row_at b i).number (number_at b i)) t

  pub number-range : T (in_range (row_at b i).number (number_at b i))
  number-range = both_right (in_range (row_at b i).name (pos (name_at b i))) (in_range (row_at b i).number (number_at b i)) t

pub nought-name : (n : ℕ) → T (in_range nought (pos n)) → 0 ≡ n
nought-name n t = sym (eqb→eq n 0 t)

pub nought-number : (z : ℤ) → T (in_range nought z) → pos 0 ≡ z
nought-number (pos n) t = ap pos (nought-name n t)
nought-number (negsuc n) t = absurd t

pub event-name : (n : ℕ) → T (within 1 most_name n) → (1 ≤ n) × (n ≤ most_name)
event-name n t = (leb→le 1 n (both_left (leb 1 n) (leb n most_name) t), leb→le n most_name (both_right (leb 1 n) (leb n most_name) t))
