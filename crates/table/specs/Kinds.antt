-- How many children a kind has.
use Rattle.std.specs.Prelude.{ℕ, get_or}
use Rattle.rules.specs.Table.{Children, leaf, one, two, wrong, Kind, kinds, over19}

abbrev pub row_of : ℕ → Kind
row_of k = get_or kinds k over19

-- 3 stands for a kind over 19
abbrev pub arity : Children → ℕ
arity leaf = 0
arity one = 1
arity two = 2
arity wrong = 3

unfoldable pub children_of : ℕ → ℕ
children_of k = arity (row_of k).children
