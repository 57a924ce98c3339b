-- Stage 3 at one record, and that its span fits; the ranges as the code has them.
use Rattle.std.specs.Prelude.{Bool, ◌&&◌, List, ℕ, zero, suc, pos}
use Rattle.rules.specs.Table.{Children, leaf, one, two, nought, anything, up_to63, one_to63, in_range, name_at, number_at, row_at, records_of, span_fits, in_kinds_table}
use Rattle.rules.specs.Table as Rules
use Rattle.acceptance.specs.declared.range.Range.{Range}
use Rattle.acceptance.specs.declared.range.Range.TheVariants.{Nought, Anything, UpTo63, OneTo63}

abbrev pub range_of : Range → Rules.Range
range_of Nought = nought
range_of Anything = anything
range_of UpTo63 = up_to63
range_of OneTo63 = one_to63

abbrev pub children_as : ℕ → Children
children_as zero = leaf
children_as (suc zero) = one
children_as (suc (suc n)) = two

abbrev pub row_fits : List ℕ → ℕ → Rules.Range → Rules.Range → Children → Bool
row_fits b i r s c = in_range r (pos (name_at b i)) && in_range s (number_at b i) && span_fits c b (records_of b) i

abbrev pub record_fits : List ℕ → ℕ → Bool
record_fits b i = in_kinds_table b i && span_fits (row_at b i).children b (records_of b) i
