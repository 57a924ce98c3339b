-- A construct's records are its bytes in the table.
use Rattle.std.proofs.Common.{arith}
use Rattle.table.proofs.Trees.{span-inside}
use Rattle.marks.proofs.Copies.{whole-records}
use Rattle.marks.proofs.remaining.records_at.Goals as goal

pub slice_bounds-result-end : goal.slice_bounds-result-end
slice_bounds-result-end c = omega (arith, c.span_at-bytes.ensures.span, span-inside _ _ c.requires.place)

pub returns : goal.returns
returns c = whole-records _ c.requires.sound (λ j. omega (arith, c.type_inv.table j)) _ c.requires.place c.span_at-bytes.ensures.span (omega arith)
