-- What remains of the whole program.
use Rattle.std.proofs.Common.{arith}
use Rattle.marks.proofs.Seeing.{sized}
use Rattle.marks.proofs.WholeProgram.{most-rest}
use Rattle.marks.proofs.remaining.remaining_span.Goals as goal

pub invariant_of-program : goal.invariant_of-program
invariant_of-program c = record { stands = record { place = c.requires.sound.root; sized = sized _ _ c.requires.passes } }

pub returns-clause-records : goal.returns-clause-records
returns-clause-records c = omega (arith, most-rest _ _ (rw c.of.ensures at c.count.ensures.records))
