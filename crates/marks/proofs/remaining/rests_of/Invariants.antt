-- The places from here on are counted.
use Rattle.marks.specs.Rest.{Rests}
use Rattle.marks.proofs.remaining.rests_of.Given as goal

abbrev pub invariant-loop-place : goal.invariant-loop-place
invariant-loop-place l = Rests l.program.table.now l.program.marks.now l.place l.rests
