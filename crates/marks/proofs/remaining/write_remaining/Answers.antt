-- What remains of the whole program, at the front of the buffer.
use Rattle.std.proofs.Common.{arith}
use Rattle.marks.proofs.Seeing.{sized}
use Rattle.marks.proofs.WholeProgram.{span-nothing, wrote_nothing, span-something, wrote-something}
use Rattle.marks.proofs.remaining.write_remaining.Goals as goal

pub invariant_of-at : goal.invariant_of-at
invariant_of-at c = record { stands = record { place = c.requires.sound.root; sized = sized _ _ c.requires.passes } }

pub write_head-requires-clause-room : goal.write_head-requires-clause-room
write_head-requires-clause-room c = omega (arith, c.requires.room, span-nothing _ _ (rw c.of-program.ensures at c.count-span.ensures.records) c.if-span-eq0.true)

pub returns-then-span-eq0-clause-records : goal.returns-then-span-eq0-clause-records
returns-then-span-eq0-clause-records c = span-nothing _ _ (rw c.of-program.ensures at c.count-span.ensures.records) c.if-span-eq0.true

pub returns-then-span-eq0-clause-written : goal.returns-then-span-eq0-clause-written
returns-then-span-eq0-clause-written c = wrote_nothing _ _ (rw c.of-program.ensures at c.count-span.ensures.records) c.if-span-eq0.true c.args.out.now c.requires.room c.write_head.ensures

pub write_rest-requires : goal.write_rest-requires
write_rest-requires c =
    omega (arith, c.requires.room, c.count-span.ensures.records, span-something _ _ (rw c.of-program.ensures at c.count-span.ensures.records) c.if-span-eq0.false)

pub returns-clause-records : goal.returns-clause-records
returns-clause-records c = span-something _ _ (rw c.of-program.ensures at c.count-span.ensures.records) c.if-span-eq0.false

pub returns-clause-written : goal.returns-clause-written
returns-clause-written c =
    wrote-something _ _ (rw c.of-program.ensures at c.count-span.ensures.records) c.if-span-eq0.false c.args.out.now c.requires.room (rw c.of-program.ensures at c.write_rest.ensures)
