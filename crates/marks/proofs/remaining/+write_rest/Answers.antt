-- What remains of a construct, written by what it leaves.
use Rattle.std.proofs.Common.{◌+◌, ◌*◌, sym, ap, ◌∙◌, arith}
use Rattle.std.proofs.lemmas.List.Edits.{sets}
use Rattle.table.specs.Places.{tree_of}
use Rattle.marks.proofs.Leavings.{all-span, only-span, both-span, par-span, whole-span}
use Rattle.marks.proofs.Writing.{nothing-records, all-records, only-records, parts-stored, whole-is}
use Rattle.marks.proofs.remaining.+write_rest.Goals as goal

pub write_whole-requires-clause-room : goal.write_whole-requires-clause-room
write_whole-requires-clause-room t c = omega (arith, c.loop-out.invariant.room, all-span _ c.loop-out.part.at.marks.now _ c.loop-out.part.at.stands.place c.in-Whole.ensures)

pub write_rest-requires : goal.write_rest-requires
write_rest-requires t c =
    let e = c.in-Both.ensures in
    (omega (arith, c.loop-out.invariant.smaller, e.0.falls), omega (arith, c.loop-out.invariant.room, both-span e.0 e.1 e.2, c.write_head.auto.out))

pub write_whole-requires-in-Sequence : goal.write_whole-requires-in-Sequence
write_whole-requires-in-Sequence t c =
    let e = c.in-Both.ensures in
    let other = c.in-Both.other in
    record {
      sound = other.sound;
      room = omega (arith, c.loop-out.invariant.room, both-span e.0 e.1 e.2, c.count-in-Both.ensures.records, whole-span c.in-Sequence.is other.at.marks.now other.at.table.now other.at.place other.at.stands.place, c.write_rest.auto.out, c.write_head.auto.out);
    }

pub returns-in-Nothing : goal.returns-in-Nothing
returns-in-Nothing t c = c.loop-out.invariant.stores _ (ap (sets c.loop-out.out (8 * c.loop-out.at)) (sym (nothing-records _ _ c.in-Nothing.ensures)))

pub returns-in-Whole : goal.returns-in-Whole
returns-in-Whole t c = c.loop-out.invariant.stores _ (c.write_whole.ensures ∙ ap (sets c.loop-out.out (8 * c.loop-out.at)) (sym (all-records _ _ c.in-Whole.ensures)))

pub loop-out-preserved-in-Only : goal.loop-out-preserved-in-Only
loop-out-preserved-in-Only t c =
    let e = c.in-Only.ensures in
    record {
      smaller = omega (arith, c.loop-out.invariant.smaller, e.0.falls);
      room = omega (arith, c.loop-out.invariant.room, only-span e.0 e.1);
      stores = λ o h. c.loop-out.invariant.stores o (h ∙ ap (sets c.loop-out.out (8 * c.loop-out.at)) (only-records e.0 e.1));
    }

pub loop-out-preserved : goal.loop-out-preserved
loop-out-preserved t c =
    let e = c.in-Both.ensures in
    record {
      smaller = omega (arith, c.loop-out.invariant.smaller, e.1.falls);
      room = omega (arith, c.loop-out.invariant.room, both-span e.0 e.1 e.2, par-span c.in-Par.is c.in-Both.other.at.marks.now (tree_of c.in-Both.other.at.table.now c.in-Both.other.at.place), c.count-in-Both.ensures.records, c.write_rest.auto.out, c.write_head.auto.out);
      stores = λ o h. c.loop-out.invariant.stores o (parts-stored e.0 e.1 e.2 c.loop-out.out c.loop-out.at c.number.ensures c.count.ensures.records c.count-in-Both.ensures.records c.write_head.ensures c.write_rest.ensures (h ∙ rw c.in-Par.is));
    }

pub returns-in-Sequence : goal.returns-in-Sequence
returns-in-Sequence t c =
    let e = c.in-Both.ensures in
    let other = c.in-Both.other in
    c.loop-out.invariant.stores _ (parts-stored e.0 e.1 e.2 c.loop-out.out c.loop-out.at c.number.ensures c.count.ensures.records c.count-in-Both.ensures.records c.write_head.ensures c.write_rest.ensures
    (c.write_whole-in-Sequence.ensures ∙ ap (sets c.write_rest.new.out (8 * (c.loop-out.at + 1 + c.count-in-Both.result))) (sym (whole-is c.in-Sequence.is other.at.marks.now (tree_of other.at.table.now other.at.place)))))
