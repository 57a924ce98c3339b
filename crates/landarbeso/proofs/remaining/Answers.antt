-- `remaining` answers and leaves what document 01's call does, for every input.
use Rattle.std.proofs.lemmas.Result.{err_from_is_err_and}
use Rattle.landarbeso.proofs.Verdicts.{passed-sound, remains-refused, remains-short, remains-whole}
use Rattle.landarbeso.proofs.remaining.Goals as goal

pub returns-in_err-marks_stages : goal.returns-in_err-marks_stages
returns-in_err-marks_stages c =
    let p = err_from_is_err_and c.from_residual.result c.from_residual.ensures.1 in
    rw (p.1, p.2) (remains-refused c.args.table.now c.args.marks.now c.args.out.now _ c.in_err-marks_stages.ensures)

pub remaining_span-requires-clause-sound : goal.remaining_span-requires-clause-sound
remaining_span-requires-clause-sound c = passed-sound c.args.table.now c.args.marks.now c.in_ok-marks_stages.ensures

pub returns-then-out-remaining_span : goal.returns-then-out-remaining_span
returns-then-out-remaining_span c =
    remains-short c.args.table.now c.args.marks.now c.args.out.now c.in_ok-marks_stages.ensures c.remaining_span.ensures.records c.if-out-remaining_span.true c.at.result c.at.ensures

pub write_remaining-records-requires-clause-sound : goal.write_remaining-records-requires-clause-sound
write_remaining-records-requires-clause-sound c = passed-sound c.args.table.now c.args.marks.now c.in_ok-marks_stages.ensures

pub returns : goal.returns
returns c =
    remains-whole c.args.table.now c.args.marks.now c.args.out.now c.in_ok-marks_stages.ensures c.remaining_span.ensures.records c.if-out-remaining_span.false c.write_remaining-records.ensures.records c.write_remaining-records.ensures.written
