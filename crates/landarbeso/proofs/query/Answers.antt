-- A table that passes its stages is sound.
use Rattle.landarbeso.proofs.Verdicts.{passed-sound}
use Rattle.landarbeso.proofs.query.Goals as goal

pub ask-requires-clause-sound : goal.ask-requires-clause-sound
ask-requires-clause-sound c = passed-sound c.args.table.now c.args.marks.now c.in_ok-marks_stages.ensures
