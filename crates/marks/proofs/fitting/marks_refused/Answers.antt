-- Stage 8: the marks' number, the lowest mark that is wrong, the lowest construct that does not fit.
use Rattle.marks.proofs.Seeing.{refuses-length, refuses-mark, refuses-misfit}
use Rattle.marks.proofs.fitting.marks_refused.Goals as goal

pub returns-then-marks-table-clause-refused : goal.returns-then-marks-table-clause-refused
returns-then-marks-table-clause-refused c = refuses-length _ _ c.if-marks-table.true

pub returns-in-None-clause-refused : goal.returns-in-None-clause-refused
returns-in-None-clause-refused c = refuses-misfit _ _ c.if-marks-table.false c.in-None.ensures.first c.see.ensures.seen

pub returns-in_default-clause-refused : goal.returns-in_default-clause-refused
returns-in_default-clause-refused c = refuses-mark _ _ c.if-marks-table.false _ c.first_mark.ensures.first c.in_default.not-None
