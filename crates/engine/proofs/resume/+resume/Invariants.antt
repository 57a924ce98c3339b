-- Four for each record of the span, and the rank of the function.
use Rattle.std.proofs.Common.{◌+◌, ◌*◌}
use Rattle.rules.specs.Table.{span_at}
use Rattle.engine.proofs.resume.+resume.Given as goal

abbrev pub decreases-resume : goal.decreases-resume
decreases-resume l = span_at l.at.table.now l.at.place * 4 + 2

abbrev pub decreases-resume_part : goal.decreases-resume_part
decreases-resume_part l = span_at l.at.table.now l.at.place * 4 + 3

abbrev pub decreases-if_goes_on : goal.decreases-if_goes_on
decreases-if_goes_on l = span_at l.right.table.now l.right.place * 4 + 3

abbrev pub decreases-seq_goes_on : goal.decreases-seq_goes_on
decreases-seq_goes_on l = span_at l.right.table.now l.right.place * 4 + 3

abbrev pub decreases-fork_goes_on : goal.decreases-fork_goes_on
decreases-fork_goes_on l = span_at l.fork.at.table.now l.fork.at.place * 4 + 1
