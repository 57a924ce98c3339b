-- Two for each record of the span, and the rank of the function.
use Rattle.std.proofs.Common.{◌+◌, ◌*◌}
use Rattle.rules.specs.Table.{span_at}
use Rattle.walks.proofs.exec.+exec.Given as goal

abbrev pub decreases-exec : goal.decreases-exec
decreases-exec l = span_at l.at.table.now l.at.place * 2 + 1

abbrev pub decreases-exec_seq : goal.decreases-exec_seq
decreases-exec_seq l = span_at l.at.table.now l.at.place * 2

abbrev pub decreases-exec_par : goal.decreases-exec_par
decreases-exec_par l = span_at l.at.table.now l.at.place * 2
