-- The construct's span.
use Rattle.rules.specs.Table.{span_at}
use Rattle.marks.proofs.fitting.+see.Given as goal

abbrev pub decreases-see : goal.decreases-see
decreases-see l = span_at l.at.table.now l.at.place
