-- The measure is the span.
use Rattle.rules.specs.Table.{span_at}
use Rattle.acceptance.proofs.ending.+may_break.Given as goal

abbrev pub decreases-may_break : goal.decreases-may_break
decreases-may_break l = span_at l.at.table.now l.at.place
