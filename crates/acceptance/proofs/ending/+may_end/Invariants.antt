-- The measure is the span.
use Rattle.rules.specs.Table.{span_at}
use Rattle.acceptance.proofs.ending.+may_end.Given as goal

abbrev pub decreases-may_end : goal.decreases-may_end
decreases-may_end l = span_at l.at.table.now l.at.place
