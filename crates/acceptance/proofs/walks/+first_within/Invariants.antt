-- The measure is the span.
use Rattle.rules.specs.Table.{span_at}
use Rattle.acceptance.proofs.walks.+first_within.Given as goal

abbrev pub decreases-first_within : goal.decreases-first_within
decreases-first_within g l = span_at l.visit.at.table.now l.visit.at.place
