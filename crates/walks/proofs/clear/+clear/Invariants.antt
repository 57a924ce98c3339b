-- The span falls at each call.
use Rattle.rules.specs.Table.{span_at}
use Rattle.walks.proofs.clear.+clear.Given as goal

abbrev pub decreases-clear : goal.decreases-clear
decreases-clear l = span_at l.at.table.now l.at.place
