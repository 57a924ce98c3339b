-- The first i records have been heard.
use Rattle.walks.specs.Listening.{HeardAmong}
use Rattle.walks.proofs.listeners.Listeners.listen.Given as goal

abbrev pub invariant-loop-i : goal.invariant-loop-i
invariant-loop-i l = HeardAmong l.table l.i l.self
