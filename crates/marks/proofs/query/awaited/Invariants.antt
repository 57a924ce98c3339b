-- The walk has come to this place.
use Rattle.std.proofs.Common.{◌-◌}
use Rattle.marks.proofs.Onward.{Walked}
use Rattle.marks.proofs.query.awaited.Given as goal

abbrev pub invariant-loop-place : goal.invariant-loop-place
invariant-loop-place l = Walked l.table l.marks l.place l.set

abbrev pub decreases-loop-place : goal.decreases-loop-place
decreases-loop-place l = l.records - l.place
