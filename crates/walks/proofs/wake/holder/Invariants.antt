-- All that may hear stands at the construct and below.
use Rattle.std.proofs.Common.{◌≡◌, ◌-◌}
use Rattle.rules.specs.Table.{records_of}
use Rattle.walks.specs.Listening.{HeardIn}
use Rattle.walks.proofs.wake.holder.Given as goal

abbrev pub invariant-loop-part : goal.invariant-loop-part
invariant-loop-part l = record {
  same : l.at.table.now ≡ l.program.table.now;
  heard : HeardIn l.at.table.now l.reach l.at.place;
}

abbrev pub decreases-loop-part : goal.decreases-loop-part
decreases-loop-part l = records_of l.at.table.now - l.at.place
