-- Two for each record of the span, and the rank of the function.
use Rattle.std.proofs.Common.{◌≡◌, ◌+◌, ◌*◌, ◌≤◌}
use Rattle.rules.specs.Table.{span_at}
use Rattle.rules.specs.Step.{wakes}
use Rattle.theory.specs.State.{awake}
use Rattle.table.specs.Constructs.{tree}
use Rattle.walks.specs.Walks.{event_from}
use Rattle.walks.proofs.wake.+awake.Given as goal

abbrev pub decreases-awake : goal.decreases-awake
decreases-awake l = span_at l.at.table.now l.at.place * 2

abbrev pub decreases-awake_part : goal.decreases-awake_part
decreases-awake_part l = span_at l.at.table.now l.at.place * 2 + 1

-- what is left to be woken gives what the whole gives
abbrev pub invariant-awake-loop-last : goal.invariant-awake-loop-last
invariant-awake-loop-last l = record {
  left : awake (wakes (event_from l.source l.event)) (tree l.last) l.states ≡ awake (wakes (event_from l.source l.event)) (tree l.fn.at) l.fn.states;
  falls : span_at l.last.table.now l.last.place ≤ span_at l.fn.at.table.now l.fn.at.place;
}

abbrev pub decreases-awake-loop-last : goal.decreases-awake-loop-last
decreases-awake-loop-last l = span_at l.last.table.now l.last.place
