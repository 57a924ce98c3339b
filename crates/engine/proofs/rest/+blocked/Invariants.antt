-- Two for each record of the span, and the rank of the function.
use Rattle.std.proofs.Common.{◌≡◌, ◌+◌, ◌*◌, ◌≤◌}
use Rattle.rules.specs.Table.{span_at}
use Rattle.theory.specs.State.{still}
use Rattle.table.specs.Constructs.{tree}
use Rattle.engine.proofs.rest.+blocked.Given as goal

abbrev pub decreases-blocked : goal.decreases-blocked
decreases-blocked l = span_at l.at.table.now l.at.place * 2

abbrev pub decreases-blocked_part : goal.decreases-blocked_part
decreases-blocked_part l = span_at l.at.table.now l.at.place * 2 + 1

-- the whole is blocked where what is left of it is
abbrev pub invariant-blocked-loop-last : goal.invariant-blocked-loop-last
invariant-blocked-loop-last l = record {
  left : still l.n (tree l.last) l.states ≡ still l.n (tree l.fn.at) l.states;
  falls : span_at l.last.table.now l.last.place ≤ span_at l.fn.at.table.now l.fn.at.place;
}

abbrev pub decreases-blocked-loop-last : goal.decreases-blocked-loop-last
decreases-blocked-loop-last l = span_at l.last.table.now l.last.place
