-- The span falls at each call and at each turn.
use Rattle.std.proofs.Common.{◌≡◌, ◌≤◌}
use Rattle.rules.specs.Table.{span_at}
use Rattle.theory.specs.State.{settle}
use Rattle.table.specs.Constructs.{tree}
use Rattle.memory.specs.Acts.{arrays_of}
use Rattle.walks.specs.Walks.{array_ops}
use Rattle.walks.proofs.settle.+settle.Given as goal

abbrev pub decreases-settle : goal.decreases-settle
decreases-settle l = span_at l.at.table.now l.at.place

-- what is left to run gives what the whole gives
abbrev pub invariant-loop-act : goal.invariant-loop-act
invariant-loop-act l = record {
  left : settle array_ops (tree l.last) (arrays_of l.memory l.out) ≡ settle array_ops (tree l.fn.at) (arrays_of l.fn.memory l.fn.out);
  falls : span_at l.last.table.now l.last.place ≤ span_at l.fn.at.table.now l.fn.at.place;
}

abbrev pub decreases-loop-act : goal.decreases-loop-act
decreases-loop-act l = span_at l.last.table.now l.last.place
