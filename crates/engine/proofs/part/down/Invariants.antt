-- The way so far ends at the construct.
use Rattle.std.proofs.Common.{◌≡◌, ◌-◌, get_or}
use Rattle.engine.specs.Parts.{Way}
use Rattle.engine.proofs.part.down.Given as goal

abbrev pub invariant-loop-at : goal.invariant-loop-at
invariant-loop-at l = record {
  table : l.at.table.now ≡ l.fn.path.table.now;
  path_table : l.path.table.now ≡ l.fn.path.table.now;
  end : get_or l.path.places l.path.steps 0 ≡ l.at.place;
  way : Way l.fn.path.table.now l.states l.reach l.path.places l.path.steps;
}

abbrev pub decreases-loop-at : goal.decreases-loop-at
decreases-loop-at l = l.reach.from - l.at.place
