-- What is left to do gives what the whole gives; the level and the events emitted are at most the turns taken.
use Rattle.std.proofs.Common.{◌≡◌, false, ◌+◌, ◌-◌, ◌≤◌}
use Rattle.theory.specs.Round.{rounds}
use Rattle.table.specs.Constructs.{tree}
use Rattle.memory.specs.Acts.{arrays_of}
use Rattle.walks.specs.Walks.{array_ops}
use Rattle.engine.specs.Running.{event_number, Named}
use Rattle.engine.proofs.round.rounds.Given as goal

abbrev pub invariant-loop : goal.invariant-loop
invariant-loop l = record {
  named : Named l.event;
  level : 1 ≤ l.level;
  turns : l.level ≤ l.counter + 1;
  unfinished : l.rounded.grounded ≡ false;
  pushes : l.rounded.emitted ≤ l.counter;
  outcome : rounds array_ops (tree l.program) (l.most - l.counter) (event_number l.event) l.level l.rounded.emitted l.rounded.highest l.run.states (arrays_of l.run.memory l.out) ≡ rounds array_ops (tree l.program) l.most (event_number l.fn.first) 1 0 1 l.fn.run.states (arrays_of l.fn.run.memory l.fn.out);
}
