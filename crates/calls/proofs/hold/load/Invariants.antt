-- The marks before the place are loaded over idle states, and nothing is counted.
use Rattle.std.proofs.Common.{◌≡◌, replicate}
use Rattle.calls.proofs.Copying.{copied}
use Rattle.calls.proofs.hold.load.Given as goal

abbrev pub invariant-loop-place : goal.invariant-loop-place
invariant-loop-place l = record {
  states : l.run.states ≡ copied l.place l.marks (replicate 256 0);
  steps : l.run.memory.steps ≡ 0;
  outputs : l.run.memory.outputs ≡ 0;
}
