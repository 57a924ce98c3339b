-- The next mark is put at its place, widened.
use Rattle.std.proofs.Common.{arith, replicate}
use Rattle.calls.proofs.Copying.{copied_more}
use Rattle.calls.proofs.hold.load.Goals as goal

pub loop-place-preserved : goal.loop-place-preserved
loop-place-preserved c =
    let i = c.loop-place.invariant in
    record {
      states = copied_more c.args.marks.now (replicate 256 0) c.loop-place.place 0 (omega arith) (omega arith) i.states c.from.ensures;
      steps = i.steps;
      outputs = i.outputs;
    }
