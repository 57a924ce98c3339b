-- The state at the next place is put there as a mark.
use Rattle.std.proofs.Common.{refl, arith}
use Rattle.calls.proofs.Copying.{copied_more}
use Rattle.calls.proofs.hold.store_marks.Goals as goal

pub loop-place-preserved : goal.loop-place-preserved
loop-place-preserved c = copied_more c.args.states.now c.args.marks.now c.loop-place.place 0 (omega arith) (omega arith) c.loop-place.invariant refl
