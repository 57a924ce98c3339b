-- One byte more is copied, then all are.
use Rattle.std.proofs.Common.{arith}
use Rattle.marks.proofs.Stores.{copied-more, copied-all}
use Rattle.marks.proofs.remaining.write_records.Goals as goal

pub loop-k-preserved : goal.loop-k-preserved
loop-k-preserved c = copied-more _ _ _ _ c.loop-k.invariant (omega arith)

pub returns : goal.returns
returns c = copied-all _ _ _ c.loop-k.k c.loop-k.invariant (omega arith)
