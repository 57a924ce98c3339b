-- `holder` goes down from part to part.
use Rattle.std.proofs.Common.{arith, ap, ◌∙◌}
use Rattle.rules.specs.Table.{records_of}
use Rattle.walks.proofs.Listening.{part-heard}
use Rattle.walks.proofs.wake.holder.Goals as goal

pub loop-part-preserved : goal.loop-part-preserved
loop-part-preserved c = record {
  same = c.in-Some.ensures.table ∙ c.loop-part.invariant.same;
  heard = rw c.in-Some.ensures.table (part-heard _ _ c.loop-part.at.stands.place c.in-Some.ensures.part c.loop-part.invariant.heard);
}

pub loop-part-smaller : goal.loop-part-smaller
loop-part-smaller c = omega (arith, c.in-Some.ensures.below, c.in-Some.part.stands.place.inside, ap records_of c.in-Some.ensures.table)
