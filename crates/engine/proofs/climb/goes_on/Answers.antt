-- Where the part is the left; the rest is found.
use Rattle.std.proofs.Common.{arith, lt-ltb}
use Rattle.theory.specs.Part.{goes_on}
use Rattle.engine.proofs.Climbing.{second_place}
use Rattle.engine.proofs.climb.goes_on.Goals as goal

pub returns-then-k-right : goal.returns-then-k-right
unfolding goes_on
returns-then-k-right c =
    let s = rw c.in-If.is at c.kind.ensures in
    let r = c.second-right.ensures in
    rw (s.tree, second_place s c.args.at.stands (omega arith), lt-ltb _ _ (rw r.place at c.if-k-right.true)) (rw (r.table, r.place) at c.if_goes_on.ensures)

pub returns-then-k-right-2 : goal.returns-then-k-right-2
unfolding goes_on
returns-then-k-right-2 c =
    let s = rw c.in-Sequence.is at c.kind.ensures in
    let r = c.second-right-in-Sequence.ensures in
    rw (s.tree, second_place s c.args.at.stands (omega arith), lt-ltb _ _ (rw r.place at c.if-k-right-2.true)) (rw (r.table, r.place) at c.seq_goes_on.ensures)

pub returns-then-k-right-3 : goal.returns-then-k-right-3
unfolding goes_on
returns-then-k-right-3 c =
    let s = rw c.in-Par.is at c.kind.ensures in
    rw (s.tree, second_place s c.args.at.stands (omega arith), lt-ltb _ _ (rw c.right.ensures.place at c.if-k-right-3.true)) c.fork_goes_on.ensures
