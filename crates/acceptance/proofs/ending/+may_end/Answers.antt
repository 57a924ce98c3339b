-- May end, by the kind.
use Rattle.std.proofs.Common.{arith}
use Rattle.acceptance.proofs.Ends.{ends_at}
use Rattle.acceptance.proofs.ending.+may_end.Goals as goal

pub returns-in-Loop : goal.returns-in-Loop
returns-in-Loop t c = let e = ends_at _ _ _ c.kind.ensures in grind (arith, e)

pub returns-then-may_end : goal.returns-then-may_end
returns-then-may_end t c = let e = ends_at _ _ _ c.kind.ensures in grind (arith, e)

pub returns-else-may_end : goal.returns-else-may_end
returns-else-may_end t c = let e = ends_at _ _ _ c.kind.ensures in grind (arith, e)

pub returns-then-may_end-2 : goal.returns-then-may_end-2
returns-then-may_end-2 t c = let e = ends_at _ _ _ c.kind.ensures in grind (arith, e)

pub returns-else-may_end-2 : goal.returns-else-may_end-2
returns-else-may_end-2 t c = let e = ends_at _ _ _ c.kind.ensures in grind (arith, e)

pub returns-in-Await-Input : goal.returns-in-Await-Input
returns-in-Await-Input t c = let e = ends_at _ _ _ c.kind.ensures in grind (arith, e)

pub returns-in-Await-Input-2 : goal.returns-in-Await-Input-2
returns-in-Await-Input-2 t c = let e = ends_at _ _ _ c.kind.ensures in grind (arith, e)

pub returns-in-Nothing : goal.returns-in-Nothing
returns-in-Nothing t c = let e = ends_at _ _ _ c.kind.ensures in grind (arith, e)

pub returns-in-Nothing-2 : goal.returns-in-Nothing-2
returns-in-Nothing-2 t c = let e = ends_at _ _ _ c.kind.ensures in grind (arith, e)
