-- May break, by the kind.
use Rattle.std.proofs.Common.{arith}
use Rattle.acceptance.proofs.Ends.{breaks_at}
use Rattle.acceptance.proofs.ending.+may_break.Goals as goal

pub returns-in-Break : goal.returns-in-Break
returns-in-Break t c = let e = breaks_at _ _ _ c.kind.ensures in grind (arith, e)

pub returns-then-may_break : goal.returns-then-may_break
returns-then-may_break t c = let e = breaks_at _ _ _ c.kind.ensures in grind (arith, e)

pub returns-else-may_break : goal.returns-else-may_break
returns-else-may_break t c = let e = breaks_at _ _ _ c.kind.ensures in grind (arith, e)

pub returns-in_default : goal.returns-in_default
returns-in_default t c = let e = breaks_at _ _ _ c.kind.ensures in grind (arith, e)
