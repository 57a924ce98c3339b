-- A construct's span ends inside the table.
use Rattle.std.proofs.Common.{arith}
use Rattle.table.proofs.Trees.{span-inside}
use Rattle.engine.proofs.part.all_idle.Goals as goal

pub overflow_add-at : goal.overflow_add-at
overflow_add-at c = omega (arith, c.span.ensures, c.args.at.stands.small, span-inside _ _ c.args.at.stands.place)

pub slice_bounds-iter-end : goal.slice_bounds-iter-end
slice_bounds-iter-end c = omega (arith, c.span.ensures, c.args.at.stands.small, span-inside _ _ c.args.at.stands.place)
