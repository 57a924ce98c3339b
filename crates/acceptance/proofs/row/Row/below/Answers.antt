-- The only child ends where its parent does.
use Rattle.std.proofs.Common.{◌∙◌, arith}
use Rattle.table.proofs.Trees.{span-inside}
use Rattle.acceptance.proofs.Rows.{row-child}
use Rattle.acceptance.proofs.row.Row.below.Goals as goal

pub overflow_add-result-2 : goal.overflow_add-result-2
overflow_add-result-2 c = omega (arith, c.span.ensures, c.args.visit.at.stands.small, span-inside c.args.visit.at.table.now c.args.visit.at.place c.args.visit.at.stands.place)

pub returns-clause-row : goal.returns-clause-row
returns-clause-row c = rw (c.span.ensures) (row-child c.args.visit.at.table.now c.args.visit.at.place c.args.visit.at.stands.place (c.args.visit.children ∙ c.requires))
