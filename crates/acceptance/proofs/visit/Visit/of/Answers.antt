-- The walk from the program on is that of the rules.
use Rattle.acceptance.proofs.Visiting.{nothing-is, whole-walk}
use Rattle.acceptance.proofs.visit.Visit.of.Goals as goal

pub returns-clause-walk : goal.returns-clause-walk
returns-clause-walk c = rw (c.new.ensures.construct, c.new.ensures.around, c.requires) (whole-walk c.args.program.table.now (nothing-is c.default.result c.default.ensures.0 c.default.ensures.1.0 c.default.ensures.1.1))
