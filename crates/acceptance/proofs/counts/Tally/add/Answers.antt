-- One construct, by its kind.
use Rattle.std.proofs.Common.{arith}
use Rattle.acceptance.specs.Visits.{around_of}
use Rattle.acceptance.proofs.Tallies.{with_at}
use Rattle.acceptance.proofs.counts.Tally.add.Goals as goal

pub returns-in-Emit : goal.returns-in-Emit
returns-in-Emit c = let e = with_at c.args.visit.at.table.now c.args.visit.at.place (around_of c.args.visit.around) c.args.self.now c.args.visit.kind c.args.visit.number in grind (arith, e)

pub returns-in-Loop : goal.returns-in-Loop
returns-in-Loop c = let e = with_at c.args.visit.at.table.now c.args.visit.at.place (around_of c.args.visit.around) c.args.self.now c.args.visit.kind c.args.visit.number in grind (arith, e)

pub returns-in-Act-Output : goal.returns-in-Act-Output
returns-in-Act-Output c = let e = with_at c.args.visit.at.table.now c.args.visit.at.place (around_of c.args.visit.around) c.args.self.now c.args.visit.kind c.args.visit.number in grind (arith, e)

pub returns-in-Act-Output-2 : goal.returns-in-Act-Output-2
returns-in-Act-Output-2 c = let e = with_at c.args.visit.at.table.now c.args.visit.at.place (around_of c.args.visit.around) c.args.self.now c.args.visit.kind c.args.visit.number in grind (arith, e)

pub returns : goal.returns
returns c = let e = with_at c.args.visit.at.table.now c.args.visit.at.place (around_of c.args.visit.around) c.args.self.now c.args.visit.kind c.args.visit.number in grind (arith, e)

pub returns-2 : goal.returns-2
returns-2 c = let e = with_at c.args.visit.at.table.now c.args.visit.at.place (around_of c.args.visit.around) c.args.self.now c.args.visit.kind c.args.visit.number in grind (arith, e)
