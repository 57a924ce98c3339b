-- A program has at most 256 records, so that no count stops.
use Rattle.std.proofs.Common.{◌∙◌, sym}
use Rattle.acceptance.proofs.Counting.{whole-count, given-none, given-some}
use Rattle.acceptance.proofs.Tallies.{same_tally}
use Rattle.acceptance.proofs.Visiting.{nothing-is}
use Rattle.acceptance.proofs.counts.tally_of_program.Goals as goal

pub returns-then-count : goal.returns-then-count
returns-then-count c = sym (given-some _ c.if-count.true) ∙ whole-count c.args.program c.requires c.of.ensures.table c.of.ensures.place c.of.ensures.end (nothing-is c.of.result.around c.of.ensures.loops c.of.ensures.every c.of.ensures.fin) (same_tally c.default-tally.ensures.0 c.default-tally.ensures.1.0 c.default-tally.ensures.1.1.0 c.default-tally.ensures.1.1.1) c.count.ensures

pub returns-else-count : goal.returns-else-count
returns-else-count c = sym (given-none _ c.if-count.false) ∙ whole-count c.args.program c.requires c.of.ensures.table c.of.ensures.place c.of.ensures.end (nothing-is c.of.result.around c.of.ensures.loops c.of.ensures.every c.of.ensures.fin) (same_tally c.default-tally.ensures.0 c.default-tally.ensures.1.0 c.default-tally.ensures.1.1.0 c.default-tally.ensures.1.1.1) c.count.ensures
