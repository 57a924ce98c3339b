-- The verdict on every table.
use Rattle.std.proofs.Common.{sym, ◌∙◌}
use Rattle.acceptance.proofs.Refusals.{refused-1}
use Rattle.acceptance.proofs.check.Goals as goal

pub returns-then-not-good_length : goal.returns-then-not-good_length
returns-then-not-good_length c = sym (refused-1 c.args.table.now c.good_length.ensures c.if-not-good_length.true ∙ rw c.at.ensures)
