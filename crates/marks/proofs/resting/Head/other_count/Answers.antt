-- A sequence and a loop have the other part whole.
use Rattle.std.proofs.Common.{sym, ◌∙◌}
use Rattle.marks.proofs.Leavings.{whole-span}
use Rattle.marks.proofs.resting.Head.other_count.Goals as goal

pub returns-in-Sequence : goal.returns-in-Sequence
returns-in-Sequence c =
    record { count = c.span.ensures.span ∙ sym (whole-span c.in-Sequence.is _ _ _ c.args.other.at.stands.place); two_bytes = c.span.ensures.two_bytes }
