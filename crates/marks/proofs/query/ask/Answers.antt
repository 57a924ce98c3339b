-- The set's number and its lowest are those of the awaited events.
use Rattle.std.proofs.Common.{ap, ◌∙◌}
use Rattle.std.specs.Int.Count.{ones}
use Rattle.marks.specs.Awaited.{lowest_bit}
use Rattle.marks.proofs.Hearing.{awaited-number, awaited-lowest}
use Rattle.marks.proofs.query.ask.Goals as goal

pub returns : goal.returns
returns c = record {
  number = c.number_of.ensures ∙ (ap ones c.awaited-set.ensures ∙ awaited-number _);
  lowest = c.lowest_of.ensures ∙ (ap lowest_bit c.awaited-set.ensures ∙ awaited-lowest _);
}
