-- The part that holds what runs, if it may run alone.
use Rattle.std.proofs.Common.{inl, inr, sym, ◌∙◌}
use Rattle.engine.proofs.Parts.{right-sides, part_step}
use Rattle.engine.proofs.part.part_of.Goals.{then-part-at-via-then-part-at, then-part-at-via-else-part-at+then-right_free}
use Rattle.engine.proofs.part.part_of.Goals as goal

pub right_free-requires-clause-sides : goal.right_free-requires-clause-sides
right_free-requires-clause-sides c = right-sides _ _ c.in_ok-part.ensures.part c.if-part-at.false

pub returns-then-part-at-clause-step : goal.returns-then-part-at-clause-step
returns-then-part-at-clause-step c =
    part_step _ _ _ _ c.args.at.stands.place c.requires c.in_ok-part.ensures.part
    (elim c.then-part-at.branch [
      | then-part-at-via-then-part-at w ↦ inl w.if-part-at.true
      | then-part-at-via-else-part-at+then-right_free w ↦ inr (sym w.right_free.ensures ∙ w.if-right_free.true)
    ])
