-- One construct after the other, until one waits or has an event pending.
use Rattle.std.proofs.Common.{◌≡◌, ◌+◌, ◌-◌, ◌≤◌, false, true, arith, sym, ◌∙◌}
use Rattle.engine.proofs.Climbing.{stays-from, climb-step, climbs-root, climbs-stays, along-above}
use Rattle.engine.proofs.climb.climb.Goals.{in-Waiting, in_default}
use Rattle.engine.proofs.climb.climb.Goals as goal

pub returns-then-matches : goal.returns-then-matches
returns-then-matches c =
    c.loop-step.invariant _ (
    climbs-stays _ _ _ c.loop-step.step (along-above _ _ c.loop-step.step (omega arith) c.args.path.now.along) _ _ (
    elim c.match-matches.branch [
      | in-Waiting w ↦ stays-from c.loop-step.how w.in-Waiting.is
      | in_default w ↦ let e : false ≡ true = sym w.matches-is ∙ c.if-matches.true in absurd (cc)
    ]
    )
    )

pub loop-step-preserved : goal.loop-step-preserved
loop-step-preserved c =
    let p = c.args.path.now in
    let a : c.loop-step.step ≤ p.steps = omega arith in
    let e : c.loop-step.step - 1 + 1 ≡ c.loop-step.step = omega arith in
    let up = rw (c.at-part.ensures.place, c.at.ensures.table, c.at.ensures.place, e) at c.goes_on-how.ensures in
    λ v h. c.loop-step.invariant v (climb-step p.table.now _ p.places c.loop-step.step (omega arith) (along-above _ _ c.loop-step.step a p.along) up h)

pub returns : goal.returns
returns c = c.loop-step.invariant _ (climbs-root _ _ _ c.loop-step.step (omega arith) _)
