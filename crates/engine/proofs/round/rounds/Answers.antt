-- The end, a pop, a push, and nothing left to do.
use Rattle.std.proofs.Common.{◌+◌, ◌-◌, arith, ◌∙◌}
use Rattle.engine.proofs.Rounds.{none-pending, none_left, end_step, pop_step, push_step}
use Rattle.engine.proofs.round.rounds.Goals as goal

pub returns-then-level-eq1 : goal.returns-then-level-eq1
returns-then-level-eq1 c =
    end_step _ _ _ _ _ _ _ _ _ (c.args.most - (c.loop.counter + 1)) (omega arith) (c.tick.ensures _) (none-pending _ c.in_default.not-Some) c.if-level-eq1.true ∙ c.loop.invariant.outcome

pub loop-preserved-in_default : goal.loop-preserved-in_default
loop-preserved-in_default c = record {
  named = c.onward-event.ensures.named;
  level = omega arith;
  turns = omega arith;
  unfinished = c.loop.invariant.unfinished;
  pushes = omega arith;
  outcome = pop_step _ _ _ _ _ _ _ _ _ _ (omega arith) (c.tick.ensures _) _ _ _ (none-pending _ c.in_default.not-Some) c.if-level-eq1.false c.onward-event.ensures.left ∙ c.loop.invariant.outcome;
}

pub loop-preserved : goal.loop-preserved
loop-preserved c =
    let i = rw c.in-Some.is at c.loop.invariant in
    record {
      named = c.pushed-event.ensures.named;
      level = omega arith;
      turns = omega arith;
      unfinished = c.loop.invariant.unfinished;
      pushes = omega arith;
      outcome = push_step _ _ _ _ _ _ _ _ _ _ (omega arith) (c.tick.ensures _) _ _ _ (omega (arith, i.named)) c.max.ensures c.pushed-event.ensures.left ∙ i.outcome;
    }

pub returns : goal.returns
returns c = rw c.loop.invariant.unfinished (none_left _ _ _ _ _ _ _ _ (omega arith) ∙ c.loop.invariant.outcome)
