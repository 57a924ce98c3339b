-- By the kind of the record, and where its right stands.
use Rattle.std.proofs.Common.{arith, sym, ◌∙◌}
use Rattle.walks.specs.Listening.{the-body, the-left, the-right}
use Rattle.walks.proofs.Listening.{no-holder, no-part}
use Rattle.walks.proofs.part.part_with.Goals as goal

pub returns-in-Loop-clause-part : goal.returns-in-Loop-clause-part
returns-in-Loop-clause-part c = rw c.first.ensures.place (the-body c.in-Loop.ensures.number)

pub returns-then-reach-second-clause-part : goal.returns-then-reach-second-clause-part
returns-then-reach-second-clause-part c = rw c.first-then-reach-second.ensures.place (the-left (grind arith) (omega arith))

pub returns-then-second-reach-clause-part : goal.returns-then-second-reach-clause-part
returns-then-second-reach-clause-part c = rw c.second-second.ensures.place (the-right (grind arith) (omega arith))

pub returns-else-second-reach-clause-none : goal.returns-else-second-reach-clause-none
returns-else-second-reach-clause-none c = no-part _ _ (λ e. grind arith) (λ e. (omega (arith, c.second-second.ensures.place), omega (arith, c.second-second.ensures.place)))

pub returns-in_default-clause-none : goal.returns-in_default-clause-none
returns-in_default-clause-none c =
    let n = no-holder c.kind.result c.in_default.not-If c.in_default.not-Sequence c.in_default.not-Loop c.in_default.not-Par in
    no-part _ _ (λ e. n.0 (sym c.kind.ensures.number ∙ e)) (λ e. absurd (n.1 (sym c.kind.ensures.children ∙ e)))
