-- A place fails, passes, or none is left.
use Rattle.std.proofs.Common.{refl, sym, ◌∙◌, arith}
use Rattle.table.proofs.Finding.{passes-here, fails-here, none_left}
use Rattle.acceptance.proofs.walks.first_record.Goals as goal

pub returns-then-not-right-clause-found : goal.returns-then-not-right-clause-found
returns-then-not-right-clause-found g c = λ ok t. sym (c.loop-place.invariant.1 ok t ∙ fails-here ok _ _ (omega arith) (sym (t _ _ refl c.right.ensures) ∙ c.if-not-right.true))

pub loop-place-preserved : goal.loop-place-preserved
loop-place-preserved g c = (c.loop-place.invariant.0, λ ok t. c.loop-place.invariant.1 ok t ∙ passes-here ok _ _ (omega arith) (sym (t _ _ refl c.right.ensures) ∙ c.if-not-right.false))

pub returns-clause-found : goal.returns-clause-found
returns-clause-found g c = λ ok t. sym (c.loop-place.invariant.1 ok t ∙ none_left ok _ _ (omega arith))
