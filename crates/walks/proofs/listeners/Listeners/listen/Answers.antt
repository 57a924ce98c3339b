-- The records are heard one after the other.
use Rattle.std.proofs.Common.{sym, ap, ◌∙◌, rules}
use Rattle.walks.specs.Listening.{widened_if}
use Rattle.walks.proofs.Listening.{heard-none, heard-next, all-listen}
use Rattle.walks.proofs.listeners.Listeners.listen.Goals as goal

pub loop-i-init : goal.loop-i-init
loop-i-init c = heard-none c.args.table.now c.args.self.now c.requires.nobody

pub loop-i-preserved : goal.loop-i-preserved
loop-i-preserved c = λ x e h. c.hear.ensures x e h ∙ ap (widened_if _ _) (c.loop-i.invariant x e h) ∙ sym (heard-next _ x e _)

pub returns-clause-listens : goal.returns-clause-listens
returns-clause-listens c = all-listen _ _ c.requires.small (search rules)
