-- By the kind of the record.
use Rattle.std.proofs.Common.{◌≡◌, rules, arith}
use Rattle.rules.specs.Table.{kind_at}
use Rattle.table.specs.Named.{kind_number}
use Rattle.walks.proofs.Waking.{hears_none, hears-other, hears-awaited}
use Rattle.walks.proofs.listeners.Listeners.hear.Goals as goal

pub returns-in_default : goal.returns-in_default
returns-in_default c = λ x e h. rw (hears_none (kind_at c.args.table.now c.args.i) (λ o. omega arith) (λ o. omega arith) _ x e)

pub returns-in_default-kind : goal.returns-in_default-kind
returns-in_default-kind c =
    let n : kind_number c.in-Ok.kind ≡ kind_at c.args.table.now c.args.i = search rules in
    λ x e h. rw (← n, hears-other _ c.in_default-kind.not-Await c.in_default-kind.not-Every _ x e)

pub returns-in-Await : goal.returns-in-Await
returns-in-Await c =
    let n : kind_number c.in-Ok.kind ≡ kind_at c.args.table.now c.args.i = search rules in
    λ x e h. rw (← n, hears-awaited _ _ c.in-Await.is _ x e, ← c.name_at.ensures.name) (c.note.ensures x e h)
