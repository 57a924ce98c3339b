-- The event of a marked place as a set.
use Rattle.std.proofs.Common.{sym, ◌∙◌}
use Rattle.marks.proofs.Hearing.{hears-nothing, hears-other, hears-name}
use Rattle.marks.proofs.query.heard_at.Goals as goal

pub returns-then-not-is_marked : goal.returns-then-not-is_marked
returns-then-not-is_marked c = hears-nothing _ _ _ (sym c.is_marked.ensures ∙ c.if-not-is_marked.true)

pub returns-then-hears : goal.returns-then-hears
returns-then-hears c =
    hears-name _ _ _ c.kind.ensures.number (sym c.hears.ensures ∙ c.if-hears.true) (c.requires.named _ c.args.at.stands.place.inside) c.name.ensures.name (sym c.is_marked.ensures ∙ c.if-not-is_marked.false)

pub returns-else-hears : goal.returns-else-hears
returns-else-hears c = hears-other _ _ _ c.kind.ensures.number (sym c.hears.ensures ∙ c.if-hears.false)
