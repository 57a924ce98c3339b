-- What is inside an every or a fin is passed over.
use Rattle.marks.proofs.Onward.{next-over, next_one}
use Rattle.marks.proofs.query.next_at.Goals as goal

pub returns-in-Every : goal.returns-in-Every
returns-in-Every c = next-over _ _ c.kind.ensures c.in-Every.is c.span.ensures.span

pub returns-in_default : goal.returns-in_default
returns-in_default c = next_one _ _ c.kind.ensures c.in_default.not-Every c.in_default.not-Fin
