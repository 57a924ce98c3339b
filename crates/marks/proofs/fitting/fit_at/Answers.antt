-- Whether a construct fits, by its kind and its parts.
use Rattle.std.proofs.Common.{sym, ◌∙◌}
use Rattle.marks.proofs.Seeing.{sees-waiting, sees-leaf}
use Rattle.marks.proofs.AllFit.{fits-loop, fits-sides, fits-par}
use Rattle.marks.proofs.fitting.fit_at.Goals as goal

pub returns-then-is_marked : goal.returns-then-is_marked
returns-then-is_marked c = rw (sym c.is_marked.ensures ∙ c.if-is_marked.true) at (sees-waiting _ c.args.at.marks.now _ c.kind.ensures c.in-Await.is)

pub returns-else-is_marked : goal.returns-else-is_marked
returns-else-is_marked c = rw (sym c.is_marked.ensures ∙ c.if-is_marked.false) at (sees-waiting _ c.args.at.marks.now _ c.kind.ensures c.in-Await.is)

pub returns-in-If : goal.returns-in-If
returns-in-If c =
    rw c.side_fit.ensures
    (fits-sides _ _ _ c.kind.ensures c.requires.known c.first.result.stands c.first.ensures.table c.first.ensures.place c.second.result.stands c.second.ensures.table c.second.ensures.place c.in-If.is)

pub returns-in-Loop : goal.returns-in-Loop
returns-in-Loop c =
    fits-loop _ _ _ c.kind.ensures c.requires.known c.first-in-Loop.result.stands c.first-in-Loop.ensures.table c.first-in-Loop.ensures.place c.in-Loop.is

pub returns-in-Par : goal.returns-in-Par
returns-in-Par c =
    rw c.par_fit.ensures
    (fits-par _ _ _ c.kind.ensures c.requires.known c.first-in-Par.result.stands c.first-in-Par.ensures.table c.first-in-Par.ensures.place c.second-in-Par.result.stands c.second-in-Par.ensures.table c.second-in-Par.ensures.place c.in-Par.is)

pub returns-in_default : goal.returns-in_default
returns-in_default c =
    sees-leaf _ _ _ c.kind.ensures (record {
      no_await = c.in_default.not-Await;
      no_every = c.in_default.not-Every;
      no_fin = c.in_default.not-Fin;
      no_if = c.in_default.not-If;
      no_sequence = c.in_default.not-Sequence;
      no_par = c.in_default.not-Par;
      no_loop = c.in_default.not-Loop;
    })
