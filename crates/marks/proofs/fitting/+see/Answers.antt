-- What the marks say of a construct, by its kind and its children.
use Rattle.std.proofs.Common.{sym}
use Rattle.marks.proofs.Seeing.{sees-waiting, sees-leaf, sees-loop, sees-two}
use Rattle.marks.proofs.fitting.+see.Goals as goal

pub returns-in-Await-clause-seen : goal.returns-in-Await-clause-seen
returns-in-Await-clause-seen t c = rw c.is_marked.ensures (sym (sees-waiting _ _ _ c.kind-kind.ensures c.in-Await.is))

pub returns-in-If-clause-seen : goal.returns-in-If-clause-seen
returns-in-If-clause-seen t c = let e = sees-two _ c.args.at.marks.now _ c.kind-kind.ensures c.in-If.is in cc

pub returns-in-Loop-clause-seen : goal.returns-in-Loop-clause-seen
returns-in-Loop-clause-seen t c = let e = sees-loop _ c.args.at.marks.now _ c.kind-kind.ensures c.in-Loop.is in cc

pub returns-in_default-clause-seen : goal.returns-in_default-clause-seen
returns-in_default-clause-seen t c =
    sym (sees-leaf _ _ _ c.kind-kind.ensures (record {
      no_await = c.in_default.not-Await;
      no_every = c.in_default.not-Every;
      no_fin = c.in_default.not-Fin;
      no_if = c.in_default.not-If;
      no_sequence = c.in_default.not-Sequence;
      no_par = c.in_default.not-Par;
      no_loop = c.in_default.not-Loop;
    }))
