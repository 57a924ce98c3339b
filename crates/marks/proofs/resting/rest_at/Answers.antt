-- What remains of a construct, by its kind.
use Rattle.std.proofs.Common.{refl, sym, ◌∙◌, arith}
use Rattle.marks.proofs.Leavings.{rest-waits, leaf-rests, leaves-two, leaves-body}
use Rattle.marks.proofs.resting.rest_at.Goals as goal
use Rattle.marks.proofs.resting.rest_at.Goals.{in_default-via-in-Await+else-is_marked, in_default-via-in_default}

pub returns-in-Await : goal.returns-in-Await
returns-in-Await c = rw (sym c.is_marked.ensures ∙ c.if-is_marked.true) at (rest-waits _ c.args.at.marks.now _ c.kind-kind.ensures c.in-Await.is)

pub returns-in_default : goal.returns-in_default
returns-in_default c =
    elim c.in_default.branch [
      | in_default-via-in-Await+else-is_marked w ↦ rw (sym w.is_marked.ensures ∙ w.if-is_marked.false) at (rest-waits _ c.args.at.marks.now _ c.kind-kind.ensures w.in-Await.is)
      | in_default-via-in_default w ↦ leaf-rests _ _ _ c.kind-kind.ensures (record {
        no_await = w.in_default.not-Await;
        no_every = w.in_default.not-Every;
        no_fin = w.in_default.not-Fin;
        no_if = w.in_default.not-If;
        no_sequence = w.in_default.not-Sequence;
        no_par = w.in_default.not-Par;
        no_loop = w.in_default.not-Loop;
      })
    ]

pub returns-in-If : goal.returns-in-If
returns-in-If c =
    leaves-two _ _ _ _ _ (record { table = c.first-first.ensures.table; marks = c.first-first.ensures.marks; after = omega arith; falls = c.first-first.ensures.smaller })
    (record { table = c.second-second.ensures.table; marks = c.second-second.ensures.marks; after = omega arith; falls = c.second-second.ensures.smaller })
    c.kind-kind.ensures c.first-first.ensures.place c.joined.ensures c.in-If.is c.second-second.ensures.place

pub returns-in-Loop : goal.returns-in-Loop
returns-in-Loop c =
    leaves-body _ _ _ _ _ (record { table = c.first.ensures.table; marks = c.first.ensures.marks; after = omega arith; falls = c.first.ensures.smaller })
    (record { table = c.first.ensures.table; marks = c.first.ensures.marks; after = omega arith; falls = c.first.ensures.smaller })
    c.kind-kind.ensures c.first.ensures.place c.joined-in-Loop.ensures c.in-Loop.is refl
