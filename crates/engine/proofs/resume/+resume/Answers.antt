-- An idle part without children, and the right of an and whose left has ended, where nothing lives.
use Rattle.std.proofs.Common.{sym, ◌∙◌, eq-eqb}
use Rattle.engine.proofs.Parts.{idle-walk, idle-leaf}
use Rattle.engine.proofs.resume.+resume.Goals as goal

pub resume_part-returns-then-run-at-eq-IDLE : goal.resume_part-returns-then-run-at-eq-IDLE
resume_part-returns-then-run-at-eq-IDLE _ c = sym (idle-leaf _ _ _ c.args.at.stands.place (c.kind.ensures.children ∙ sym c.children.ensures ∙ c.if-children-eq0.true) c.if-run-at-eq-IDLE.true _ _)

pub fork_goes_on-returns-in-And : goal.fork_goes_on-returns-in-And
fork_goes_on-returns-in-And _ c =
    let r = c.right-second.ensures in
    let right = rw (r.table, r.place) at c.right-second.result.stands in
    let idle = rw (r.table, r.place) at (sym c.all_idle.ensures ∙ c.if-all_idle.true) in
    rw (c.in-Ended.is, c.in-And.is, eq-eqb _ _ c.if-run-fork-ne-IDLE.false, idle-walk _ _ _ right.place idle)
