-- One place more fits; then all do.
use Rattle.std.proofs.Common.{sym, ◌∙◌, arith}
use Rattle.marks.proofs.Arrays.{known_from, known_more}
use Rattle.marks.proofs.AllFit.{fits-at, all_pass_lem}
use Rattle.marks.proofs.fitting.all_fit.Goals as goal

pub loop-place-preserved : goal.loop-place-preserved
loop-place-preserved c =
    let at = c.at-at.ensures in
    known_more _ _ (omega arith) (known_from _ c.loop-place.invariant (omega arith)) (fits-at at.table at.marks at.place (sym c.is_right.ensures ∙ c.if-not-is_right.false) c.fit_at.ensures)

pub returns : goal.returns
returns c = λ h. sym (all_pass_lem _ _ c.args.program.stands (known_from _ c.loop-place.invariant (omega arith)) (λ e. let f = rw e at (sym c.ne.ensures ∙ h) in cc))
