-- The verdict of stages 1 to 8: that of the table, then that of the marks.
use Rattle.std.proofs.Common.{sym, ap, ◌∙◌, arith}
use Rattle.std.proofs.lemmas.Result.{err_from_is_err_and}
use Rattle.rules.specs.Check.{refused, table_stages}
use Rattle.rules.specs.Marks.{marks_stages}
use Rattle.table.proofs.Finding.{found_inside}
use Rattle.calls.proofs.Judging.{checks, stays-refused, goes_on_lem, all-passed, accepts-all, fails-marks, passes-marks}
use Rattle.calls.proofs.Passed.{passed-place, passed-few}
use Rattle.calls.proofs.stages.marks_stages.Goals as goal

pub returns-in_err-announced : goal.returns-in_err-announced
returns-in_err-announced c =
    let b = c.args.table.now in
    let p = err_from_is_err_and c.from_residual.result c.from_residual.ensures.1 in
    rw (p.1, p.2) (stays-refused b (table_stages b) (c.check.ensures ∙ checks b) (marks_stages b c.args.marks.now) c.in_err-announced.was)

pub marks_refused-requires : goal.marks_refused-requires
marks_refused-requires c =
    let b = c.args.table.now in
    passed-place b (all-passed b (table_stages b) (c.check.ensures ∙ checks b) c.in_ok-announced.was).0

pub at-requires : goal.at-requires
at-requires c =
    let b = c.args.table.now in
    let passed = (all-passed b (table_stages b) (c.check.ensures ∙ checks b) c.in_ok-announced.was).0 in
    omega (arith, found_inside b c.in-Some.is c.marks_refused.ensures.inside, passed-few b passed)

pub returns-in-Some : goal.returns-in-Some
returns-in-Some c =
    let b = c.args.table.now in
    let stages = marks_stages b c.args.marks.now in
    let go = goes_on_lem b (table_stages b) (c.check.ensures ∙ checks b) c.in_ok-announced.was stages in
    ap refused c.at.ensures ∙ sym (go ∙ fails-marks b stages c.marks_refused.ensures.refused c.in-Some.is)

pub returns : goal.returns
returns c =
    let b = c.args.table.now in
    let stages = marks_stages b c.args.marks.now in
    let e = c.check.ensures ∙ checks b in
    accepts-all b (table_stages b) e c.in_ok-announced.was ∙ sym (goes_on_lem b (table_stages b) e c.in_ok-announced.was stages ∙ passes-marks b stages c.marks_refused.ensures.refused c.in_default.is)
