-- The verdict of stages 1 to 9: that of the first eight, then that of the variables.
use Rattle.std.proofs.Common.{sym, refl, ap, ◌∙◌, [], ◌∷◌, ◌++◌, append_assoc}
use Rattle.std.proofs.lemmas.Result.{err_from_is_err_and}
use Rattle.rules.specs.Check.{table_stages}
use Rattle.rules.specs.Marks.{marks_stages}
use Rattle.rules.specs.Calls.{vars_stage}
use Rattle.calls.specs.Stages.{judged}
use Rattle.calls.proofs.Judging.{stays-refused, goes_on_lem, accepts-all, test-fails, passes-test}
use Rattle.calls.proofs.stages.standing_stages.Goals as goal

pub returns-in_err-announced : goal.returns-in_err-announced
returns-in_err-announced c =
    let b = c.args.table.now in
    let marks = marks_stages b c.args.marks.now in
    let vars = vars_stage c.args.vars.now ∷ [] in
    let p = err_from_is_err_and c.from_residual.result c.from_residual.ensures.1 in
    rw (p.1, p.2) (stays-refused b (table_stages b ++ marks) c.marks_stages.ensures vars c.in_err-announced.was ∙ ap (judged b) (append_assoc (table_stages b) marks vars))

pub returns-in_err-test : goal.returns-in_err-test
returns-in_err-test c =
    let b = c.args.table.now in
    let marks = marks_stages b c.args.marks.now in
    let vars = vars_stage c.args.vars.now ∷ [] in
    let after = ap (judged b) (sym (append_assoc (table_stages b) marks vars)) in
    let p = err_from_is_err_and c.from_residual-in_err-test.result c.from_residual-in_err-test.ensures.1 in
    rw (p.1, p.2) (test-fails b 9 [] refl c.in_err-test.ensures ∙ sym (after ∙ goes_on_lem b (table_stages b ++ marks) c.marks_stages.ensures c.in_ok-announced.was vars))

pub returns : goal.returns
returns c =
    let b = c.args.table.now in
    let marks = marks_stages b c.args.marks.now in
    let vars = vars_stage c.args.vars.now ∷ [] in
    let after = ap (judged b) (sym (append_assoc (table_stages b) marks vars)) in
    accepts-all b (table_stages b ++ marks) c.marks_stages.ensures c.in_ok-announced.was
    ∙ sym (after ∙ goes_on_lem b (table_stages b ++ marks) c.marks_stages.ensures c.in_ok-announced.was vars ∙ passes-test b 9 [] refl c.in_ok-test.ensures)
