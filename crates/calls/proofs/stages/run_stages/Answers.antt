-- The verdict of a list's stages: that of the first nine, then that of the events.
use Rattle.std.proofs.Common.{sym, ap, ◌∙◌, [], ◌∷◌}
use Rattle.std.proofs.lemmas.Result.{err_from_is_err_and}
use Rattle.rules.specs.Stages.{stage}
use Rattle.rules.specs.Check.{refused}
use Rattle.rules.specs.Lists.{list_fails}
use Rattle.calls.specs.Stages.{standing_stages}
use Rattle.calls.proofs.Judging.{standing-first, stays-refused, goes_on_lem, accepts-all, fails-first, passes-first}
use Rattle.calls.proofs.stages.run_stages.Goals as goal

pub returns-in_err-announced : goal.returns-in_err-announced
returns-in_err-announced c =
    let b = c.args.table.now in
    let last = stage 10 (list_fails c.args.events.now) ∷ [] in
    let p = err_from_is_err_and c.from_residual.result c.from_residual.ensures.1 in
    rw (p.1, p.2) (stays-refused b (standing_stages b c.args.marks.now c.args.vars.now) c.standing_stages.ensures last c.in_err-announced.was ∙ sym (standing-first b c.args.marks.now c.args.vars.now last))

pub returns-in-Some : goal.returns-in-Some
returns-in-Some c =
    let b = c.args.table.now in
    let first = standing_stages b c.args.marks.now c.args.vars.now in
    let fails = list_fails c.args.events.now in
    let last = stage 10 fails ∷ [] in
    let go = standing-first b c.args.marks.now c.args.vars.now last ∙ goes_on_lem b first c.standing_stages.ensures c.in_ok-announced.was last in
    ap refused c.at.ensures ∙ sym (go ∙ fails-first b 10 [] fails c.first_bad.ensures.first c.in-Some.is)

pub returns : goal.returns
returns c =
    let b = c.args.table.now in
    let first = standing_stages b c.args.marks.now c.args.vars.now in
    let fails = list_fails c.args.events.now in
    let last = stage 10 fails ∷ [] in
    let go = standing-first b c.args.marks.now c.args.vars.now last ∙ goes_on_lem b first c.standing_stages.ensures c.in_ok-announced.was last in
    accepts-all b first c.standing_stages.ensures c.in_ok-announced.was ∙ sym (go ∙ passes-first b 10 [] fails c.first_bad.ensures.first c.in_default.is)
