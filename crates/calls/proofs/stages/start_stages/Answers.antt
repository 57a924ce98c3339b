-- The verdict of a start's stages, one after the other.
use Rattle.std.proofs.Common.{sym, refl, ◌∙◌, [], ◌∷◌}
use Rattle.std.proofs.lemmas.Result.{err_from_is_err_and}
use Rattle.rules.specs.Check.{announced, table_stages}
use Rattle.rules.specs.Marks.{length_stage}
use Rattle.rules.specs.Calls.{room_stage, vars_stage}
use Rattle.calls.proofs.Judging.{checks, stays-refused, goes_on_lem, accepts-all, test-fails, passes-test, room-fails, room-passes}
use Rattle.calls.proofs.stages.start_stages.Goals as goal

pub returns-in_err-announced : goal.returns-in_err-announced
returns-in_err-announced c =
    let b = c.args.table.now in
    let later = length_stage b c.args.marks.now ∷ vars_stage c.args.vars.now ∷ room_stage (announced b).outputs c.args.out.now ∷ [] in
    let p = err_from_is_err_and c.from_residual.result c.from_residual.ensures.1 in
    rw (p.1, p.2) (stays-refused b (table_stages b) (c.check.ensures ∙ checks b) later c.in_err-announced.was)

pub returns-in_err-test : goal.returns-in_err-test
returns-in_err-test c =
    let b = c.args.table.now in
    let later = vars_stage c.args.vars.now ∷ room_stage (announced b).outputs c.args.out.now ∷ [] in
    let go = goes_on_lem b (table_stages b) (c.check.ensures ∙ checks b) c.in_ok-announced.was (length_stage b c.args.marks.now ∷ later) in
    let p = err_from_is_err_and c.from_residual-in_err-test.result c.from_residual-in_err-test.ensures.1 in
    rw (p.1, p.2) (test-fails b 8 later refl c.in_err-test.ensures ∙ sym go)

pub returns-in_err-test-2 : goal.returns-in_err-test-2
returns-in_err-test-2 c =
    let b = c.args.table.now in
    let room = room_stage (announced b).outputs c.args.out.now ∷ [] in
    let later = vars_stage c.args.vars.now ∷ room in
    let go = goes_on_lem b (table_stages b) (c.check.ensures ∙ checks b) c.in_ok-announced.was (length_stage b c.args.marks.now ∷ later) in
    let marks = passes-test b 8 later refl c.in_ok-test.ensures in
    let p = err_from_is_err_and c.from_residual-in_err-test-2.result c.from_residual-in_err-test-2.ensures.1 in
    rw (p.1, p.2) (test-fails b 9 room refl c.in_err-test-2.ensures ∙ sym (go ∙ marks))

pub returns-in_err-test-3 : goal.returns-in_err-test-3
returns-in_err-test-3 c =
    let b = c.args.table.now in
    let room = room_stage (announced b).outputs c.args.out.now ∷ [] in
    let later = vars_stage c.args.vars.now ∷ room in
    let e = c.check.ensures ∙ checks b in
    let go = goes_on_lem b (table_stages b) e c.in_ok-announced.was (length_stage b c.args.marks.now ∷ later) in
    let marks = passes-test b 8 later refl c.in_ok-test.ensures in
    let vars = passes-test b 9 room refl c.in_ok-test-2.ensures in
    let p = err_from_is_err_and c.from_residual-in_err-test-3.result c.from_residual-in_err-test-3.ensures.1 in
    rw (p.1, p.2) (room-fails b (table_stages b) e c.in_ok-announced.was c.args.out.now c.has_room.ensures c.in_err-test-3.ensures ∙ sym (go ∙ marks ∙ vars))

pub returns : goal.returns
returns c =
    let b = c.args.table.now in
    let room = room_stage (announced b).outputs c.args.out.now ∷ [] in
    let later = vars_stage c.args.vars.now ∷ room in
    let e = c.check.ensures ∙ checks b in
    let go = goes_on_lem b (table_stages b) e c.in_ok-announced.was (length_stage b c.args.marks.now ∷ later) in
    let marks = passes-test b 8 later refl c.in_ok-test.ensures in
    let vars = passes-test b 9 room refl c.in_ok-test-2.ensures in
    accepts-all b (table_stages b) e c.in_ok-announced.was ∙ sym (go ∙ marks ∙ vars ∙ room-passes b (table_stages b) e c.in_ok-announced.was c.args.out.now c.has_room.ensures c.in_ok-test-3.ensures)
