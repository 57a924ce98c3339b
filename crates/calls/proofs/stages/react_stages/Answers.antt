-- The verdict of a reaction's stages: that of the first nine, then that of the event and of the room.
use Rattle.std.proofs.Common.{sym, ◌∙◌, [], ◌∷◌}
use Rattle.std.proofs.lemmas.Result.{err_from_is_err_and}
use Rattle.rules.specs.Check.{announced}
use Rattle.rules.specs.Calls.{event_stage, room_stage}
use Rattle.calls.specs.Stages.{standing_stages}
use Rattle.calls.proofs.Judging.{standing-first, stays-refused, goes_on_lem, accepts-all, test-fails, passes-test, room-fails, room-passes}
use Rattle.calls.proofs.stages.react_stages.Goals as goal

pub returns-in_err-announced : goal.returns-in_err-announced
returns-in_err-announced c =
    let b = c.args.table.now in
    let last = event_stage c.args.event ∷ room_stage (announced b).outputs c.args.out.now ∷ [] in
    let p = err_from_is_err_and c.from_residual.result c.from_residual.ensures.1 in
    rw (p.1, p.2) (stays-refused b (standing_stages b c.args.marks.now c.args.vars.now) c.standing_stages.ensures last c.in_err-announced.was ∙ sym (standing-first b c.args.marks.now c.args.vars.now last))

pub returns-in_err-test : goal.returns-in_err-test
returns-in_err-test c =
    let b = c.args.table.now in
    let first = standing_stages b c.args.marks.now c.args.vars.now in
    let room = room_stage (announced b).outputs c.args.out.now ∷ [] in
    let last = event_stage c.args.event ∷ room in
    let go = standing-first b c.args.marks.now c.args.vars.now last ∙ goes_on_lem b first c.standing_stages.ensures c.in_ok-announced.was last in
    let p = err_from_is_err_and c.from_residual-in_err-test.result c.from_residual-in_err-test.ensures.1 in
    rw (p.1, p.2) (test-fails b 10 room c.is_event.ensures c.in_err-test.ensures ∙ sym go)

pub returns-in_err-test-2 : goal.returns-in_err-test-2
returns-in_err-test-2 c =
    let b = c.args.table.now in
    let first = standing_stages b c.args.marks.now c.args.vars.now in
    let room = room_stage (announced b).outputs c.args.out.now ∷ [] in
    let last = event_stage c.args.event ∷ room in
    let go = standing-first b c.args.marks.now c.args.vars.now last ∙ goes_on_lem b first c.standing_stages.ensures c.in_ok-announced.was last in
    let event = passes-test b 10 room c.is_event.ensures c.in_ok-test.ensures in
    let p = err_from_is_err_and c.from_residual-in_err-test-2.result c.from_residual-in_err-test-2.ensures.1 in
    rw (p.1, p.2) (room-fails b first c.standing_stages.ensures c.in_ok-announced.was c.args.out.now c.has_room.ensures c.in_err-test-2.ensures ∙ sym (go ∙ event))

pub returns : goal.returns
returns c =
    let b = c.args.table.now in
    let first = standing_stages b c.args.marks.now c.args.vars.now in
    let room = room_stage (announced b).outputs c.args.out.now ∷ [] in
    let last = event_stage c.args.event ∷ room in
    let go = standing-first b c.args.marks.now c.args.vars.now last ∙ goes_on_lem b first c.standing_stages.ensures c.in_ok-announced.was last in
    let event = passes-test b 10 room c.is_event.ensures c.in_ok-test.ensures in
    accepts-all b first c.standing_stages.ensures c.in_ok-announced.was
    ∙ sym (go ∙ event ∙ room-passes b first c.standing_stages.ensures c.in_ok-announced.was c.args.out.now c.has_room.ensures c.in_ok-test-2.ensures)
