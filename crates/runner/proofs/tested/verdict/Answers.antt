use Rattle.std.proofs.Common.{sym, ap, ◌∙◌}
use Rattle.std.proofs.lemmas.Result.{err_from_is_err_and}
use Rattle.rules.specs.Check.{refused}
use Rattle.runner.proofs.Verdict.{same-refusal, no_room, bad-event, all-well}
use Rattle.runner.proofs.tested.verdict.Goals as goal

pub returns-in_err-announced : goal.returns-in_err-announced
returns-in_err-announced c =
    let p = err_from_is_err_and c.from_residual.result c.from_residual.ensures.1 in
    rw (p.1, p.2) (same-refusal c.args.table.now c.args.events.now c.check.ensures c.in_err-announced.was)

pub returns-then-not-has_room : goal.returns-then-not-has_room
returns-then-not-has_room c =
    ap refused c.at.ensures
    ∙ sym (no_room c.args.table.now c.args.events.now c.check.ensures c.in_ok-announced.was c.has_room.ensures c.if-not-has_room.true)

pub returns-in-Some : goal.returns-in-Some
returns-in-Some c =
    ap refused c.at-in-Some.ensures
    ∙ sym (bad-event c.args.table.now c.args.events.now c.check.ensures c.in_ok-announced.was c.has_room.ensures
    c.if-not-has_room.false c.first_bad.ensures.first c.in-Some.is)

pub returns : goal.returns
returns c =
    all-well c.args.table.now c.args.events.now c.check.ensures c.in_ok-announced.was c.has_room.ensures
    c.if-not-has_room.false c.first_bad.ensures.first c.in_default.is
