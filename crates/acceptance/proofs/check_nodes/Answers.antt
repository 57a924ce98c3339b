-- The verdict of stages 4 to 7.
use Rattle.std.proofs.Common.{sym, ap, ◌∙◌, rules}
use Rattle.std.proofs.lemmas.Result.{err_from_is_err_and}
use Rattle.rules.specs.Check.{accepted, loose_break, not_plain, deep_loop, endless_loop}
use Rattle.acceptance.proofs.Announcing.{small, announces}
use Rattle.acceptance.proofs.Refusals.{refuses, none-found, refused-4, refused-5, refused-6, refused-7, never-7, tally-is, right-accepted}
use Rattle.acceptance.proofs.check_nodes.Goals as goal

pub announced-requires-clause-emits : goal.announced-requires-clause-emits
announced-requires-clause-emits c = (small c.args.program c.requires (tally-is c.args.program.table.now c.tally_of_program.ensures c.in-Some.is)).emits

pub announced-requires-clause-deepest : goal.announced-requires-clause-deepest
announced-requires-clause-deepest c = (small c.args.program c.requires (tally-is c.args.program.table.now c.tally_of_program.ensures c.in-Some.is)).deepest

pub announced-requires-clause-outside : goal.announced-requires-clause-outside
announced-requires-clause-outside c = (small c.args.program c.requires (tally-is c.args.program.table.now c.tally_of_program.ensures c.in-Some.is)).outside

pub announced-requires-clause-inside : goal.announced-requires-clause-inside
announced-requires-clause-inside c = (small c.args.program c.requires (tally-is c.args.program.table.now c.tally_of_program.ensures c.in-Some.is)).inside

pub returns-in-Some : goal.returns-in-Some
returns-in-Some c =
    let t = tally-is c.args.program.table.now c.tally_of_program.ensures c.in-Some.is in
    ap accepted (c.announced.ensures ∙ announces c.args.program c.requires t c.records_of.ensures) ∙ sym (right-accepted c.args.program.table.now t)

pub returns-in_err-passed : goal.returns-in_err-passed
returns-in_err-passed c =
    let e4 = c.first_of_program-loose.ensures.found loose_break (λ v r h. search rules) in
    let p = err_from_is_err_and c.from_residual.result c.from_residual.ensures.1 in
    rw (p.1, p.2) (sym (refuses _ c.passed.ensures (λ p d. refused-4 c.args.program.table.now e4 d) c.in_err-passed.was))

pub returns-in_err-passed-2 : goal.returns-in_err-passed-2
returns-in_err-passed-2 c =
    let e4 = c.first_of_program-loose.ensures.found loose_break (λ v r h. search rules) in
    let e5 = c.first_of_program-unfit.ensures.found not_plain (λ v r h. search rules) in
    let p = err_from_is_err_and c.from_residual-in_err-passed-2.result c.from_residual-in_err-passed-2.ensures.1 in
    rw (p.1, p.2) (sym (refuses _ c.passed-2.ensures (λ p d. refused-5 c.args.program.table.now e4 (none-found _ c.passed.ensures c.in_ok-passed.was) e5 d) c.in_err-passed-2.was))

pub returns-in_err-passed-3 : goal.returns-in_err-passed-3
returns-in_err-passed-3 c =
    let e4 = c.first_of_program-loose.ensures.found loose_break (λ v r h. search rules) in
    let e5 = c.first_of_program-unfit.ensures.found not_plain (λ v r h. search rules) in
    let e6 = c.first_of_program-deep.ensures.found deep_loop (λ v r h. search rules) in
    let p = err_from_is_err_and c.from_residual-in_err-passed-3.result c.from_residual-in_err-passed-3.ensures.1 in
    rw (p.1, p.2) (sym (refuses _ c.passed-3.ensures (λ p d. refused-6 c.args.program.table.now e4 (none-found _ c.passed.ensures c.in_ok-passed.was) e5 (none-found _ c.passed-2.ensures c.in_ok-passed-2.was) e6 d) c.in_err-passed-3.was))

pub returns-in_err-passed-4 : goal.returns-in_err-passed-4
returns-in_err-passed-4 c =
    let e4 = c.first_of_program-loose.ensures.found loose_break (λ v r h. search rules) in
    let e5 = c.first_of_program-unfit.ensures.found not_plain (λ v r h. search rules) in
    let e6 = c.first_of_program-deep.ensures.found deep_loop (λ v r h. search rules) in
    let e7 = c.first_of_program-endless.ensures.found endless_loop (λ v r h. search rules) in
    let p = err_from_is_err_and c.from_residual-in_err-passed-4.result c.from_residual-in_err-passed-4.ensures.1 in
    rw (p.1, p.2) (sym (refuses _ c.passed-4.ensures (λ p d. refused-7 c.args.program.table.now e4 (none-found _ c.passed.ensures c.in_ok-passed.was) e5 (none-found _ c.passed-2.ensures c.in_ok-passed-2.was) e6 (none-found _ c.passed-3.ensures c.in_ok-passed-3.was) e7 d) c.in_err-passed-4.was))

pub unreachable-requires : goal.unreachable-requires
unreachable-requires c =
    let e4 = c.first_of_program-loose.ensures.found loose_break (λ v r h. search rules) in
    let e5 = c.first_of_program-unfit.ensures.found not_plain (λ v r h. search rules) in
    let e6 = c.first_of_program-deep.ensures.found deep_loop (λ v r h. search rules) in
    let e7 = c.first_of_program-endless.ensures.found endless_loop (λ v r h. search rules) in
    never-7 c.args.program.table.now e4 (none-found _ c.passed.ensures c.in_ok-passed.was) e5 (none-found _ c.passed-2.ensures c.in_ok-passed-2.was) e6 (none-found _ c.passed-3.ensures c.in_ok-passed-3.was) e7 (none-found _ c.passed-4.ensures c.in_ok-passed-4.was) c.tally_of_program.ensures c.in_default.is
