-- The start of the rules for every input: what the stages refuse, or the start itself, of which what is held stands for what it left.
use Rattle.std.proofs.Common.{arith}
use Rattle.std.proofs.Math.Option.{none}
use Rattle.std.proofs.lemmas.Result.{err_from_is_err_and}
use Rattle.rules.specs.Run as Run
use Rattle.rules.specs.Calls.{answers, join_run, none_taken, start_call}
use Rattle.calls.specs.Answers.{lent, no_totals}
use Rattle.calls.specs.Stages.{start_stages}
use Rattle.calls.proofs.Judging.{same-steps}
use Rattle.calls.proofs.Passed.{passed-few, passed-spot, passed-steps}
use Rattle.calls.proofs.Answering.{held_bytes, tested-refused}
use Rattle.calls.proofs.Reacting.{start-answers, start-few, start-sized, start-table, start-vars, started}
use Rattle.walks.proofs.Listening.{nobody-there}
use Rattle.calls.proofs.one.start.Goals as goal

pub returns-in_err-announced : goal.returns-in_err-announced
unfolding start_call
returns-in_err-announced c =
    let b = c.args.table.now in
    let all = lent c.args.marks.now c.args.vars.now c.args.out.now in
    let run = answers all none (join_run b no_totals (Run.start b c.args.vars.now) (none_taken all)) in
    let p = err_from_is_err_and c.from_residual.result c.from_residual.ensures.1 in
    rw (p.1, p.2) (tested-refused b (start_stages b c.args.marks.now c.args.vars.now c.args.out.now) all run c.start_stages.ensures c.in_err-announced.was)

pub listen-requires-clause-nobody : goal.listen-requires-clause-nobody
listen-requires-clause-nobody c = nobody-there

pub listen-requires-clause-small : goal.listen-requires-clause-small
listen-requires-clause-small c = passed-few c.args.table.now (start-table c.args.table.now c.args.marks.now c.args.vars.now c.args.out.now c.start_stages.ensures c.in_ok-announced.was)

pub load-requires-clause-vars_len : goal.load-requires-clause-vars_len
load-requires-clause-vars_len c = start-vars c.args.table.now c.args.marks.now c.args.vars.now c.args.out.now c.start_stages.ensures c.in_ok-announced.was

pub invariant_of-program : goal.invariant_of-program
invariant_of-program c = record { stands = passed-spot c.args.table.now (start-table c.args.table.now c.args.marks.now c.args.vars.now c.args.out.now c.start_stages.ensures c.in_ok-announced.was) }

pub begin-round-requires-clause-most_le_most_rounds : goal.begin-round-requires-clause-most_le_most_rounds
begin-round-requires-clause-most_le_most_rounds c =
    let b = c.args.table.now in
    omega (arith, same-steps b (start_stages b c.args.marks.now c.args.vars.now c.args.out.now) c.start_stages.ensures c.in_ok-announced.was, passed-steps b (start-table c.args.table.now c.args.marks.now c.args.vars.now c.args.out.now c.start_stages.ensures c.in_ok-announced.was))

pub finish-requires-clause-marks_len_bound : goal.finish-requires-clause-marks_len_bound
finish-requires-clause-marks_len_bound c = start-few c.args.table.now c.args.marks.now c.args.vars.now c.args.out.now c.start_stages.ensures c.in_ok-announced.was

pub finish-requires-clause-bytes : goal.finish-requires-clause-bytes
finish-requires-clause-bytes c =
    let held = started c.args.table.now c.args.marks.now c.args.vars.now c.args.out.now c.start_stages.ensures c.in_ok-announced.was (omega arith) c.load.ensures c.begin-round.ensures in
    held_bytes c.args.table.now c.args.out.now held _ (start-sized c.args.table.now c.args.marks.now c.args.vars.now c.args.out.now c.start_stages.ensures c.in_ok-announced.was)

pub returns : goal.returns
returns c =
    let held = started c.args.table.now c.args.marks.now c.args.vars.now c.args.out.now c.start_stages.ensures c.in_ok-announced.was (omega arith) c.load.ensures c.begin-round.ensures in
    start-answers c.args.table.now c.args.marks.now c.args.vars.now c.args.out.now c.start_stages.ensures c.in_ok-announced.was held c.finish.ensures

pub finish-requires-clause-vars_len : goal.finish-requires-clause-vars_len
finish-requires-clause-vars_len c = start-vars c.args.table.now c.args.marks.now c.args.vars.now c.args.out.now c.start_stages.ensures c.in_ok-announced.was
