-- The reaction of the rules for every input: what the stages refuse, or the reaction itself, of which what is held stands for what was taken.
use Rattle.std.proofs.Common.{arith, w32, to_z-of_z}
use Rattle.std.proofs.Math.Option.{none}
use Rattle.std.proofs.lemmas.Result.{err_from_is_err_and}
use Rattle.rules.specs.Calls.{answers, none_taken, react_call, take_event}
use Rattle.calls.specs.Answers.{lent, sent_of}
use Rattle.calls.specs.Stages.{react_stages}
use Rattle.calls.proofs.Judging.{same-steps}
use Rattle.calls.proofs.Passed.{passed-few, passed-spot, passed-steps}
use Rattle.calls.proofs.Answering.{held_bytes, held-waits, marks-sized, tested-refused}
use Rattle.calls.proofs.Reacting.{loaded, react-answers, react-ready, reacts, ready-few}
use Rattle.walks.proofs.Listening.{nobody-there}
use Rattle.calls.proofs.one.react.Goals as goal

pub returns-in_err-announced : goal.returns-in_err-announced
unfolding react_call
returns-in_err-announced c =
    let b = c.args.table.now in
    let all = lent c.args.marks.now c.args.vars.now c.args.out.now in
    let run = answers all none (take_event b (sent_of c.args.event c.args.value) (none_taken all)) in
    let p = err_from_is_err_and c.from_residual.result c.from_residual.ensures.1 in
    rw (p.1, p.2) (tested-refused b (react_stages b c.args.marks.now c.args.vars.now c.args.event c.args.out.now) all run c.react_stages.ensures c.in_err-announced.was)

pub listen-requires-clause-nobody : goal.listen-requires-clause-nobody
listen-requires-clause-nobody c = nobody-there

pub listen-requires-clause-small : goal.listen-requires-clause-small
listen-requires-clause-small c = passed-few c.args.table.now (react-ready c.args.table.now c.args.marks.now c.args.vars.now c.args.event c.args.value c.args.out.now c.react_stages.ensures c.in_ok-announced.was).table

pub load-requires-clause-marks_len_bound : goal.load-requires-clause-marks_len_bound
load-requires-clause-marks_len_bound c = ready-few (react-ready c.args.table.now c.args.marks.now c.args.vars.now c.args.event c.args.value c.args.out.now c.react_stages.ensures c.in_ok-announced.was)

pub load-requires-clause-vars_len : goal.load-requires-clause-vars_len
load-requires-clause-vars_len c = (react-ready c.args.table.now c.args.marks.now c.args.vars.now c.args.event c.args.value c.args.out.now c.react_stages.ensures c.in_ok-announced.was).vars

pub invariant_of-program : goal.invariant_of-program
invariant_of-program c = record { stands = passed-spot c.args.table.now (react-ready c.args.table.now c.args.marks.now c.args.vars.now c.args.event c.args.value c.args.out.now c.react_stages.ensures c.in_ok-announced.was).table }

pub react-round-requires-clause-most_le_most_rounds : goal.react-round-requires-clause-most_le_most_rounds
react-round-requires-clause-most_le_most_rounds c =
    let b = c.args.table.now in
    omega (arith, same-steps b (react_stages b c.args.marks.now c.args.vars.now c.args.event c.args.out.now) c.react_stages.ensures c.in_ok-announced.was, passed-steps b (react-ready c.args.table.now c.args.marks.now c.args.vars.now c.args.event c.args.value c.args.out.now c.react_stages.ensures c.in_ok-announced.was).table)

pub react-round-requires-clause-all_wait : goal.react-round-requires-clause-all_wait
react-round-requires-clause-all_wait c =
    let ready = react-ready c.args.table.now c.args.marks.now c.args.vars.now c.args.event c.args.value c.args.out.now c.react_stages.ensures c.in_ok-announced.was in
    held-waits c.args.table.now c.args.out.now (loaded c.args.table.now c.args.marks.now c.args.vars.now c.args.out.now ready (omega arith) c.load.ensures)

pub finish-requires-clause-bytes : goal.finish-requires-clause-bytes
finish-requires-clause-bytes c =
    let ready = react-ready c.args.table.now c.args.marks.now c.args.vars.now c.args.event c.args.value c.args.out.now c.react_stages.ensures c.in_ok-announced.was in
    let held = reacts c.args.table.now c.args.marks.now c.args.vars.now c.args.event c.args.value c.args.out.now c.react_stages.ensures c.in_ok-announced.was (omega arith) c.load.ensures (to_z-of_z {w = w32} c.ranges.value) c.react-round.ensures in
    held_bytes c.args.table.now c.args.out.now held _ (marks-sized c.args.table.now c.args.marks.now ready.marks)

pub returns : goal.returns
returns c =
    let held = reacts c.args.table.now c.args.marks.now c.args.vars.now c.args.event c.args.value c.args.out.now c.react_stages.ensures c.in_ok-announced.was (omega arith) c.load.ensures (to_z-of_z {w = w32} c.ranges.value) c.react-round.ensures in
    react-answers c.args.table.now c.args.marks.now c.args.vars.now c.args.event c.args.value c.args.out.now c.react_stages.ensures c.in_ok-announced.was held c.finish.ensures

pub finish-requires-clause-marks_len_bound : goal.finish-requires-clause-marks_len_bound
finish-requires-clause-marks_len_bound c = ready-few (react-ready c.args.table.now c.args.marks.now c.args.vars.now c.args.event c.args.value c.args.out.now c.react_stages.ensures c.in_ok-announced.was)

pub finish-requires-clause-vars_len : goal.finish-requires-clause-vars_len
finish-requires-clause-vars_len c = (react-ready c.args.table.now c.args.marks.now c.args.vars.now c.args.event c.args.value c.args.out.now c.react_stages.ensures c.in_ok-announced.was).vars
