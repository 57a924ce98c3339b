-- The list of the rules for every input: what the stages refuse, or the list itself. It is taken event by event, and each turn keeps that what
-- runs stands for what was taken.
use Rattle.std.proofs.Common.{refl, ap, arith, rules, ◌∙◌, ◌<◌, w32, to_z-of_z, length, ◌/◌}
use Rattle.std.proofs.lemmas.Result.{err_from_is_err_and}
use Rattle.rules.specs.Calls.{none_taken}
use Rattle.rules.specs.Lists.{list_call, sent_from, take_events}
use Rattle.calls.specs.Answers.{lent}
use Rattle.calls.specs.Stages.{run_stages}
use Rattle.calls.proofs.Judging.{same-steps}
use Rattle.table.specs.declared.entry.Entry.{Entry}
use Rattle.table.proofs.Entries.{entry-of-record}
use Rattle.calls.proofs.Passed.{passed-few, passed-spot, passed-steps}
use Rattle.calls.proofs.Answering.{held_bytes, held-waits, marks-sized, tested-ran}
use Rattle.calls.proofs.Reacting.{ready-few}
use Rattle.calls.proofs.Listing.{early, few-events, going-few, going-none, going_on, list-over, list-short, made-fits, run-ready}
use Rattle.walks.proofs.Listening.{nobody-there}
use Rattle.calls.proofs.list.run_list.Goals as goal
use Rattle.calls.proofs.list.run_list.Goals.{else-loop-place-test, then-loop-place-test+then-not-has_room}

pub returns-in_err-announced : goal.returns-in_err-announced
unfolding list_call
returns-in_err-announced c =
    let b = c.args.table.now in
    let es = c.args.events.now in
    let all = lent c.args.marks.now c.args.vars.now c.args.out.now in
    let run = take_events b all (length c.args.out.now / 8) 0 (sent_from es 0 (length es / 8)) (none_taken all) in
    let p = err_from_is_err_and c.from_residual.result c.from_residual.ensures.1 in
    rw (p.1, p.2) (tested-ran b (run_stages b c.args.marks.now c.args.vars.now es) all run c.run_stages.ensures c.in_err-announced.was refl (early b c.args.marks.now c.args.vars.now es))

pub listen-requires-clause-nobody : goal.listen-requires-clause-nobody
listen-requires-clause-nobody c = nobody-there

pub listen-requires-clause-small : goal.listen-requires-clause-small
listen-requires-clause-small c = passed-few c.args.table.now (run-ready c.args.table.now c.args.marks.now c.args.vars.now c.args.events.now c.args.out.now c.run_stages.ensures c.in_ok-announced.was).table

pub load-requires-clause-marks_len_bound : goal.load-requires-clause-marks_len_bound
load-requires-clause-marks_len_bound c = ready-few (run-ready c.args.table.now c.args.marks.now c.args.vars.now c.args.events.now c.args.out.now c.run_stages.ensures c.in_ok-announced.was)

pub load-requires-clause-vars_len : goal.load-requires-clause-vars_len
load-requires-clause-vars_len c = (run-ready c.args.table.now c.args.marks.now c.args.vars.now c.args.events.now c.args.out.now c.run_stages.ensures c.in_ok-announced.was).vars

pub loop-place-init : goal.loop-place-init
loop-place-init c = record { going = going-none c.args.table.now c.args.marks.now c.args.vars.now c.args.events.now c.args.out.now c.run_stages.ensures c.in_ok-announced.was (omega arith) c.load.ensures; taken = refl; stopped = refl }

pub has_room-requires : goal.has_room-requires
has_room-requires c = made-fits c.args.table.now c.args.marks.now c.args.vars.now c.args.events.now c.args.out.now c.run_stages.ensures c.in_ok-announced.was c.loop-place.invariant.going

pub at-requires : goal.at-requires
at-requires c = omega (arith, c.loop-place-test.true, c.as_chunks.ensures.front_len, few-events c.args.table.now c.args.marks.now c.args.vars.now c.args.events.now c.args.out.now c.run_stages.ensures c.in_ok-announced.was)

pub invariant_of-program : goal.invariant_of-program
invariant_of-program c = record { stands = passed-spot c.args.table.now (run-ready c.args.table.now c.args.marks.now c.args.vars.now c.args.events.now c.args.out.now c.run_stages.ensures c.in_ok-announced.was).table }

pub react-round-requires-clause-most_le_most_rounds : goal.react-round-requires-clause-most_le_most_rounds
react-round-requires-clause-most_le_most_rounds c =
    let b = c.args.table.now in
    omega (arith, same-steps b (run_stages b c.args.marks.now c.args.vars.now c.args.events.now) c.run_stages.ensures c.in_ok-announced.was, passed-steps b (run-ready c.args.table.now c.args.marks.now c.args.vars.now c.args.events.now c.args.out.now c.run_stages.ensures c.in_ok-announced.was).table)

pub react-round-requires-clause-all_wait : goal.react-round-requires-clause-all_wait
react-round-requires-clause-all_wait c = held-waits c.args.table.now c.args.out.now c.loop-place.invariant.going.holds

pub overflow_add-emitted : goal.overflow_add-emitted
overflow_add-emitted c =
    let es = c.args.events.now in
    let inside : c.loop-place.place < length es / 8 = omega (arith, c.loop-place-test.true, c.as_chunks.ensures.front_len) in
    let sent = c.from-sent.ensures ∙ entry-of-record es c.as_chunks.ensures.front inside _ in
    let event = c.from-event.ensures ∙ ap (λ (e : Entry). e.name) sent in
    let value = to_z-of_z {w = w32} (search rules) ∙ ap (λ (e : Entry). e.value) sent in
    let next = going_on c.args.table.now c.args.marks.now c.args.vars.now c.args.events.now c.args.out.now c.run_stages.ensures c.in_ok-announced.was c.loop-place.invariant.going c.has_room.ensures c.if-not-has_room.false inside event value c.react-round.ensures c.react-round.auto.out refl in
    omega (arith, going-few c.args.table.now c.args.marks.now c.args.vars.now c.args.events.now c.args.out.now c.run_stages.ensures c.in_ok-announced.was next)

pub loop-place-preserved : goal.loop-place-preserved
loop-place-preserved c =
    let es = c.args.events.now in
    let inside : c.loop-place.place < length es / 8 = omega (arith, c.loop-place-test.true, c.as_chunks.ensures.front_len) in
    let sent = c.from-sent.ensures ∙ entry-of-record es c.as_chunks.ensures.front inside _ in
    let event = c.from-event.ensures ∙ ap (λ (e : Entry). e.name) sent in
    let value = to_z-of_z {w = w32} (search rules) ∙ ap (λ (e : Entry). e.value) sent in
    record {
      going = going_on c.args.table.now c.args.marks.now c.args.vars.now c.args.events.now c.args.out.now c.run_stages.ensures c.in_ok-announced.was c.loop-place.invariant.going c.has_room.ensures c.if-not-has_room.false inside event value c.react-round.ensures c.react-round.auto.out c.max-highest.ensures;
      taken = omega (arith, c.loop-place.invariant.taken);
      stopped = c.loop-place.invariant.stopped;
    }

pub finish-done-requires-clause-bytes : goal.finish-done-requires-clause-bytes
finish-done-requires-clause-bytes c =
    let ready = run-ready c.args.table.now c.args.marks.now c.args.vars.now c.args.events.now c.args.out.now c.run_stages.ensures c.in_ok-announced.was in
    held_bytes c.args.table.now c.args.out.now c.loop-place.invariant.going.holds _ (marks-sized c.args.table.now c.args.marks.now ready.marks)

pub returns : goal.returns
returns c =
    elim c.loop-place-test.branch [
      | else-loop-place-test w ↦
          rw (c.loop-place.invariant.taken, w.stopped-is, c.loop-place.invariant.stopped)
          (list-over c.args.table.now c.args.marks.now c.args.vars.now c.args.events.now c.args.out.now c.run_stages.ensures c.in_ok-announced.was c.loop-place.invariant.going c.finish-done.ensures (omega (arith, w.loop-place-test.false, c.as_chunks.ensures.front_len)))
      | then-loop-place-test+then-not-has_room w ↦
          rw (c.loop-place.invariant.taken, w.stopped-is)
          (list-short c.args.table.now c.args.marks.now c.args.vars.now c.args.events.now c.args.out.now c.run_stages.ensures c.in_ok-announced.was c.loop-place.invariant.going c.finish-done.ensures w.has_room.ensures w.if-not-has_room.true (omega (arith, w.loop-place-test.true, c.as_chunks.ensures.front_len)) w.at.ensures)
    ]

pub finish-done-requires-clause-marks_len_bound : goal.finish-done-requires-clause-marks_len_bound
finish-done-requires-clause-marks_len_bound c = ready-few (run-ready c.args.table.now c.args.marks.now c.args.vars.now c.args.events.now c.args.out.now c.run_stages.ensures c.in_ok-announced.was)

pub finish-done-requires-clause-vars_len : goal.finish-done-requires-clause-vars_len
finish-done-requires-clause-vars_len c = (run-ready c.args.table.now c.args.marks.now c.args.vars.now c.args.events.now c.args.out.now c.run_stages.ensures c.in_ok-announced.was).vars
