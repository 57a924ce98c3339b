-- All that the runner prints of a table and a list of events.
use Rattle.std.specs.Prelude.{List, [], ◌∷◌, ◌++◌, ℕ, zero, suc, ◌*◌, ◌/◌, leb, pos, length, replicate}
use Rattle.rules.specs.Stages.{unless, option, Stage, stage, first_refusal}
use Rattle.rules.specs.Limits.{record_bytes, variables, runner_outputs}
use Rattle.rules.specs.Table.{byte_at, number_at, records_of}
use Rattle.rules.specs.Check.{announced, table_stages}
use Rattle.rules.specs.Calls.{Lent, Outcome, Sent, start_call, react_call}
use Rattle.rules.specs.Lists.{list_fails, sent_from}
use Rattle.lines.specs.Lines.{call_line, out_line, refusal_line}

-- the table, the output room and the event file: tested in that order before the first line
abbrev pub runner_stages : List ℕ → List ℕ → List Stage
runner_stages b es = table_stages b ++ (stage 11 (unless (leb (announced b).outputs runner_outputs)) ∷ stage 10 (list_fails es) ∷ [])

-- one line for each of k outputs, from the room's record j on
unfoldable pub out_lines : List ℕ → ℕ → ℕ → List ℕ
unfolding out_line
out_lines room j zero = []
out_lines room j (suc k) = out_line (record { name = byte_at room j 0; value = number_at room j }) ++ out_lines room (suc j) k

-- the line of a call and those of its outputs, then what follows; a refusal ends the run
unfoldable pub call_lines : Sent → Outcome → List ℕ → List ℕ
unfolding call_line out_lines refusal_line
call_lines s o after = option (call_line s o.answer ++ (out_lines o.lent.room 0 o.answer.outputs ++ after)) refusal_line o.refused

-- the room of earlier outputs is free again
unfoldable pub event_lines : List ℕ → Lent → List Sent → List ℕ
unfolding react_call call_lines
event_lines b l [] = []
event_lines b l (s ∷ ss) = let o : Outcome = react_call b l s in call_lines s o (event_lines b o.lent ss)

-- one mark for each record; all variables 0
abbrev pub runner_lends : List ℕ → Lent
runner_lends b =
    record {
      marks = replicate (records_of b) 0;
      vars = replicate variables (pos 0);
      room = replicate (runner_outputs * record_bytes) 0;
      totals = record { reactions = 0; steps = 0 };
    }

-- a start is printed as event 0 of value 0
abbrev pub start_sent : Sent
start_sent = record { event = 0; value = pos 0 }

abbrev pub run_lines : List ℕ → List ℕ → List ℕ
run_lines b es =
    let o : Outcome = start_call b (runner_lends b) in
    call_lines start_sent o (event_lines b o.lent (sent_from es 0 (length es / record_bytes)))

unfoldable pub printed : List ℕ → List ℕ → List ℕ
unfolding table_stages announced first_refusal start_call sent_from event_lines call_lines refusal_line
printed b es = option (run_lines b es) refusal_line (first_refusal (runner_stages b es))
