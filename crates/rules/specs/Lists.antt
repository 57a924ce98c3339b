-- A list of events.
use Rattle.std.specs.Prelude.{Bool, ◌&&◌, List, [], ◌∷◌, ◌++◌, ℕ, zero, suc, ◌-◌, ◌/◌, ◌%◌, eqb, ltb, length, if◌then◌else◌}
use Rattle.std.proofs.Math.Option.{none, some}
use Rattle.rules.specs.Stages.{within, failing, refusal, Stage, stage, first_refusal}
use Rattle.rules.specs.Limits.{record_bytes, most_name, most_list_bytes, list_too_long}
use Rattle.rules.specs.Table.{byte_at, number_at}
use Rattle.rules.specs.Check.{announced, table_stages}
use Rattle.rules.specs.Marks.{marks_stages}
use Rattle.rules.specs.Calls.{vars_stage, Lent, Outcome, Taken, none_taken, Sent, take_event, answers, tested}

-- ---- stage 10 of a list

-- event, three zeros
abbrev pub event_right : List ℕ → ℕ → Bool
event_right l j = within 1 most_name (byte_at l j 0) && eqb (byte_at l j 1) 0 && eqb (byte_at l j 2) 0 && eqb (byte_at l j 3) 0

-- too long first; then the first bad record, a broken last one included
abbrev pub list_fails : List ℕ → List ℕ
list_fails l =
    if ltb most_list_bytes (length l) then list_too_long ∷ []
    else failing (event_right l) 0 (length l / record_bytes) ++ (if eqb (length l % record_bytes) 0 then [] else length l / record_bytes ∷ [])

-- ---- the events of a list

-- k of them, from index j on: event, three zeros, value
unfoldable pub sent_from : List ℕ → ℕ → ℕ → List Sent
sent_from l j zero = []
sent_from l j (suc k) = record { event = byte_at l j 0; value = number_at l j } ∷ sent_from l (suc j) k

-- with room for n outputs in all; j is the index of the next event
unfoldable pub take_events : List ℕ → Lent → ℕ → ℕ → List Sent → Taken → Outcome
unfolding take_event announced answers
take_events b l n j [] g = answers l none g
take_events b l n j (s ∷ ss) g =
    if ltb (n - length g.outs) (announced b).outputs then answers l (some (refusal 12 j)) g
    else take_events b l n (suc j) ss (take_event b s g)

-- the list is tested whole before its first event; it has no 11
abbrev pub list_stages : List ℕ → Lent → List ℕ → List Stage
list_stages b l es = table_stages b ++ (marks_stages b l.marks ++ (vars_stage l.vars ∷ stage 10 (list_fails es) ∷ []))

unfoldable pub list_call : List ℕ → Lent → List ℕ → Outcome
unfolding table_stages marks_stages failing first_refusal take_events sent_from
list_call b l es =
    tested (list_stages b l es) l
    (take_events b l (length l.room / record_bytes) 0 (sent_from es 0 (length es / record_bytes)) (none_taken l))
