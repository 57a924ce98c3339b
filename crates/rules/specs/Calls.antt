-- What a call tests, answers and leaves: stages 9 to 11, answers and refusals, running totals; the start and one reaction.
use Rattle.std.specs.Prelude.{Bool, false, List, [], ◌∷◌, ◌++◌, ℕ, ◌+◌, ◌/◌, max, min, eqb, leb, ℤ, length, drop}
use Rattle.std.proofs.Math.Option.{Option, none, some}
use Rattle.rules.specs.Stages.{within, option, unless, Refusal, Stage, stage, first_refusal}
use Rattle.rules.specs.Limits.{record_bytes, variables, most_name, top_total}
use Rattle.rules.specs.Number.{bytes32}
use Rattle.rules.specs.Table.{records_of}
use Rattle.rules.specs.Check.{announced, table_stages}
use Rattle.rules.specs.Marks.{length_stage, marks_stages, marks_of, all_zero}
use Rattle.rules.specs.Memory.{Output}
use Rattle.rules.specs.Run.{Count, Ran, nothing_yet, start, reaction}

-- ---- stages 9 to 11

abbrev pub vars_stage : List ℤ → Stage
vars_stage x = stage 9 (unless (eqb (length x) variables))

abbrev pub event_stage : ℕ → Stage
event_stage e = stage 10 (unless (within 1 most_name e))

-- whole records of room for n
abbrev pub room_stage : ℕ → List ℕ → Stage
room_stage n room = stage 11 (unless (leb n (length room / record_bytes)))

-- ---- answers and refusals

pub record Answer : Type 0 where
  pub finished : Bool
  pub steps : ℕ
  pub emitted : ℕ
  pub highest : ℕ
  pub outputs : ℕ

pub record Totals : Type 0 where
  pub reactions : ℕ
  pub steps : ℕ

-- what the caller lends; `room` is the output room
pub record Lent : Type 0 where
  pub marks : List ℕ
  pub vars : List ℤ
  pub room : List ℕ
  pub totals : Totals

pub record Outcome : Type 0 where
  pub refused : Option Refusal
  pub answer : Answer
  pub lent : Lent

-- a refusal other than 12: zero counts, waiting, and all that was lent as it was
abbrev pub refuse : Lent → Refusal → Outcome
refuse l r = record { refused = some r; answer = record { finished = false; steps = 0; emitted = 0; highest = 0; outputs = 0 }; lent = l }

-- the first stage that fails refuses; else the outcome
abbrev pub tested : List Stage → Lent → Outcome → Outcome
tested ss l o = option o (refuse l) (first_refusal ss)

-- ---- outputs as bytes

-- name, three zeros, value
abbrev pub out_record : ℕ → ℤ → List ℕ
out_record o z = o ∷ 0 ∷ 0 ∷ 0 ∷ bytes32 z

unfoldable pub out_bytes : List Output → List ℕ
out_bytes [] = []
out_bytes (o ∷ os) = out_record o.name o.value ++ out_bytes os

-- bytes at the front of a buffer; those behind stay
abbrev pub onto : List ℕ → List ℕ → List ℕ
onto new old = new ++ drop (length new) old

-- ---- events taken, one after the other

-- what the events taken so far left, with their counts
pub record Taken : Type 0 where
  pub marks : List ℕ
  pub vars : List ℤ
  pub outs : List Output
  pub totals : Totals
  pub count : Count

abbrev pub none_taken : Lent → Taken
none_taken l = record { marks = l.marks; vars = l.vars; outs = []; totals = l.totals; count = nothing_yet }

-- steps and internal events add up; the highest level is the highest among them
abbrev pub add_up : Count → Count → Count
add_up c d = record { steps = c.steps + d.steps; emitted = c.emitted + d.emitted; highest = max c.highest d.highest }

-- the running totals after one reaction of so many steps, stopping at the largest value
abbrev pub count_reaction : ℕ → Totals → Totals
count_reaction s t = record { reactions = min top_total (t.reactions + 1); steps = min top_total (t.steps + s) }

-- what a run left joins what was taken before
abbrev pub join_run : List ℕ → Totals → Ran → Taken → Taken
join_run b t r g = record { marks = marks_of (records_of b) r.last.tree; vars = r.last.memory.vars; outs = g.outs ++ r.last.memory.outs; totals = t; count = add_up g.count r.count }

-- an event with its value
pub record Sent : Type 0 where
  pub event : ℕ
  pub value : ℤ

unfoldable pub take_event : List ℕ → Sent → Taken → Taken
unfolding reaction marks_of
take_event b s g = let r : Ran = reaction b g.marks g.vars s.event s.value in join_run b (count_reaction r.count.steps g.totals) r g

unfoldable pub answers : Lent → Option Refusal → Taken → Outcome
unfolding all_zero out_bytes
answers l r g = record {
  refused = r;
  answer = record { finished = all_zero g.marks; steps = g.count.steps; emitted = g.count.emitted; highest = g.count.highest; outputs = length g.outs };
  lent = record { marks = g.marks; vars = g.vars; room = onto (out_bytes g.outs) l.room; totals = g.totals };
}

-- ---- the calls

-- of the marks only their length is tested, and no event
abbrev pub start_stages : List ℕ → Lent → List Stage
start_stages b l = table_stages b ++ (length_stage b l.marks ∷ vars_stage l.vars ∷ room_stage (announced b).outputs l.room ∷ [])

-- a start is not counted in the totals
unfoldable pub start_call : List ℕ → Lent → Outcome
unfolding table_stages announced first_refusal start marks_of answers
start_call b l = tested (start_stages b l) l (answers l none (join_run b l.totals (start b l.vars) (none_taken l)))

-- 1 to 11, in that order
abbrev pub react_stages : List ℕ → Lent → Sent → List Stage
react_stages b l s = table_stages b ++ (marks_stages b l.marks ++ (vars_stage l.vars ∷ event_stage s.event ∷ room_stage (announced b).outputs l.room ∷ []))

unfoldable pub react_call : List ℕ → Lent → Sent → Outcome
unfolding table_stages marks_stages announced first_refusal take_event answers
react_call b l s = tested (react_stages b l s) l (answers l none (take_event b s (none_taken l)))
