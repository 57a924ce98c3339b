-- What a call answers and leaves, of an outcome of the rules.
use Rattle.std.specs.Prelude.{◌≡◌, List, ℕ, ◌+◌, min, ℤ, false, Result, Ok, Err, Some, None, IfSome, ◌<◌}
use Rattle.std.specs.Prelude as code
use Rattle.std.proofs.Math.Option.{Option, none, some}
use Rattle.rules.specs.Stages as Rules
use Rattle.rules.specs.Limits.{top_total}
use Rattle.rules.specs.Calls.{Totals, Lent, Answer, Outcome, Sent}
use Rattle.table.specs.Refusing.{refusal_of, stage_number}
use Rattle.table.specs.declared.refusal.Refusal.{Refusal}
use Rattle.calls.specs.declared.Done.{Done}
use Rattle.calls.specs.declared.Listed.{Listed}

abbrev pub lent_of : List ℕ → List ℤ → List ℕ → Totals → Lent
lent_of m v o t = record { marks = m; vars = v; room = o; totals = t }

-- the calls of this crate are lent no running totals
abbrev pub no_totals : Totals
no_totals = record { reactions = 0; steps = 0 }

abbrev pub lent : List ℕ → List ℤ → List ℕ → Lent
lent m v o = lent_of m v o no_totals

abbrev pub sent_of : ℕ → ℤ → Sent
sent_of e z = record { event = e; value = z }

-- ---- answers

abbrev pub answer_of : Done → Answer
answer_of d = record { finished = d.finished; steps = d.steps; emitted = d.emitted; highest = d.highest; outputs = d.outputs }

-- of a refusal other than 12: zero counts and waiting
abbrev pub nothing_done : Answer
nothing_done = record { finished = false; steps = 0; emitted = 0; highest = 0; outputs = 0 }

-- what the rules answer where the code says this
abbrev pub done_answer : Result Done Refusal → Answer
done_answer (Ok d) = answer_of d
done_answer (Err r) = nothing_done

abbrev pub listed_answer : Result Listed Refusal → Answer
listed_answer (Ok l) = answer_of l.done
listed_answer (Err r) = nothing_done

-- ---- refusals

abbrev pub done_refusal : Result Done Refusal → Option Rules.Refusal
done_refusal (Ok d) = none
done_refusal (Err r) = some (refusal_of r)

abbrev pub stopped_refusal : code.Option Refusal → Option Rules.Refusal
stopped_refusal None = none
stopped_refusal (Some r) = some (refusal_of r)

-- refusal 12 stands beside the counts
abbrev pub listed_refusal : Result Listed Refusal → Option Rules.Refusal
listed_refusal (Ok l) = stopped_refusal l.stopped
listed_refusal (Err r) = some (refusal_of r)

-- that one alone: the stages that refuse a list have lower numbers
abbrev pub StoppedLast : Result Listed Refusal → Type 0
StoppedLast (Ok l) = IfSome l.stopped (λ r. stage_number r.stage ≡ 12)
StoppedLast (Err r) = stage_number r.stage < 12

-- ---- calls

-- the whole answer, and all that was lent
pub record Uncounted (o : Outcome) (r : Result Done Refusal) (marks : List ℕ) (vars : List ℤ) (room : List ℕ) : Type 0 where
  pub refused : o.refused ≡ done_refusal r
  pub answer : o.answer ≡ done_answer r
  pub marks-are : marks ≡ o.lent.marks
  pub vars-are : vars ≡ o.lent.vars
  pub room-is : room ≡ o.lent.room

abbrev pub events_taken : Result Listed Refusal → ℕ
events_taken (Ok l) = l.taken
events_taken (Err r) = 0

-- the same of a list; where no totals are lent, the reactions that the rules count are the events taken
pub record Ran (o : Outcome) (r : Result Listed Refusal) (marks : List ℕ) (vars : List ℤ) (room : List ℕ) : Type 0 where
  pub refused : o.refused ≡ listed_refusal r
  pub stopped : StoppedLast r
  pub answer : o.answer ≡ listed_answer r
  pub taken : events_taken r ≡ o.lent.totals.reactions
  pub marks-are : marks ≡ o.lent.marks
  pub vars-are : vars ≡ o.lent.vars
  pub room-is : room ≡ o.lent.room

-- ---- the running totals, which another function adds

-- an outcome with other totals
abbrev pub with_totals : Totals → Outcome → Outcome
with_totals t o = record { refused = o.refused; answer = o.answer; lent = record { marks = o.lent.marks; vars = o.lent.vars; room = o.lent.room; totals = t } }

-- so many reactions and steps more, stopping at the largest value
abbrev pub add_totals : Totals → ℕ → ℕ → Totals
add_totals t r s = record { reactions = min top_total (t.reactions + r); steps = min top_total (t.steps + s) }

-- what a call makes of totals t, where it came to o with none lent: its reactions and steps are added
abbrev pub counting : Totals → Outcome → Outcome
counting t o = with_totals (add_totals t o.lent.totals.reactions o.answer.steps) o
