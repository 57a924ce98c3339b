-- What a start, a reaction and a list answer to C, of an outcome of the rules.
use Rattle.std.specs.Prelude.{◌≡◌, List, ℕ, ℤ, if◌then◌else◌, Result}
use Rattle.std.proofs.Math.Option.{Option}
use Rattle.rules.specs.Stages.{option, Refusal}
use Rattle.rules.specs.Calls.{Outcome}
use Rattle.rules.specs.Calls as Rules
use Rattle.table.specs.declared.refusal.Refusal as Code
use Rattle.calls.specs.Answers.{done_answer, done_refusal, listed_answer, listed_refusal}
use Rattle.calls.specs.declared.Done.{Done}
use Rattle.calls.specs.declared.Listed.{Listed}
use Rattle.landarbeso.specs.declared.answers.Answer.{Answer}

-- number and place of a refusal, 0 and 0 for none
abbrev pub refusal_number : Option Refusal → ℕ
refusal_number = option 0 (λ r. r.number)

abbrev pub refusal_place : Option Refusal → ℕ
refusal_place = option 0 (λ r. r.place)

-- those, and the answer; 1 for finished
abbrev pub flat : Option Refusal → Rules.Answer → Answer
flat r a = record {
  refused = refusal_number r;
  place = refusal_place r;
  finished = if a.finished then 1 else 0;
  highest = a.highest;
  steps = a.steps;
  emitted = a.emitted;
  outputs = a.outputs;
}

abbrev pub answer_of : Outcome → Answer
answer_of o = flat o.refused o.answer

-- the whole answer, and all that was lent
pub record Uncounted (o : Outcome) (r : Answer) (marks : List ℕ) (vars : List ℤ) (room : List ℕ) : Type 0 where
  pub answer : r ≡ answer_of o
  pub marks-are : marks ≡ o.lent.marks
  pub vars-are : vars ≡ o.lent.vars
  pub room-is : room ≡ o.lent.room

-- ---- what was done, or refused, as C has it

abbrev pub flat_done : Result Done Code.Refusal → Answer
flat_done r = flat (done_refusal r) (done_answer r)

abbrev pub flat_listed : Result Listed Code.Refusal → Answer
flat_listed r = flat (listed_refusal r) (listed_answer r)
