-- The stages that a call tests, and their verdict.
use Rattle.std.specs.Prelude.{List, [], ◌∷◌, ◌++◌, ◌≡◌, ℕ, ◌<◌, ◌^◌, Bool, true, false, ℤ, pos, Option, None, Some, Result, MatchResult}
use Rattle.rules.specs.Stages.{Stage, first_refusal, refusal}
use Rattle.rules.specs.Check.{Verdict, verdict, announced, table_stages}
use Rattle.rules.specs.Marks.{marks_stages}
use Rattle.rules.specs.Calls.{vars_stage}
use Rattle.rules.specs.Calls as Rules
use Rattle.rules.specs.Lists.{list_stages}
use Rattle.table.specs.Refusing.{stage_number, refusal_of}
use Rattle.table.specs.declared.refusal.Stage as Code
use Rattle.table.specs.declared.refusal.Refusal.{Refusal}
use Rattle.calls.specs.Answers.{lent, sent_of}

-- refused by the first stage that fails, else accepted with the announced numbers
unfoldable pub judged : List ℕ → List Stage → Verdict
unfolding first_refusal announced
judged b ss = verdict (first_refusal ss) (announced b)

-- of a start, a reaction and a list: what they do not look at may be anything
abbrev pub start_stages : List ℕ → List ℕ → List ℤ → List ℕ → List Stage
start_stages b m v o = Rules.start_stages b (lent m v o)

abbrev pub react_stages : List ℕ → List ℕ → List ℤ → ℕ → List ℕ → List Stage
react_stages b m v e o = Rules.react_stages b (lent m v o) (sent_of e (pos 0))

abbrev pub run_stages : List ℕ → List ℕ → List ℤ → List ℕ → List Stage
run_stages b m v es = list_stages b (lent m v []) es

-- of a reaction and of a list, before those of the events
abbrev pub standing_stages : List ℕ → List ℕ → List ℤ → List Stage
standing_stages b m v = table_stages b ++ (marks_stages b m ++ (vars_stage v ∷ []))

-- passed, or refused by this stage at place 0
abbrev pub Tested : Code.Stage → Bool → Result (Unit {0}) Refusal → Type 0
Tested k passes r = MatchResult r (λ x. passes ≡ true) (λ q. (passes ≡ false) × (refusal_of q ≡ refusal (stage_number k) 0))

-- a place that was found is small
abbrev pub Low : Option ℕ → Type 0
Low (Some i) = i < 2 ^ 32
Low None = Unit {0}
