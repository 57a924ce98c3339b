-- The verdict on what the runner tests, stage after stage.
-- Assumes nothing.
use Rattle.std.proofs.Common.{◌≡◌, refl, sym, ap, ◌∙◌, Bool, true, false, List, [], ◌∷◌, ℕ, ◌≤◌, leb, Option, Some, None, Result, Ok, Err}
use Rattle.std.proofs.Math.Option as rules
use Rattle.rules.specs.Stages.{Refusal, refusal, stage, unless, or_else, first_refusal}
use Rattle.rules.specs.Limits.{most_records, runner_outputs}
use Rattle.rules.specs.Limits as Rules
use Rattle.rules.specs.Table.{records_of}
use Rattle.rules.specs.Check.{announced, check, good_length, refused, table_stages, verdict}
use Rattle.rules.specs.Lists.{list_fails}
use Rattle.theory.specs.Logic.{clash}
use Rattle.acceptance.specs.Verdicts.{verdict_of}
use Rattle.acceptance.specs.declared.Announced.{Announced}
use Rattle.table.specs.declared.refusal.Refusal as Code
use Rattle.table.proofs.Passed.{sized}
use Rattle.table.specs.Found.{first_of}
use Rattle.calls.specs.Stages.{judged}
use Rattle.calls.proofs.Judging.{checks, stays-refused, all-passed, goes_on_lem, accepts-all, fails-test, passes-test, fails-first, passes-first}
use Rattle.lines.specs.Printed.{runner_stages}

pub same-refusal : (b es : List ℕ) {x : Result Announced Code.Refusal} → verdict_of x ≡ check b → {r : Code.Refusal} → x ≡ Err r → verdict_of (Err r) ≡ judged b (runner_stages b es)
same-refusal b es e h = stays-refused b (table_stages b) (e ∙ checks b) _ h

module _ (b es : List ℕ) {x : Result Announced Code.Refusal} (e : verdict_of x ≡ check b) {a : Announced} (h : x ≡ Ok a) where
  after_table : judged b (runner_stages b es) ≡ judged b (stage 11 (unless (leb (announced b).outputs runner_outputs)) ∷ stage 10 (list_fails es) ∷ [])
  after_table = goes_on_lem b (table_stages b) (e ∙ checks b) h _

  -- the test of the room, as the code has it
  module _ {y : Bool} (test : y ≡ leb a.outputs runner_outputs) where
    room : y ≡ leb (announced b).outputs runner_outputs
    room = test ∙ ap (λ (n : Rules.Announced). leb n.outputs runner_outputs) (sym (all-passed b (table_stages b) (e ∙ checks b) h).1)

    pub no_room : y ≡ false → judged b (runner_stages b es) ≡ refused (refusal 11 0)
    no_room r = after_table ∙ fails-test b 11 _ room r

    module _ (r : y ≡ true) {f : Option ℕ} (first : f ≡ first_of (list_fails es)) where
      after-room : judged b (runner_stages b es) ≡ judged b (stage 10 (list_fails es) ∷ [])
      after-room = after_table ∙ passes-test b 11 _ room r

      pub bad-event : {p : ℕ} → f ≡ Some p → judged b (runner_stages b es) ≡ refused (refusal 10 p)
      bad-event found = after-room ∙ fails-first b 10 [] (list_fails es) first found

      pub all-well : f ≡ None → verdict_of (Ok a) ≡ judged b (runner_stages b es)
      all-well found = accepts-all b (table_stages b) (e ∙ checks b) h ∙ sym (after-room ∙ passes-first b 10 [] (list_fails es) first found)

-- ---- an accepted table has at most 256 records

pub few-records : (b es : List ℕ) {a : Announced} → verdict_of (Ok a) ≡ judged b (runner_stages b es) → records_of b ≤ most_records
unfolding judged first_refusal table_stages
few-records b es {a} e = (sized b (go (good_length b) _ (announced b) e)).most
  where
    go : (g : Bool) (later : rules.Option Refusal) (n : Rules.Announced) → verdict_of (Ok a) ≡ verdict (or_else (unless g) 1 later) n → g ≡ true
    go true later n e = refl
    go false later n e = clash (cc)
