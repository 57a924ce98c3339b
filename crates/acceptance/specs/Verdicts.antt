-- The answer of the check, as document 01 numbers it.
use Rattle.std.specs.Prelude.{List, [], ◌∷◌, ℕ, Option, None, Some, Result, Ok, Err}
use Rattle.rules.specs.Stages.{stage, first_refusal}
use Rattle.rules.specs.Check.{Verdict, refused, accepted, verdict, announced, visits_of, hits, loose_break, not_plain, deep_loop, endless_loop}
use Rattle.table.specs.Refusing.{refusal_of}
use Rattle.table.specs.declared.refusal.Stage.{Stage}
use Rattle.table.specs.declared.refusal.Refusal.{Refusal}
use Rattle.acceptance.specs.Counts.{announced_of}
use Rattle.acceptance.specs.declared.Announced.{Announced}

abbrev pub verdict_of : Result Announced Refusal → Verdict
verdict_of (Ok a) = accepted (announced_of a)
verdict_of (Err r) = refused (refusal_of r)

-- the verdict where stages 1 to 3 pass
unfoldable pub nodes_verdict : List ℕ → Verdict
unfolding visits_of hits announced first_refusal
nodes_verdict b =
    verdict
    (first_refusal (
    stage 4 (hits loose_break (visits_of b)) ∷
    stage 5 (hits not_plain (visits_of b)) ∷
    stage 6 (hits deep_loop (visits_of b)) ∷
    stage 7 (hits endless_loop (visits_of b)) ∷
    []
    ))
    (announced b)

-- a stage, by the place that was found to fail it
abbrev pub passed_at : Stage → Option ℕ → Result (Unit {0}) Refusal
passed_at s None = Ok tt
passed_at s (Some i) = Err (record { stage = s; place = i })
