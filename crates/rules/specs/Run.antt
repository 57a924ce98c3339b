-- Steps to the end, with their counts; the start and the reaction of a table.
use Rattle.std.specs.Prelude.{List, [], ℕ, zero, suc, max, ℤ, pos, set, if◌then◌else◌}
use Rattle.std.proofs.Math.Option.{none, some}
use Rattle.rules.specs.Stages.{is_some}
use Rattle.rules.specs.Tree.{Tree}
use Rattle.rules.specs.Table.{program_of}
use Rattle.rules.specs.Check.{announced}
use Rattle.rules.specs.Marks.{at_rest}
use Rattle.rules.specs.Step.{input_event, Description, step}

-- steps, internal events emitted, highest level
pub record Count : Type 0 where
  pub steps : ℕ
  pub emitted : ℕ
  pub highest : ℕ

abbrev pub nothing_yet : Count
nothing_yet = record { steps = 0; emitted = 0; highest = 0 }

-- one step more, to d: a step makes an event pending exactly where it emits
abbrev pub tally : Description → Count → Count
tally d c = record { steps = suc c.steps; emitted = (if is_some d.pending then suc c.emitted else c.emitted); highest = max c.highest d.level }

pub record Ran : Type 0 where
  pub last : Description
  pub count : Count

-- steps until no rule applies, at most f of them
unfoldable pub run : ℕ → Description → Count → Ran
unfolding step
run zero d c = record { last = d; count = c }
run (suc f) d c = elim (step d) [ none ↦ record { last = d; count = c } | some d' ↦ run f d' (tally d' c) ]

-- an input event of a value is pending on a tree; the value is in variable 0
abbrev pub faced : ℕ → ℤ → Tree → List ℤ → Description
faced e z t x = record { tree = t; level = 0; pending = some (input_event e); memory = record { vars = set x 0 z; outs = [] } }

-- event 0, which nobody awaits, on the program itself
unfoldable pub start : List ℕ → List ℤ → Ran
unfolding run program_of announced
start b x = run (announced b).steps (faced 0 (pos 0) (program_of b) x) nothing_yet

unfoldable pub reaction : List ℕ → List ℕ → List ℤ → ℕ → ℤ → Ran
unfolding run program_of announced at_rest
reaction b m x e z = run (announced b).steps (faced e z (at_rest m (program_of b)) x) nothing_yet
