-- The states and variables of a running program, as code holds them.
use Rattle.std.specs.Prelude.{◌≡◌, List, ℕ, ◌<◌, ℤ, get_or, length, take, replicate}
use Rattle.rules.specs.Limits.{most_records}
use Rattle.rules.specs.Marks.{all_zero}
use Rattle.rules.specs.Calls.{onto}
use Rattle.walks.specs.declared.running.Running.{Running}
use Rattle.calls.specs.declared.Done.{Done}

-- the first n are bytes
abbrev pub Bytes : ℕ → List ℕ → Type 0
Bytes n l = (j : ℕ) → j < n → get_or l j 0 < 256

-- a program at rest: a state for each mark, idle ones behind them, these variables, and nothing counted
pub record Resting (marks : List ℕ) (vars : List ℤ) (run : Running) : Type 0 where
  pub states-are : run.states ≡ onto marks (replicate most_records 0)
  pub vars-are : run.memory.vars ≡ vars
  pub no-steps : run.memory.steps ≡ 0
  pub no-outputs : run.memory.outputs ≡ 0

-- what `finish` answers and leaves of what ran
pub record Stored (emitted highest : ℕ) (run : Running) (marks : List ℕ) (d : Done) (marks' : List ℕ) (vars' : List ℤ) : Type 0 where
  pub done : d ≡ record { finished = all_zero marks'; highest = highest; steps = run.memory.steps; emitted = emitted; outputs = run.memory.outputs }
  pub marks-are : marks' ≡ take (length marks) run.states
  pub vars-are : vars' ≡ run.memory.vars
