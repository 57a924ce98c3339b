-- What the contracts of resume and of the round are said with.
use Rattle.std.specs.Prelude.{◌≡◌, ◌<◌, List, ℕ, Option, None, Some}
use Rattle.theory.specs.State.{Walk, walk, right_alone, resume_emit}
use Rattle.theory.specs.Round.{Heard, heard, Round, round}
use Rattle.memory.specs.Arrays.{Arrays}
use Rattle.memory.specs.Acts.{arrays_of}
use Rattle.memory.specs.declared.effects.Memory.{Memory}
use Rattle.walks.specs.declared.running.How.{How}
use Rattle.walks.specs.declared.running.Running.{Running}
use Rattle.walks.specs.Walks.{array_ops, how_of, left}
use Rattle.engine.specs.declared.Rounded.{Rounded}

-- ---- what a call promises that is lent some of the arrays only: with any others

abbrev pub RightAlone : How → Memory → How → Memory → Type 0
RightAlone h c h' c' = (l o : List ℕ) → walk (how_of h') l (arrays_of c' o) ≡ right_alone array_ops (how_of h) (walk (how_of h) l (arrays_of c o))

abbrev pub Rests : (Arrays → Walk Arrays) → How → List ℕ → Type 0
Rests f h l = (m : Arrays) → walk (how_of h) l m ≡ f m

abbrev pub Emits : ℕ → ℕ → Running → How → Running → Type 0
Emits n i r h r' = (o : List ℕ) → left h r' o ≡ resume_emit array_ops n i r.states (arrays_of r.memory o)

-- ---- the round

-- more than the announced steps of any program, 606,210
abbrev pub most_rounds : ℕ
most_rounds = 1000000

-- an event that is pending as the theory has it, 0 for none
abbrev pub event_number : Option ℕ → ℕ
event_number None = 0
event_number (Some e) = e

-- no event is named 0
abbrev pub Named : Option ℕ → Type 0
Named None = Unit {0}
Named (Some e) = 0 < e

-- what a run of the whole program left
abbrev pub heard_in : Option ℕ → Running → List ℕ → Heard Arrays
heard_in e r o = heard (event_number e) r.states (arrays_of r.memory o)

-- what a round of the code left
abbrev pub round_of : Rounded → Running → List ℕ → Round Arrays
round_of a r o = round a.grounded a.emitted a.highest r.states (arrays_of r.memory o)
