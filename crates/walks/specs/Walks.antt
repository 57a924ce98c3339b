-- The walks of the theory over the memory of the code, and what the contracts of the walks are said with.
use Rattle.std.specs.Prelude.{◌≡◌, Bool, ◌||◌, ◌&&◌, List, ℕ, eqb}
use Rattle.rules.specs.Tree.{by_source}
use Rattle.rules.specs.Step.{Event}
use Rattle.theory.specs.State.{Ops, How, idle, ended, broke, waiting, ringing, Walk, walk, Swept, swept, exec_loop}
use Rattle.table.specs.Named.{source_of}
use Rattle.table.specs.declared.kind.Source.{Source}
use Rattle.memory.specs.Arrays.{Arrays, tick, acts, is_nonzero}
use Rattle.memory.specs.Acts.{arrays_of}
use Rattle.memory.specs.declared.effects.Memory.{Memory}
use Rattle.walks.specs.declared.running.How as code
use Rattle.walks.specs.declared.running.How.TheVariants.{Idle, Ended, Broke, Waiting, Ringing}
use Rattle.walks.specs.declared.running.Running.{Running}

-- what the walks ask of a memory, of the arrays; an emit itself changes none of them
abbrev pub array_ops : Ops Arrays
array_ops = record { tick = tick; acts = acts; rings = λ e y a. a; test = λ v a. is_nonzero a v }

-- how a walk of the code ended
abbrev pub how_of : code.How → How
how_of Idle = idle
how_of Ended = ended
how_of Broke = broke
how_of Waiting = waiting
how_of (Ringing e) = ringing e

-- what a walk left, and what a clear did
abbrev pub left : code.How → Running → List ℕ → Walk Arrays
left h run out = walk (how_of h) run.states (arrays_of run.memory out)

abbrev pub cleared : Bool → Running → List ℕ → Swept Arrays
cleared lived run out = swept lived run.states (arrays_of run.memory out)

-- ---- events

abbrev pub event_from : Source → ℕ → Event
event_from s e = record { source = source_of s; name = e }

-- kinds 8 and 15 wait for input, 9 and 16 for internal events
unfoldable pub waits : ℕ → Source → Bool
waits k s = eqb k (by_source (source_of s) 8) || eqb k (by_source (source_of s) 15)

-- does a record of kind k and name v wait for event e of this source?
unfoldable pub hears : ℕ → ℕ → Source → ℕ → Bool
unfolding waits
hears k v s e = waits k s && eqb e v

-- ---- what a call promises that is lent the memory alone: with any states and any output room

abbrev pub AfterBody : code.How → Memory → code.How → Memory → Type 0
AfterBody h m h' m' = (l o : List ℕ) → walk (how_of h') l (arrays_of m' o) ≡ exec_loop array_ops (how_of h) (walk (how_of h) l (arrays_of m o))
