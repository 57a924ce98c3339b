-- The input events that wake some place, as a set of bits: bit e for event e.
use Rattle.std.specs.Prelude.{Bool, ◌&&◌, ◌||◌, List, ℕ, zero, suc, ◌+◌, ◌*◌, eqb, ltb, if◌then◌else◌}
use Rattle.std.specs.Int.Count.{count_trailing_zeros}
use Rattle.rules.specs.Limits.{most_name}
use Rattle.rules.specs.Tree.{Tree, Source, input}
use Rattle.rules.specs.Table.{kind_at, name_at, span_at}
use Rattle.rules.specs.Marks.{marked}
use Rattle.rules.specs.Step.{wakes}
use Rattle.rules.specs.Query.{stirs}
use Rattle.table.specs.Kinds.{children_of}

-- of the k numbers from e on those that pass a test, e at the lowest bit
unfoldable pub bits : (ℕ → Bool) → ℕ → ℕ → ℕ
bits f e zero = 0
bits f e (suc k) = (if f e then 1 else 0) + 2 * bits f (suc e) k

-- of the events 1 to 63
abbrev pub event_set : (ℕ → Bool) → ℕ
event_set f = 2 * bits f 1 most_name

-- an input event
abbrev pub heard_by : ℕ → ℕ → Source → ℕ → Bool
heard_by e = wakes (record { source = input; name = e })

unfoldable pub awaited_set : Tree → ℕ
unfolding bits stirs
awaited_set t = event_set (λ e. stirs (heard_by e) t)

-- the construct at place i is marked and waits for input event e
abbrev pub hears_at : List ℕ → List ℕ → ℕ → ℕ → Bool
hears_at b m i e = (eqb (kind_at b i) 8 || eqb (kind_at b i) 15) && (eqb e (name_at b i) && marked m i)

unfoldable pub heard_at : List ℕ → List ℕ → ℕ → ℕ
unfolding bits
heard_at b m i = event_set (hears_at b m i)

-- the next record; behind an every or a fin the next construct
unfoldable pub next_at : List ℕ → ℕ → ℕ
unfolding children_of
next_at b i = if ltb (kind_at b i) 15 then i + 1 else (if eqb (children_of (kind_at b i)) 1 then i + span_at b i else i + 1)

-- the lowest of a set, 0 where it is empty
abbrev pub lowest_bit : ℕ → ℕ
lowest_bit n = if eqb n 0 then 0 else count_trailing_zeros 64 n
