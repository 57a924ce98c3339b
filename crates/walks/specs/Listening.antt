-- Where each event is awaited: a reach for each event of each source, and the parts of a construct that hold it.
use Rattle.std.specs.Prelude.{◌≡◌, ◌⊎◌, Bool, true, List, ℕ, zero, suc, ◌+◌, ◌≤◌, ◌<◌, min, max, ltb, slice_index_or, eqb, ◌&&◌, if◌then◌else◌}
use Rattle.rules.specs.Limits.{most_records}
use Rattle.rules.specs.Tree.{eq_source}
use Rattle.rules.specs.Table.{kind_at, name_at, second_at, records_of}
use Rattle.rules.specs.Step.{wakes}
use Rattle.theory.specs.State.{awake}
use Rattle.table.specs.Kinds.{children_of}
use Rattle.table.specs.Named.{source_of}
use Rattle.table.specs.Places.{tree_of}
use Rattle.table.specs.declared.kind.Source.{Source}
use Rattle.table.specs.declared.kind.Source.TheVariants.{Input, Internal}
use Rattle.walks.specs.declared.listeners.Listeners.{Listeners}
use Rattle.walks.specs.declared.part.Reach.{Reach}
use Rattle.walks.specs.Walks.{event_from, hears}

-- whoever awaits the event stands within the reach
abbrev pub Hear : List ℕ → Source → ℕ → Reach → Type 0
Hear b s e r = (k : ℕ) → k < records_of b → hears (kind_at b k) (name_at b k) s e ≡ true → (r.from ≤ k) × (k < r.to)

abbrev pub nowhere : Reach
nowhere = record { from = most_records; to = 0 }

-- of events over 63 nothing is known
abbrev pub anywhere : Reach
anywhere = record { from = 0; to = most_records }

-- the reach that has place i too
abbrev pub widened : ℕ → Reach → Reach
widened i r = record { from = min r.from i; to = max r.to (i + 1) }

-- the reach of the listeners among the first n places
unfoldable pub heard : List ℕ → Source → ℕ → ℕ → Reach
heard b s e zero = nowhere
heard b s e (suc n) = if hears (kind_at b n) (name_at b n) s e then widened n (heard b s e n) else heard b s e n

-- ---- what the code holds

abbrev pub row_of : Listeners → Source → List Reach
row_of l Input = l.input
row_of l Internal = l.internal

abbrev pub reach_of : Listeners → Source → ℕ → Reach
reach_of l s e = if ltb e 64 then slice_index_or (row_of l s) e anywhere else anywhere

abbrev pub HeardAmong : List ℕ → ℕ → Listeners → Type 0
HeardAmong b n l = (s : Source) (e : ℕ) → e < 64 → reach_of l s e ≡ heard b s e n

-- no listener is counted
abbrev pub Nobody : Listeners → Type 0
Nobody l = (s : Source) (e : ℕ) → e < 64 → reach_of l s e ≡ nowhere

-- every listener of every event is counted
pub record Listens (b : List ℕ) (l : Listeners) : Type 0 where
  pub counted : (s : Source) (e : ℕ) → Hear b s e (reach_of l s e)

-- and each reach begins at the first of them and ends behind the last
abbrev pub Tight : List ℕ → Listeners → Type 0
Tight b l = HeardAmong b (records_of b) l

-- ---- what it holds with one listener more, at place i

abbrev pub widened_if : Bool → ℕ → Reach → Reach
widened_if x i r = if x then widened i r else r

-- one that awaits event v of source t
abbrev pub Noted : Source → ℕ → ℕ → Listeners → Listeners → Type 0
Noted t v i l l' = (s : Source) (e : ℕ) → e < 64 → reach_of l' s e ≡ widened_if (eq_source (source_of t) (source_of s) && eqb e v) i (reach_of l s e)

-- the record there, if it awaits an event
abbrev pub Heard : List ℕ → ℕ → Listeners → Listeners → Type 0
Heard b i l l' = (s : Source) (e : ℕ) → e < 64 → reach_of l' s e ≡ widened_if (hears (kind_at b i) (name_at b i) s e) i (reach_of l s e)

-- ---- parts

-- the part of the construct at place i that has all places of the reach
pub data Within (b : List ℕ) (i : ℕ) (r : Reach) : ℕ → Type 0 where
  the-body : kind_at b i ≡ 14 → Within b i r (i + 1)
  the-left : children_of (kind_at b i) ≡ 2 → r.to ≤ second_at b i → Within b i r (i + 1)
  the-right : children_of (kind_at b i) ≡ 2 → second_at b i ≤ r.from → Within b i r (second_at b i)

-- that, or the construct itself
abbrev pub PartWith : List ℕ → ℕ → Reach → ℕ → Type 0
PartWith b i r k = (k ≡ i) ⊎ Within b i r k

-- no part has
abbrev pub NoneWithin : List ℕ → ℕ → Reach → Type 0
NoneWithin b i r = (k : ℕ) → Within b i r k → ⊥

-- all that may hear in the program stands at place k and below
abbrev pub HeardIn : List ℕ → Reach → ℕ → Type 0
HeardIn b r k = (s : Source) (e : ℕ) → Hear b s e r → (l : List ℕ) → awake (wakes (event_from s e)) (tree_of b k) l ≡ awake (wakes (event_from s e)) (tree_of b 0) l
