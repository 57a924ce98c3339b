-- The part of a program that runs, and the way down to it: the places of the constructs that hold it, from the root on.
use Rattle.std.specs.Prelude.{◌≡◌, Bool, true, List, ℕ, ◌+◌, ◌≤◌, ◌<◌, eqb, ltb, get_or, slice_range, if◌then◌else◌}
use Rattle.std.specs.List.{list_all}
use Rattle.rules.specs.Table.{kind_at, records_of}
use Rattle.theory.specs.State.{Walk, resume, still_at}
use Rattle.theory.specs.Part.{Only}
use Rattle.table.specs.Places.{Place, Spot, tree_of}
use Rattle.memory.specs.Arrays.{Arrays}
use Rattle.walks.specs.Walks.{array_ops}
use Rattle.walks.specs.declared.part.Reach.{Reach}

-- all states from one place on, and before another, are idle
abbrev pub idling : List ℕ → ℕ → ℕ → Bool
idling l a b = list_all (λ s. eqb s 0) (slice_range l a b)

-- the right of the construct at place i, at place j, may run alone: no left that lives comes before it
unfoldable pub right_free : List ℕ → List ℕ → ℕ → ℕ → Bool
right_free b l i j = if ltb (kind_at b i) 17 then idling l (i + 1) j else eqb (get_or l i 0) 0

-- all of the program is idle or waiting
pub record AllWait (b l : List ℕ) : Type 0 where
  pub low : (k : ℕ) → k < records_of b → get_or l k 0 < 2

-- all of the program that runs stands within the reach
pub record Runs (b : List ℕ) (n : ℕ) (l : List ℕ) (r : Reach) : Type 0 where
  pub before : (k : ℕ) → k < r.from → k < records_of b → still_at n (get_or l k 0) ≡ true
  pub behind : (k : ℕ) → r.to ≤ k → k < records_of b → still_at n (get_or l k 0) ≡ true

-- at place k stands a part of the construct at place i, and nothing else of that runs
pub record Step (b l : List ℕ) (r : Reach) (i k : ℕ) : Type 0 where
  pub place : Place b k
  pub below : i < k
  pub only : (n : ℕ) → Runs b n l r → Only n l (tree_of b i) (tree_of b k)

-- so many steps from the root down
pub record Way (b l : List ℕ) (r : Reach) (path : List ℕ) (steps : ℕ) : Type 0 where
  pub root : get_or path 0 0 ≡ 0
  pub each : (e : ℕ) → e < steps → Step b l r (get_or path e 0) (get_or path (e + 1) 0)

-- its places
abbrev pub Along : List ℕ → List ℕ → ℕ → Type 0
Along b path steps = (e : ℕ) → e ≤ steps → Spot b (get_or path e 0)

-- at one level
pub record Path (b : List ℕ) (n : ℕ) (l path : List ℕ) (steps : ℕ) : Type 0 where
  pub root : get_or path 0 0 ≡ 0
  pub each : (e : ℕ) → e < steps → Only n l (tree_of b (get_or path e 0)) (tree_of b (get_or path (e + 1) 0))

-- w is what a walk left at the end of a way that began with these states; from there v is what the whole program leaves
abbrev pub Climbs : List ℕ → List ℕ → ℕ → ℕ → Walk Arrays → Walk Arrays → Type 0
Climbs b path steps n w v = (l : List ℕ) (m : Arrays) → Path b n l path steps → w ≡ resume array_ops n (tree_of b (get_or path steps 0)) l m → v ≡ resume array_ops n (tree_of b 0) l m
