-- Constructs that stand one behind the other up to a place, and what a walk through them counts.
use Rattle.std.specs.Prelude.{◌≡◌, Bool, List, [], ◌++◌, ℕ, ◌+◌, Option, None, Some, if◌then◌else◌}
use Rattle.rules.specs.Table.{span_at}
use Rattle.rules.specs.Check.{Around, Visit, nothing_around, walk}
use Rattle.table.specs.Places.{Place, tree_of}
use Rattle.acceptance.specs.Counts.{counted}
use Rattle.acceptance.specs.declared.counts.Tally.{Tally}

-- what a walk goes through from place i on, up to the place e
pub data Visits (b : List ℕ) (a : Around) (e : ℕ) : ℕ → List Visit → Type 0 where
  ends : {i : ℕ} → i ≡ e → Visits b a e i []
  goes : {i : ℕ} {vs : List Visit} → Place b i → Visits b a e (i + span_at b i) vs → Visits b a e i (walk a (tree_of b i) ++ vs)

-- the last of the constructs from place i on ends at the place e
pub record Ends (b : List ℕ) (e i : ℕ) : Type 0 where
  pub visits : List Visit
  pub are : Visits b nothing_around e i visits

-- o is the tally t with all that the walk from place i on goes through
abbrev pub Counts : Option Tally → List ℕ → Around → ℕ → ℕ → Tally → Type 0
Counts o b a e i t = (vs : List Visit) → Visits b a e i vs → o ≡ counted vs t

-- the tally where all passed
abbrev pub given : Bool → Tally → Option Tally
given r t = if r then Some t else None
