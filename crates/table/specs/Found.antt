-- The lowest of the places that fail a test.
use Rattle.std.specs.Prelude.{◌≡◌, List, [], ◌∷◌, ℕ, ◌<◌, ◌≤◌, Bool, true, false, Option, None, Some, MatchOption}
use Rattle.rules.specs.Table.{records_of}

abbrev pub first_of : List ℕ → Option ℕ
first_of [] = None
first_of (i ∷ is) = Some i

-- a place that was found lies in the table
abbrev pub Inside : List ℕ → Option ℕ → Type 0
Inside b (Some i) = i < records_of b
Inside b None = Unit {0}

-- the first, and where it found nothing the second
abbrev pub or_next : Option ℕ → Option ℕ → Option ℕ
or_next (Some i) f = Some i
or_next None f = f

-- the first of the numbers below n that fails a test, as `find` over a range says it
abbrev pub First : (ℕ → Bool) → ℕ → Option ℕ → Type 0
First ok n r = MatchOption r ((k : ℕ) → 0 ≤ k → k < n → ok k ≡ true) (λ i. (0 ≤ i) × (i < n) × (ok i ≡ false) × ((k : ℕ) → 0 ≤ k → k < i → ok k ≡ true))
