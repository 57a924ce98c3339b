-- Choices and tests as the definitions write them; refusals, and the stages that give them.
use Rattle.std.specs.Prelude.{if◌then◌else◌, Bool, true, false, ◌&&◌, List, [], ◌∷◌, ℕ, zero, suc, leb}
use Rattle.std.proofs.Math.Option.{Option, none, some}

-- lo ≤ n ≤ hi
abbrev pub within : ℕ → ℕ → ℕ → Bool
within lo hi n = leb lo n && leb n hi

abbrev pub option {ℓ κ} : {A : Type ℓ} {B : Type κ} → B → (A → B) → Option A → B
option b f none = b
option b f (some a) = f a

abbrev pub is_some {ℓ} : {A : Type ℓ} → Option A → Bool
is_some none = false
is_some (some a) = true

-- of the k places from i on those that fail a test, the lowest first
unfoldable pub failing : (ℕ → Bool) → ℕ → ℕ → List ℕ
failing ok i zero = []
failing ok i (suc k) = if ok i then failing ok (suc i) k else i ∷ failing ok (suc i) k

-- place 0 where a test of the whole fails
abbrev pub unless : Bool → List ℕ
unless true = []
unless false = 0 ∷ []

pub record Refusal : Type 0 where
  pub number : ℕ
  pub place : ℕ

abbrev pub refusal : ℕ → ℕ → Refusal
refusal k i = record { number = k; place = i }

-- a stage: its number and the places that fail it, the lowest first
pub record Stage : Type 0 where
  pub number : ℕ
  pub fails : List ℕ

abbrev pub stage : ℕ → List ℕ → Stage
stage k is = record { number = k; fails = is }

abbrev pub or_else : List ℕ → ℕ → Option Refusal → Option Refusal
or_else [] k later = later
or_else (i ∷ is) k later = some (refusal k i)

-- the first stage that fails decides, with the lowest place that fails it
unfoldable pub first_refusal : List Stage → Option Refusal
first_refusal [] = none
first_refusal (s ∷ ss) = or_else s.fails s.number (first_refusal ss)
