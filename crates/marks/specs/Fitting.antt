-- What the marks say of a construct: whether it has one, and the lowest construct in it that does not fit.
use Rattle.std.specs.Prelude.{◌≡◌, Bool, true, false, not, ◌&&◌, ◌||◌, List, ℕ, ◌≤◌, ◌<◌, T, length, if◌then◌else◌, Option, None, Some, get_or}
use Rattle.std.proofs.Math.Option as Rules
use Rattle.std.proofs.Math.Option.{none, some}
use Rattle.rules.specs.Stages.{is_some, Refusal, refusal, first_refusal}
use Rattle.rules.specs.Limits.{most_records}
use Rattle.rules.specs.Tree.{Tree}
use Rattle.rules.specs.Table.{records_of, in_kinds_table}
use Rattle.rules.specs.Marks.{rest_of, misfits, mark_right, marks_stages}
use Rattle.table.specs.Places.{Place, tree_of}
use Rattle.table.specs.Found.{first_of, or_next}
use Rattle.table.specs.declared.kind.Kind as kind
use Rattle.table.specs.declared.kind.Kind.TheVariants as kind_case
use Rattle.table.specs.declared.kind.Par.{Par}
use Rattle.table.specs.declared.kind.Par.TheVariants.{And, Or}
use Rattle.marks.specs.declared.fitting.Seen.{Seen}
use Rattle.marks.specs.declared.fitting.Fit.{Fit}
use Rattle.marks.specs.declared.fitting.Fit.TheVariants.{Unmarked, Marked, Misfit}

-- an array that holds of each place from i up to n a value of which P tells; z is what it holds where nothing is known
pub record Known {A : Type 0} (z : A) (P : ℕ → A → Type 0) (n i : ℕ) (vs : List A) : Type 0 where
  pub many : length vs ≡ most_records
  pub at : (j : ℕ) → i ≤ j → j < n → P j (get_or vs j z)

-- a table that passes stages 1 to 3
pub record Sound (b : List ℕ) : Type 0 where
  pub root : Place b 0
  pub named : (j : ℕ) → j < records_of b → T (in_kinds_table b j)
  pub few : records_of b ≤ most_records

-- a place of a table whose shape is right, and one mark for each record
pub record Spot (b m : List ℕ) (i : ℕ) : Type 0 where
  pub place : Place b i
  pub sized : length m ≡ records_of b

unfoldable pub seen_of : List ℕ → Tree → Seen
unfolding rest_of misfits
seen_of m t = record { marked = is_some (rest_of m t); misfit = first_of (misfits m t) }

-- whether a construct of two children does not fit: an and always does; an or where one side only has marks; a sequence or an if where both have
abbrev pub misfits_here : kind.Kind → Bool → Bool → Bool
misfits_here (kind_case.Par And) x y = false
misfits_here (kind_case.Par Or) x y = if x then not y else y
misfits_here _ x y = x && y

-- of two children, from what the marks say of each
abbrev pub join_seen : kind.Kind → ℕ → Seen → Seen → Seen
join_seen k i l r = record { marked = l.marked || r.marked; misfit = if misfits_here k l.marked r.marked then Some i else or_next l.misfit r.misfit }

-- an if or a sequence, by its sides
abbrev pub side_fit : Fit → Fit → Fit
side_fit Unmarked r = r
side_fit Marked Unmarked = Marked
side_fit Marked Marked = Misfit
side_fit Marked Misfit = Misfit
side_fit Misfit r = Misfit

-- an and or an or, by its sides
abbrev pub par_fit : Par → Fit → Fit → Fit
par_fit o Unmarked Unmarked = Unmarked
par_fit o Marked Marked = Marked
par_fit And Unmarked Marked = Marked
par_fit And Marked Unmarked = Marked
par_fit Or Unmarked Marked = Misfit
par_fit Or Marked Unmarked = Misfit
par_fit o Misfit r = Misfit
par_fit o Unmarked Misfit = Misfit
par_fit o Marked Misfit = Misfit

-- what v says of a construct of which the marks say s
abbrev pub Says : Fit → Seen → Type 0
Says Unmarked s = s ≡ record { marked = false; misfit = None }
Says Marked s = s ≡ record { marked = true; misfit = None }
Says Misfit s = Unit {0}

-- what v says of the construct at place i and of its own mark
pub record Fits (b m : List ℕ) (i : ℕ) (v : Fit) : Type 0 where
  pub right : mark_right b m i ≡ true
  pub says : Says v (seen_of m (tree_of b i))

-- an array of it for the places from i on
abbrev pub FitFrom : List ℕ → List ℕ → ℕ → List Fit → Type 0
FitFrom b m i vs = Known Unmarked (Fits b m) (records_of b) i vs

-- where x holds, stage 8 lets the marks pass
abbrev pub LetsPass : List ℕ → List ℕ → Bool → Type 0
LetsPass b m x = x ≡ true → first_refusal (marks_stages b m) ≡ none

-- the refusal of stage 8 that a place stands for
abbrev pub refused_at : Option ℕ → Rules.Option Refusal
refused_at (Some i) = some (refusal 8 i)
refused_at None = none
