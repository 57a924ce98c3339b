-- The running totals: reactions and steps, each stopping at the largest value.
use Rattle.std.specs.Prelude.{ℕ, ◌+◌, ◌≤◌, min, ◌≡◌}
use Rattle.rules.specs.Limits.{top_total}
use Rattle.rules.specs.Calls as rules
use Rattle.totals.specs.declared.Totals.{Totals}

-- the record of totals, as the rules have it
abbrev pub totals_of : Totals → rules.Totals
totals_of t = record { reactions = t.reactions; steps = t.steps }

-- a total and what is added to it, stopping at the top
abbrev pub add_total : ℕ → ℕ → ℕ
add_total n more = min top_total (n + more)

abbrev pub add_totals : Totals → ℕ → ℕ → Totals
add_totals t r s = record { reactions = add_total t.reactions r; steps = add_total t.steps s }

-- what `with` and `count` do to totals: so many reactions and steps are added; and the totals they find are at most the top, as 64 bits are
pub record Counted (t : Totals) (r s : ℕ) (left : Totals) : Type 0 where
  pub sum : left ≡ add_totals t r s
  pub reactions-fit : t.reactions ≤ top_total
  pub steps-fit : t.steps ≤ top_total
