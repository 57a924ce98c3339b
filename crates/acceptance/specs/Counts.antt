-- What a walk counts, and the announced numbers as the code has them.
use Rattle.std.specs.Prelude.{Bool, true, ◌&&◌, List, [], ◌∷◌, ℕ, ◌+◌, max, min, Option, None, Some, if◌then◌else◌}
use Rattle.rules.specs.Limits.{Announced}
use Rattle.rules.specs.Check.{Visit, hits, count, deepest, is_kind, outside_every, inside_every}
use Rattle.acceptance.specs.Visits.{passes}
use Rattle.acceptance.specs.declared.counts.Tally.{Tally}
use Rattle.acceptance.specs.declared.Announced as Code

abbrev pub announced_of : Code.Announced → Announced
announced_of a = record { emitted = a.emitted; highest = a.highest; steps = a.steps; outputs = a.outputs }

-- one more, where the test holds; it stops at the largest number, to which no table comes
abbrev pub one_more : Bool → ℕ → ℕ
one_more x n = if x then min (n + 1) 65535 else n

-- with a node of the walk
unfoldable pub with_visit : Visit → Tally → Tally
with_visit v t = record {
  emits = one_more (is_kind 10 v) t.emits;
  deepest = if is_kind 14 v then max t.deepest (v.around.loops + 1) else t.deepest;
  outside = one_more (outside_every v) t.outside;
  inside = one_more (inside_every v) t.inside;
}

-- with all of them, where each passes stages 4 to 7
unfoldable pub counted : List Visit → Tally → Option Tally
unfolding with_visit
counted [] t = Some t
counted (v ∷ vs) t = if passes v then counted vs (with_visit v t) else None

-- every node passes stages 4 to 7
unfoldable pub all_pass : List Visit → Bool
all_pass [] = true
all_pass (v ∷ vs) = passes v && all_pass vs

unfoldable pub tally_of : List Visit → Tally
unfolding hits deepest
tally_of vs = record { emits = count (is_kind 10) vs; deepest = deepest vs; outside = count outside_every vs; inside = count inside_every vs }

-- the tally of a walk where every node passes
unfoldable pub tallied : List Visit → Option Tally
unfolding all_pass tally_of
tallied vs = if all_pass vs then Some (tally_of vs) else None
