-- The code's memory as the arrays, and its acts as those of the rules.
use Rattle.std.specs.Prelude.{◌≡◌, ℕ, ◌+◌, ◌<◌, Bool, List, [], ◌∷◌, ℤ, Result, MatchResult, nat_lt, if◌then◌else◌}
use Rattle.rules.specs.Limits.{top_total}
use Rattle.rules.specs.Tree as Rules
use Rattle.rules.specs.Tree.{assign, increase, copy, subtract, compare, divide, output, act_kind}
use Rattle.memory.specs.Arrays.{Arrays, arrays, tick, set_variable, is_nonzero}
use Rattle.memory.specs.declared.act.Act.{Act}
use Rattle.memory.specs.declared.act.Act.TheVariants.{Assign, Increase, Copy, Subtract, Compare, Divide, Output}
use Rattle.memory.specs.declared.act.NoAct.{NoAct}
use Rattle.memory.specs.declared.effects.Memory.{Memory}

abbrev pub act_of : Act → Rules.Act
act_of Assign = assign
act_of Increase = increase
act_of Copy = copy
act_of Subtract = subtract
act_of Compare = compare
act_of Divide = divide
act_of Output = output

-- the act of a kind from 1 to 7, or the number of any other
abbrev pub ReadsAct : ℕ → Result Act NoAct → Type 0
ReadsAct k r = MatchResult r (λ a. act_kind (act_of a) ≡ k) (λ e. (e.0 ≡ k) × (0 < k → 7 < k))

-- with an output room
unfoldable pub arrays_of : Memory → List ℕ → Arrays
unfolding arrays
arrays_of m o = arrays m.vars o (m.steps ∷ m.outputs ∷ [])

abbrev pub counted : ℕ → ℕ
counted n = if nat_lt n top_total then n + 1 else n

-- ---- what a function promises that is lent no room: with any

abbrev pub Ticks : Memory → Memory → Type 0
Ticks m m' = (o : List ℕ) → arrays_of m' o ≡ tick (arrays_of m o)

abbrev pub Tests : Bool → Memory → ℕ → Type 0
Tests b m v = (o : List ℕ) → b ≡ is_nonzero (arrays_of m o) v

abbrev pub Sets : Memory → ℕ → ℤ → Memory → Type 0
Sets m v z m' = m' ≡ record m { vars = set_variable m.vars v z }
