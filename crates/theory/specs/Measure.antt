-- What a tree can still cost, what one event can add to it, and the most where every loop that has begun comes round once more.
use Rattle.std.specs.Prelude.{◌≡◌, if◌then◌else◌}
use Rattle.std.proofs.Math.Path.{refl}
use Prim.Native.Nat.{ℕ, ◌+◌, ◌*◌, ◌≤◌, max}
use native.Mathlib.Omega.{arith}
use Rattle.rules.specs.Tree.{Act, Tree, act, assign, at_loop, at_par, await, break, canrun, compare, copy, divide, emit, every, fin, ifvar, increase, loop, nop, output, par, seq, subtract}
use Rattle.rules.specs.Check.{may_end}
use Rattle.rules.specs.Memory.{Deed, does, quiet, raises}
use Rattle.rules.specs.Step.{clear}
use Rattle.theory.specs.Logic.{when-le}
use Rattle.theory.specs.Program.{Calm}

-- ---- the weights: a step costs s, an emission e more, an output o more
module _ (s e o : ℕ) where
  unfoldable pub act_weight : Act → ℕ
  act_weight assign = s
  act_weight increase = s
  act_weight copy = s
  act_weight subtract = s
  act_weight compare = s
  act_weight divide = s
  act_weight output = s + o

  -- of one nested step
  unfoldable pub step_cost : Deed → ℕ
  unfolding act_weight
  step_cost quiet = s
  step_cost (does a v k) = act_weight a
  step_cost (raises b y) = s + e

  -- what the tree can still cost, but for what events add: a loop that has begun comes round once more only where its body may still end at once
  unfoldable pub tree_cost : Tree → ℕ
  unfolding act_weight
  tree_cost (nop i) = 0
  tree_cost (act i a v k) = act_weight a
  tree_cost (await i c b) = 0
  tree_cost (emit i b y) = 2 * s + e
  tree_cost (break i) = 0
  tree_cost (ifvar i v p q) = s + (tree_cost p + tree_cost q)
  tree_cost (seq i p q) = s + (tree_cost p + tree_cost q)
  tree_cost (loop i p) = 2 * s + tree_cost p
  tree_cost (every i c b p) = 0
  tree_cost (par i j p q) = 5 * s + (tree_cost p + tree_cost q)
  tree_cost (fin i p) = tree_cost p
  tree_cost (canrun i m) = s
  tree_cost (at_loop i p q) = s + tree_cost p + (if may_end p then 2 * s + tree_cost q else 0)
  tree_cost (at_par i j p q) = 2 * s + (tree_cost p + tree_cost q)

  -- what one event can add, by the everys that it wakes
  unfoldable pub event_cost : Tree → ℕ
  unfolding tree_cost
  event_cost (nop i) = 0
  event_cost (act i a v k) = 0
  event_cost (await i c b) = 0
  event_cost (emit i b y) = 0
  event_cost (break i) = 0
  event_cost (ifvar i v p q) = event_cost p + event_cost q
  event_cost (seq i p q) = event_cost p + event_cost q
  event_cost (loop i p) = event_cost p
  event_cost (every i c b p) = s + tree_cost p
  event_cost (par i j p q) = event_cost p + event_cost q
  event_cost (fin i p) = 0
  event_cost (canrun i m) = 0
  event_cost (at_loop i p q) = max (event_cost p) (event_cost q)
  event_cost (at_par i j p q) = event_cost p + event_cost q

  pub calm-event : (t : Tree) → Calm t → event_cost t ≡ 0
  unfolding Calm event_cost
  calm-event (nop i) c = refl
  calm-event (act i a v k) c = refl
  calm-event (await i b x) c = absurd c
  calm-event (emit i b y) c = absurd c
  calm-event (break i) c = absurd c
  calm-event (ifvar i v p q) c = omega (arith, calm-event p c.0, calm-event q c.1)
  calm-event (seq i p q) c = omega (arith, calm-event p c.0, calm-event q c.1)
  calm-event (loop i p) c = absurd c
  calm-event (every i b x p) c = absurd c
  calm-event (par i j p q) c = absurd c
  calm-event (fin i p) c = absurd c
  calm-event (canrun i m) c = absurd c
  calm-event (at_loop i p q) c = absurd c
  calm-event (at_par i j p q) c = absurd c

  pub clear-cost : (t : Tree) → tree_cost (clear t) ≤ tree_cost t
  unfolding clear tree_cost
  clear-cost (nop i) = omega arith
  clear-cost (act i a v k) = omega arith
  clear-cost (await i c b) = omega arith
  clear-cost (emit i b y) = omega arith
  clear-cost (break i) = omega arith
  clear-cost (ifvar i v p q) = omega arith
  clear-cost (seq i p q) = omega (arith, clear-cost p)
  clear-cost (loop i p) = omega arith
  clear-cost (every i c b p) = omega arith
  clear-cost (par i j p q) = omega arith
  clear-cost (fin i p) = omega arith
  clear-cost (canrun i m) = omega arith
  clear-cost (at_loop i p q) = omega (arith, clear-cost p)
  clear-cost (at_par i j p q) = omega (arith, clear-cost p, clear-cost q)

  -- ---- the input event: a loop that waits may come round once more

  -- as `tree_cost`, with every loop that has begun taken to come round once more
  unfoldable pub full_cost : Tree → ℕ
  unfolding act_weight
  full_cost (nop i) = 0
  full_cost (act i a v k) = act_weight a
  full_cost (await i c b) = 0
  full_cost (emit i b y) = 2 * s + e
  full_cost (break i) = 0
  full_cost (ifvar i v p q) = s + (full_cost p + full_cost q)
  full_cost (seq i p q) = s + (full_cost p + full_cost q)
  full_cost (loop i p) = 2 * s + full_cost p
  full_cost (every i c b p) = 0
  full_cost (par i j p q) = 5 * s + (full_cost p + full_cost q)
  full_cost (fin i p) = full_cost p
  full_cost (canrun i m) = s
  full_cost (at_loop i p q) = 3 * s + (full_cost p + full_cost q)
  full_cost (at_par i j p q) = 2 * s + (full_cost p + full_cost q)

  pub tree-full : (t : Tree) → tree_cost t ≤ full_cost t
  unfolding tree_cost full_cost
  tree-full (nop i) = omega arith
  tree-full (act i a v k) = omega arith
  tree-full (await i c b) = omega arith
  tree-full (emit i b y) = omega arith
  tree-full (break i) = omega arith
  tree-full (ifvar i v p q) = omega (arith, tree-full p, tree-full q)
  tree-full (seq i p q) = omega (arith, tree-full p, tree-full q)
  tree-full (loop i p) = omega (arith, tree-full p)
  tree-full (every i c b p) = omega arith
  tree-full (par i j p q) = omega (arith, tree-full p, tree-full q)
  tree-full (fin i p) = tree-full p
  tree-full (canrun i m) = omega arith
  tree-full (at_loop i p q) = omega (arith, tree-full p, tree-full q, when-le (may_end p) (2 * s + tree_cost q))
  tree-full (at_par i j p q) = omega (arith, tree-full p, tree-full q)

  pub calm-full : (t : Tree) → Calm t → full_cost t ≤ tree_cost t
  unfolding Calm tree_cost full_cost
  calm-full (nop i) c = omega arith
  calm-full (act i a v k) c = omega arith
  calm-full (await i b x) c = absurd c
  calm-full (emit i b y) c = absurd c
  calm-full (break i) c = absurd c
  calm-full (ifvar i v p q) c = omega (arith, calm-full p c.0, calm-full q c.1)
  calm-full (seq i p q) c = omega (arith, calm-full p c.0, calm-full q c.1)
  calm-full (loop i p) c = absurd c
  calm-full (every i b x p) c = absurd c
  calm-full (par i j p q) c = absurd c
  calm-full (fin i p) c = absurd c
  calm-full (canrun i m) c = absurd c
  calm-full (at_loop i p q) c = absurd c
  calm-full (at_par i j p q) c = absurd c
