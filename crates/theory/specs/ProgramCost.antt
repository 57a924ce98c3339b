-- What a program can cost, at any weights: 5sN + eE + oP at once, and sN + oQ more at each event; a tree at rest at most D+1 times as much.
use Rattle.std.specs.Prelude.{◌≡◌, Bool, true, false, not, List, T, if◌then◌else◌}
use Rattle.std.proofs.Math.Option.{Option, none, some}
use Prim.Native.Nat.{ℕ, zero, suc, ◌+◌, ◌*◌, ◌≤◌}
use native.Mathlib.Omega.{arith}
use Rattle.rules.specs.Tree.{Act, Par, Tree, act, assign, at_loop, at_par, await, break, canrun, compare, copy, divide, emit, every, fin, ifvar, increase, loop, nop, output, par, seq, span_of, subtract}
use Rattle.rules.specs.Check.{may_end}
use Rattle.rules.specs.Marks.{marked, rest_if, rest_loop, rest_of, rest_par, rest_seq}
use Rattle.theory.specs.Memory.{is_out}
use Rattle.theory.specs.Program.{outputs_outside, outputs_inside, Calm, Good, Program, loop_depth, emit_count}
use Rattle.theory.specs.Measure.{tree_cost, event_cost, full_cost, act_weight}

module _ (s e o : ℕ) where
  pub act-weight : (a : Act) → act_weight s e o a ≡ s + o * is_out a
  unfolding act_weight
  act-weight assign = omega arith
  act-weight increase = omega arith
  act-weight copy = omega arith
  act-weight subtract = omega arith
  act-weight compare = omega arith
  act-weight divide = omega arith
  act-weight output = omega arith

  pub program-full : (t : Tree) → Program t → full_cost s e o t ≤ 5 * (s * span_of t) + (e * emit_count t + o * outputs_outside t)
  unfolding Program full_cost span_of emit_count outputs_outside
  program-full (nop i) h = omega arith
  program-full (act i a v k) h = omega (arith, act-weight a)
  program-full (await i c b) h = omega arith
  program-full (emit i b y) h = omega arith
  program-full (break i) h = omega arith
  program-full (ifvar i v p q) h = omega (arith, program-full p h.0, program-full q h.1)
  program-full (seq i p q) h = omega (arith, program-full p h.0, program-full q h.1)
  program-full (loop i p) h = omega (arith, program-full p h)
  program-full (every i c b p) h = omega arith
  program-full (par i j p q) h = omega (arith, program-full p h.0, program-full q h.1)
  program-full (fin i p) h = omega (arith, program-full p h)
  program-full (canrun i m) h = absurd h
  program-full (at_loop i p q) h = absurd h
  program-full (at_par i j p q) h = absurd h

  -- the body of an every costs one step a record
  calm-cost : (t : Tree) → Calm t → tree_cost s e o t ≤ s * span_of t + o * outputs_outside t
  unfolding Calm tree_cost span_of outputs_outside
  calm-cost (nop i) c = omega arith
  calm-cost (act i a v k) c = omega (arith, act-weight a)
  calm-cost (await i b x) c = absurd c
  calm-cost (emit i b y) c = absurd c
  calm-cost (break i) c = absurd c
  calm-cost (ifvar i v p q) c = omega (arith, calm-cost p c.0, calm-cost q c.1)
  calm-cost (seq i p q) c = omega (arith, calm-cost p c.0, calm-cost q c.1)
  calm-cost (loop i p) c = absurd c
  calm-cost (every i b x p) c = absurd c
  calm-cost (par i j p q) c = absurd c
  calm-cost (fin i p) c = absurd c
  calm-cost (canrun i m) c = absurd c
  calm-cost (at_loop i p q) c = absurd c
  calm-cost (at_par i j p q) c = absurd c

  pub program-adds : (t : Tree) → Program t → Good t → event_cost s e o t ≤ s * span_of t + o * outputs_inside t
  unfolding Program Good event_cost span_of outputs_inside
  program-adds (nop i) h g = omega arith
  program-adds (act i a v k) h g = omega arith
  program-adds (await i c b) h g = omega arith
  program-adds (emit i b y) h g = omega arith
  program-adds (break i) h g = omega arith
  program-adds (ifvar i v p q) h g = omega (arith, program-adds p h.0 g.0, program-adds q h.1 g.1)
  program-adds (seq i p q) h g = omega (arith, program-adds p h.0 g.0, program-adds q h.1 g.1)
  program-adds (loop i p) h g = omega (arith, program-adds p h g.0)
  program-adds (every i c b p) h g = omega (arith, calm-cost p g)
  program-adds (par i j p q) h g = omega (arith, program-adds p h.0 g.0, program-adds q h.1 g.1)
  program-adds (fin i p) h g = omega arith
  program-adds (canrun i m) h g = absurd h
  program-adds (at_loop i p q) h g = absurd h
  program-adds (at_par i j p q) h g = absurd h

  -- ---- the tree at rest: each loop around a waiting place brings its body once more

  pub record Rested (D : ℕ) (t r : Tree) : Type 0 where
    pub good : Good r
    pub most : full_cost s e o r ≤ full_cost s e o t * (D + 1)
    pub adding : event_cost s e o r ≤ event_cost s e o t

  abbrev pub RestedO : ℕ → Tree → Option Tree → Type 0
  RestedO D t none = Unit {0}
  RestedO D t (some r) = Rested D t r

  leaf-rested : (D : ℕ) (t : Tree) (b : Bool) → Good t → RestedO D t (if b then some t else none)
  leaf-rested D t true g = record { good = g; most = omega arith; adding = omega arith }
  leaf-rested D t false g = tt

  seq-rested : (D i : ℕ) (p q : Tree) → Good q → (a b : Option Tree) → RestedO D p a → RestedO D q b → RestedO D (seq i p q) (rest_seq i a q b)
  unfolding Good full_cost event_cost
  seq-rested D i p q g none none h k = tt
  seq-rested D i p q g none (some r) h k = record { good = k.good; most = omega (arith, k.most); adding = omega (arith, k.adding) }
  seq-rested D i p q g (some r) b h k = record { good = (h.good, g); most = omega (arith, h.most); adding = omega (arith, h.adding) }

  if-rested : (D i v : ℕ) (p q : Tree) → (a b : Option Tree) → RestedO D p a → RestedO D q b → RestedO D (ifvar i v p q) (rest_if a b)
  unfolding Good full_cost event_cost
  if-rested D i v p q none none h k = tt
  if-rested D i v p q none (some r) h k = record { good = k.good; most = omega (arith, k.most); adding = omega (arith, k.adding) }
  if-rested D i v p q (some r) b h k = record { good = h.good; most = omega (arith, h.most); adding = omega (arith, h.adding) }

  par-rested : (D i : ℕ) (j : Par) (p q : Tree) → (a b : Option Tree) → RestedO D p a → RestedO D q b → RestedO D (par i j p q) (rest_par i j a b)
  unfolding Good full_cost event_cost
  par-rested D i j p q none none h k = tt
  par-rested D i j p q none (some r) h k = record { good = k.good; most = omega (arith, k.most); adding = omega (arith, k.adding) }
  par-rested D i j p q (some r) none h k = record { good = h.good; most = omega (arith, h.most); adding = omega (arith, h.adding) }
  par-rested D i j p q (some r) (some u) h k = record { good = (h.good, k.good); most = omega (arith, h.most, k.most); adding = omega (arith, h.adding, k.adding) }

  loop-rested : (D i : ℕ) (p : Tree) → Good p → T (not (may_end p)) → (a : Option Tree) → RestedO D p a → RestedO (suc D) (loop i p) (rest_loop i p a)
  unfolding Good full_cost event_cost
  loop-rested D i p g n none h = tt
  loop-rested D i p g n (some r) h = record { good = (h.good, g, n); most = omega (arith, h.most); adding = omega (arith, h.adding) }

  pub rested : (D : ℕ) (m : List ℕ) (t : Tree) → Program t → Good t → loop_depth t ≤ D → RestedO D t (rest_of m t)
  unfolding rest_of Program Good loop_depth
  rested D m (nop i) h g l = tt
  rested D m (act i a v k) h g l = tt
  rested D m (await i c b) h g l = leaf-rested D (await i c b) (marked m i) tt
  rested D m (emit i b y) h g l = tt
  rested D m (break i) h g l = tt
  rested D m (ifvar i v p q) h g l = if-rested D i v p q (rest_of m p) (rest_of m q) (rested D m p h.0 g.0 (omega arith)) (rested D m q h.1 g.1 (omega arith))
  rested D m (seq i p q) h g l = seq-rested D i p q g.1 (rest_of m p) (rest_of m q) (rested D m p h.0 g.0 (omega arith)) (rested D m q h.1 g.1 (omega arith))
  rested zero m (loop i p) h g l = absurd (omega arith)
  rested (suc D) m (loop i p) h g l = loop-rested D i p g.0 g.1 (rest_of m p) (rested D m p h g.0 (omega arith))
  rested D m (every i c b p) h g l = leaf-rested D (every i c b p) (marked m i) g
  rested D m (par i j p q) h g l = par-rested D i j p q (rest_of m p) (rest_of m q) (rested D m p h.0 g.0 (omega arith)) (rested D m q h.1 g.1 (omega arith))
  rested D m (fin i p) h g l = leaf-rested D (fin i p) (marked m i) g
  rested D m (canrun i k) h g l = absurd h
  rested D m (at_loop i p q) h g l = absurd h
  rested D m (at_par i j p q) h g l = absurd h
