-- The tree that meets an event, a program or a tree at rest: it is left of the program, no @canrun is in it, no break leaves it,
-- and it costs at most D+1 times what the program does.
use Rattle.std.specs.Prelude.{◌≡◌, Bool, true, false, ◌&&◌, List, [], ℕ, ◌+◌, ◌*◌, ◌≤◌, T, if◌then◌else◌}
use Rattle.std.proofs.Math.Option.{Option, none, some}
use Rattle.std.proofs.Common.{arith}
use Rattle.rules.specs.Stages.{is_some}
use Rattle.rules.specs.Tree.{Par, Tree, act, and, at_loop, at_par, await, break, canrun, emit, every, fin, ifvar, loop, nop, or, par, seq}
use Rattle.rules.specs.Marks.{at_rest, marked, misfit, misfits, or_nop, par_misfit, rest_if, rest_loop, rest_of, rest_par, rest_seq}
use Rattle.theory.specs.Logic.{or_left, or_right, or_map, clash}
use Rattle.theory.specs.Program.{Program, Good, Calm, loose, loop_depth}
use Rattle.theory.specs.Measure.{full_cost, event_cost}
use Rattle.theory.specs.ProgramCost.{RestedO, rested}
use Rattle.theory.specs.Marks.{parts}
use Rattle.theory.specs.Residue.{Left, whole, tidy, seq_l, seq_r, if_l, if_r, loop_in, par_both, par_l, par_r}
use Rattle.theory.specs.Progress.{Live, program-live}

-- ---- the tree at rest is left of the program

-- r is read from marks of t
pub record Resumes (t r : Tree) : Type 0 where
  pub of : Left t r
  pub live : Live 0 r
  pub breaks : T (loose r) → T (loose t)

abbrev pub ResumesO : Tree → Option Tree → Type 0
ResumesO t none = Unit {0}
ResumesO t (some r) = Resumes t r

leaf-resumes : (t : Tree) (b : Bool) → Program t → ResumesO t (if b then some t else none)
leaf-resumes t true h = record { of = whole; live = program-live 0 t h; breaks = λ x. x }
leaf-resumes t false h = tt

seq-resumes : (i : ℕ) (p q : Tree) → Program q → (a b : Option Tree) → ResumesO p a → ResumesO q b → ResumesO (seq i p q) (rest_seq i a q b)
unfolding Live loose
seq-resumes i p q h none none x y = tt
seq-resumes i p q h none (some u) x y = record { of = seq_r y.of; live = y.live; breaks = λ z. or_right (loose p) (loose q) (y.breaks z) }
seq-resumes i p q h (some r) b x y = record { of = seq_l x.of; live = (x.live, h); breaks = or_map (loose r) (loose q) (loose p) (loose q) x.breaks (λ z. z) }

if-resumes : (i v : ℕ) (p q : Tree) → (a b : Option Tree) → ResumesO p a → ResumesO q b → ResumesO (ifvar i v p q) (rest_if a b)
unfolding loose
if-resumes i v p q none none x y = tt
if-resumes i v p q none (some u) x y = record { of = if_r y.of; live = y.live; breaks = λ z. or_right (loose p) (loose q) (y.breaks z) }
if-resumes i v p q (some r) b x y = record { of = if_l x.of; live = x.live; breaks = λ z. or_left (loose p) (loose q) (x.breaks z) }

loop-resumes : (i : ℕ) (p : Tree) → Program p → (a : Option Tree) → ResumesO p a → ResumesO (loop i p) (rest_loop i p a)
unfolding Live loose
loop-resumes i p h none x = tt
loop-resumes i p h (some r) x = record { of = loop_in x.of; live = (x.live, h); breaks = λ z. z }

par-resumes : (i : ℕ) (o : Par) (p q : Tree) → (a b : Option Tree) → par_misfit i o (is_some a) (is_some b) ≡ [] → ResumesO p a → ResumesO q b → ResumesO (par i o p q) (rest_par i o a b)
unfolding Live loose
par-resumes i o p q none none e x y = tt
par-resumes i and p q none (some u) e x y = record { of = par_r y.of; live = y.live; breaks = λ z. or_right (loose p) (loose q) (y.breaks z) }
par-resumes i or p q none (some u) e x y = clash (cc)
par-resumes i and p q (some r) none e x y = record { of = par_l x.of; live = x.live; breaks = λ z. or_left (loose p) (loose q) (x.breaks z) }
par-resumes i or p q (some r) none e x y = clash (cc)
par-resumes i o p q (some r) (some u) e x y = record { of = par_both x.of y.of; live = (x.live, y.live); breaks = or_map (loose r) (loose u) (loose p) (loose q) x.breaks y.breaks }

pub resumes : (m : List ℕ) (t : Tree) → Program t → misfits m t ≡ [] → ResumesO t (rest_of m t)
unfolding rest_of Program misfits
resumes m (nop i) h f = tt
resumes m (act i a v k) h f = tt
resumes m (await i s e) h f = leaf-resumes (await i s e) (marked m i) (unfold Program in tt)
resumes m (emit i e y) h f = tt
resumes m (break i) h f = tt
resumes m (ifvar i v p q) h f =
    let z = parts m (misfit i (is_some (rest_of m p) && is_some (rest_of m q))) p q f in
    if-resumes i v p q (rest_of m p) (rest_of m q) (resumes m p h.0 z.left) (resumes m q h.1 z.right)
resumes m (seq i p q) h f =
    let z = parts m (misfit i (is_some (rest_of m p) && is_some (rest_of m q))) p q f in
    seq-resumes i p q h.1 (rest_of m p) (rest_of m q) (resumes m p h.0 z.left) (resumes m q h.1 z.right)
resumes m (loop i p) h f = loop-resumes i p h (rest_of m p) (resumes m p h f)
resumes m (every i s e p) h f = leaf-resumes (every i s e p) (marked m i) (unfold Program in h)
resumes m (par i o p q) h f =
    let z = parts m (par_misfit i o (is_some (rest_of m p)) (is_some (rest_of m q))) p q f in
    par-resumes i o p q (rest_of m p) (rest_of m q) z.here (resumes m p h.0 z.left) (resumes m q h.1 z.right)
resumes m (fin i p) h f = leaf-resumes (fin i p) (marked m i) (unfold Program in h)
resumes m (canrun i k) h f = absurd h
resumes m (at_loop i p q) h f = absurd h
resumes m (at_par i o p q) h f = absurd h

-- ---- the tree that meets the event

pub record Ready (D : ℕ) (t r : Tree) : Type 0 where
  pub good : Good r
  pub of : Left t r
  pub live : Live 0 r
  pub closed : T (loose r) → ⊥
  pub most : (s e o : ℕ) → full_cost s e o r ≤ full_cost s e o t * (D + 1)
  pub adding : (s e o : ℕ) → event_cost s e o r ≤ event_cost s e o t

ready_o : (D : ℕ) (t : Tree) → (T (loose t) → ⊥) → (a : Option Tree) → ResumesO t a → ((s e o : ℕ) → RestedO s e o D t a) → Ready D t (or_nop a)
unfolding Good Live loose full_cost event_cost Calm
ready_o D t c none x y = record { good = tt; of = tidy tt; live = tt; closed = λ z. z; most = λ s e o. omega arith; adding = λ s e o. omega arith }
ready_o D t c (some r) x y = record { good = (y 0 0 0).good; of = x.of; live = x.live; closed = λ z. c (x.breaks z); most = λ s e o. (y s e o).most; adding = λ s e o. (y s e o).adding }

pub ready-rest : (D : ℕ) (m : List ℕ) (t : Tree) → Program t → Good t → (T (loose t) → ⊥) → loop_depth t ≤ D → misfits m t ≡ [] → Ready D t (at_rest m t)
unfolding at_rest
ready-rest D m t h g c l f = ready_o D t c (rest_of m t) (resumes m t h f) (λ s e o. rested s e o D m t h g l)

pub ready-start : (D : ℕ) (t : Tree) → Program t → Good t → (T (loose t) → ⊥) → Ready D t t
ready-start D t h g c = record { good = g; of = whole; live = program-live 0 t h; closed = c; most = λ s e o. omega arith; adding = λ s e o. omega arith }
