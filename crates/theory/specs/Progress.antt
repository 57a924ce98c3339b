-- A tree that is neither @nop, nor a break, nor blocked has a step; the levels of its @canruns, on which this rests, are kept by steps, pushes and pops.
use Rattle.std.specs.Prelude.{◌≡◌, refl, Bool, true, false, ℕ, suc, ◌≤◌, eqb, ltb, T, if◌then◌else◌}
use Rattle.std.proofs.Common.{arith, ltb→lt, ltb-false, eq-eqb}
use Rattle.rules.specs.Number.{is_zero}
use Rattle.rules.specs.Tree.{Par, Source, Tree, act, and, at_loop, at_par, await, break, canrun, emit, every, fin, ifvar, loop, nop, or, par, seq}
use Rattle.rules.specs.Memory.{Memory, quiet, read}
use Rattle.rules.specs.Step.{Front, Nested, awake, blocked, broken, clear, done, front, going, in_part, loop_step, moved, nested_step, other_side, par_step, right_step, seq_step, stuck}
use Rattle.theory.specs.Logic.{clash, and-false, and_in, both_left, both_right}
use Rattle.theory.specs.Again.{NoRun}
use Rattle.theory.specs.Program.{Calm, Good, Program, clear-calm}

-- the @canruns of the spine stand at levels 1 to n, and all else is of a program
unfoldable pub Live : ℕ → Tree → Type 0
unfolding Program
Live n (nop i) = Unit {0}
Live n (act i a v k) = Unit {0}
Live n (await i s e) = Unit {0}
Live n (emit i e y) = Unit {0}
Live n (break i) = Unit {0}
Live n (ifvar i v p q) = Program p × Program q
Live n (seq i p q) = Live n p × Program q
Live n (loop i p) = Program p
Live n (every i s e p) = Program p
Live n (par i o p q) = Program p × Program q
Live n (fin i p) = Program p
Live n (canrun i m) = (1 ≤ m) × (m ≤ n)
Live n (at_loop i p q) = Live n p × Program q
Live n (at_par i o p q) = Live n p × Live n q

pub program-live : (n : ℕ) (t : Tree) → Program t → Live n t
unfolding Program Live
program-live n (nop i) h = tt
program-live n (act i a v k) h = tt
program-live n (await i s e) h = tt
program-live n (emit i e y) h = tt
program-live n (break i) h = tt
program-live n (ifvar i v p q) h = h
program-live n (seq i p q) h = (program-live n p h.0, h.1)
program-live n (loop i p) h = h
program-live n (every i s e p) h = h
program-live n (par i o p q) h = h
program-live n (fin i p) h = h
program-live n (canrun i m) h = absurd h
program-live n (at_loop i p q) h = absurd h
program-live n (at_par i o p q) h = absurd h

pub calm-program : (t : Tree) → Calm t → Program t
unfolding Program Calm
calm-program (nop i) c = tt
calm-program (act i a v k) c = tt
calm-program (await i s e) c = tt
calm-program (emit i e y) c = tt
calm-program (break i) c = tt
calm-program (ifvar i v p q) c = (calm-program p c.0, calm-program q c.1)
calm-program (seq i p q) c = (calm-program p c.0, calm-program q c.1)
calm-program (loop i p) c = absurd c
calm-program (every i s e p) c = absurd c
calm-program (par i o p q) c = absurd c
calm-program (fin i p) c = absurd c
calm-program (canrun i m) c = absurd c
calm-program (at_loop i p q) c = absurd c
calm-program (at_par i o p q) c = absurd c

clear-program : (t : Tree) → Good t → Program (clear t)
clear-program t g = calm-program (clear t) (clear-calm t g)

-- ---- a tree that is neither @nop, nor a break, nor blocked has a step

abbrev pub Moves : Nested → Type 0
Moves stuck = ⊥
Moves (moved w t) = Unit {0}

seq-moves : (i : ℕ) (q : Tree) (f : Front) (r : Nested) → (f ≡ going → Moves r) → Moves (seq_step i f q r)
unfolding seq_step in_part
seq-moves i q done r h = tt
seq-moves i q (broken b) r h = tt
seq-moves i q going stuck h = h refl
seq-moves i q going (moved w t) h = tt

loop-moves : (i : ℕ) (q : Tree) (f : Front) (r : Nested) → (f ≡ going → Moves r) → Moves (loop_step i f q r)
unfolding loop_step in_part
loop-moves i q done r h = tt
loop-moves i q (broken b) r h = tt
loop-moves i q going stuck h = h refl
loop-moves i q going (moved w t) h = tt

right-moves : (i : ℕ) (o : Par) (p : Tree) (f : Front) (r : Nested) → (f ≡ going → Moves r) → Moves (right_step i o p f r)
unfolding right_step in_part
right-moves i o p done r h = tt
right-moves i o p (broken b) r h = tt
right-moves i o p going stuck h = h refl
right-moves i o p going (moved w t) h = tt

par-moves : (i : ℕ) (o : Par) (p q : Tree) (f : Front) (b : Bool) (r s : Nested) → (b ≡ false → f ≡ going → Moves r) → (b ≡ true → front q ≡ going → Moves s) → Moves (par_step i o p q f b r s)
unfolding par_step in_part
par-moves i o p q done b r s h k = tt
par-moves i o p q (broken c) b r s h k = tt
par-moves i o p q going false stuck s h k = h refl refl
par-moves i o p q going false (moved w t) s h k = tt
par-moves i o p q going true r s h k = right-moves i o p (front q) s (k refl)

canrun-moves : (i m n : ℕ) → ltb m n ≡ false → m ≤ n → Moves (if eqb m n then moved quiet (nop i) else stuck)
canrun-moves i m n e l = rw (eq-eqb m n (omega (arith, ltb-false m n e, l))) tt

pub moves : (n : ℕ) (x : Memory) (t : Tree) → Live n t → blocked n t ≡ false → front t ≡ going → Moves (nested_step n x t)
unfolding nested_step front blocked Live
moves n x (nop i) l b f = clash (cc)
moves n x (act i a v k) l b f = tt
moves n x (await i s e) l b f = clash (cc)
moves n x (emit i e y) l b f = tt
moves n x (break i) l b f = clash (cc)
moves n x (ifvar i v p q) l b f = tt
moves n x (seq i p q) l b f = seq-moves i q (front p) (nested_step n x p) (moves n x p l.0 b)
moves n x (loop i p) l b f = tt
moves n x (every i s e p) l b f = clash (cc)
moves n x (par i o p q) l b f = tt
moves n x (fin i p) l b f = clash (cc)
moves n x (canrun i m) l b f = canrun-moves i m n b l.1
moves n x (at_loop i p q) l b f = loop-moves i q (front p) (nested_step n x p) (moves n x p l.0 b)
moves n x (at_par i o p q) l b f =
    par-moves i o p q (front p) (blocked n p) (nested_step n x p) (nested_step n x q) (λ e. moves n x p l.0 e) (λ e. moves n x q l.1 (and-false (blocked n p) (blocked n q) b e))

-- ---- steps, events and pops keep it; of a nested step that may be none, nothing is to be shown there

abbrev pub LiveO : ℕ → Nested → Type 0
LiveO n stuck = Unit {0}
LiveO n (moved w t) = Live n t

seq-live : (n i : ℕ) (q : Tree) (f : Front) (r : Nested) → Program q → LiveO n r → LiveO n (seq_step i f q r)
unfolding seq_step in_part Live
seq-live n i q done r h k = program-live n q h
seq-live n i q (broken b) r h k = tt
seq-live n i q going stuck h k = tt
seq-live n i q going (moved w t) h k = (k, h)

loop-live : (n i : ℕ) (q : Tree) (f : Front) (r : Nested) → Program q → LiveO n r → LiveO n (loop_step i f q r)
unfolding loop_step in_part Live
loop-live n i q done r h k = h
loop-live n i q (broken b) r h k = tt
loop-live n i q going stuck h k = tt
loop-live n i q going (moved w t) h k = (k, h)

keep_live : (n : ℕ) (o : Par) (t : Tree) → Live n t → Good t → Live n (other_side o t)
keep_live n and t l g = l
keep_live n or t l g = program-live n (clear t) (clear-program t g)

right-live : (n i : ℕ) (o : Par) (p : Tree) (f : Front) (r : Nested) → Live n p → Good p → LiveO n r → LiveO n (right_step i o p f r)
unfolding right_step in_part Live Program
right-live n i o p done r l g k = keep_live n o p l g
right-live n i o p (broken b) r l g k = (program-live n (clear p) (clear-program p g), tt)
right-live n i o p going stuck l g k = tt
right-live n i o p going (moved w t) l g k = (l, k)

par-live : (n i : ℕ) (o : Par) (p q : Tree) (f : Front) (b : Bool) (r s : Nested) → Live n p → Live n q → Good p → Good q → LiveO n r → LiveO n s → LiveO n (par_step i o p q f b r s)
unfolding par_step in_part Live Program
par-live n i o p q done b r s l m g h k j = keep_live n o q m h
par-live n i o p q (broken c) b r s l m g h k j = (program-live n (clear q) (clear-program q h), tt)
par-live n i o p q going false stuck s l m g h k j = tt
par-live n i o p q going false (moved w t) s l m g h k j = (k, m)
par-live n i o p q going true r s l m g h k j = right-live n i o p (front q) s l g j

choice-live : (n : ℕ) (b : Bool) (p q : Tree) → Program p → Program q → Live n (if b then q else p)
choice-live n true p q g h = program-live n q h
choice-live n false p q g h = program-live n p g

canrun-live : (n i : ℕ) (b : Bool) → LiveO n (if b then moved quiet (nop i) else stuck)
unfolding Live
canrun-live n i true = tt
canrun-live n i false = tt

pub live-step : (n : ℕ) (x : Memory) (t : Tree) → 1 ≤ n → Live n t → Good t → LiveO n (nested_step n x t)
unfolding nested_step Live Good Program
live-step n x (nop i) a l g = tt
live-step n x (act i b v k) a l g = tt
live-step n x (await i s e) a l g = tt
live-step n x (emit i e y) a l g = (a, omega arith)
live-step n x (break i) a l g = tt
live-step n x (ifvar i v p q) a l g = choice-live n (is_zero (read x v)) p q l.0 l.1
live-step n x (seq i p q) a l g = seq-live n i q (front p) (nested_step n x p) l.1 (live-step n x p a l.0 g.0)
live-step n x (loop i p) a l g = (program-live n p l, l)
live-step n x (every i s e p) a l g = tt
live-step n x (par i o p q) a l g = (program-live n p l.0, ((a, omega arith), l.1))
live-step n x (fin i p) a l g = tt
live-step n x (canrun i m) a l g = canrun-live n i (eqb m n)
live-step n x (at_loop i p q) a l g = loop-live n i q (front p) (nested_step n x p) l.1 (live-step n x p a l.0 g.0)
live-step n x (at_par i o p q) a l g = par-live n i o p q (front p) (blocked n p) (nested_step n x p) (nested_step n x q) l.0 l.1 g.0 g.1 (live-step n x p a l.0 g.0) (live-step n x q a l.1 g.1)

await-live : (n i e : ℕ) (s : Source) (b : Bool) → Live n (if b then nop i else await i s e)
unfolding Live
await-live n i e s true = tt
await-live n i e s false = tt

every-live : (n i e : ℕ) (s : Source) (p : Tree) (b : Bool) → Program p → Live n (if b then seq i p (every i s e p) else every i s e p)
unfolding Live Program
every-live n i e s p true h = (program-live n p h, h)
every-live n i e s p false h = h

pub live-awake : (n : ℕ) (w : ℕ → Source → ℕ → Bool) (t : Tree) → Live n t → Live (suc n) (awake w t)
unfolding awake Live Program
live-awake n w (nop i) l = tt
live-awake n w (act i b v k) l = tt
live-awake n w (await i s e) l = await-live (suc n) i e s (w i s e)
live-awake n w (emit i e y) l = tt
live-awake n w (break i) l = tt
live-awake n w (ifvar i v p q) l = l
live-awake n w (seq i p q) l = (live-awake n w p l.0, l.1)
live-awake n w (loop i p) l = l
live-awake n w (every i s e p) l = every-live (suc n) i e s p (w i s e) l
live-awake n w (par i o p q) l = l
live-awake n w (fin i p) l = l
live-awake n w (canrun i m) l = (l.0, omega (arith, l.1))
live-awake n w (at_loop i p q) l = (live-awake n w p l.0, l.1)
live-awake n w (at_par i o p q) l = (live-awake n w p l.0, live-awake n w q l.1)

pub live-pop : (n : ℕ) (t : Tree) → Live (suc n) t → T (blocked (suc n) t) → Live n t
unfolding blocked Live
live-pop n (nop i) l b = tt
live-pop n (act i c v k) l b = tt
live-pop n (await i s e) l b = tt
live-pop n (emit i e y) l b = tt
live-pop n (break i) l b = tt
live-pop n (ifvar i v p q) l b = l
live-pop n (seq i p q) l b = (live-pop n p l.0 b, l.1)
live-pop n (loop i p) l b = l
live-pop n (every i s e p) l b = l
live-pop n (par i o p q) l b = l
live-pop n (fin i p) l b = l
live-pop n (canrun i m) l b = (l.0, omega (arith, ltb→lt m (suc n) b))
live-pop n (at_loop i p q) l b = (live-pop n p l.0 b, l.1)
live-pop n (at_par i o p q) l b = (live-pop n p l.0 (both_left (blocked (suc n) p) (blocked (suc n) q) b), live-pop n q l.1 (both_right (blocked (suc n) p) (blocked (suc n) q) b))

pub live-zero : (t : Tree) → Live 0 t → NoRun t
unfolding Live NoRun
live-zero (nop i) l = tt
live-zero (act i c v k) l = tt
live-zero (await i s e) l = tt
live-zero (emit i e y) l = tt
live-zero (break i) l = tt
live-zero (ifvar i v p q) l = tt
live-zero (seq i p q) l = live-zero p l.0
live-zero (loop i p) l = tt
live-zero (every i s e p) l = tt
live-zero (par i o p q) l = tt
live-zero (fin i p) l = tt
live-zero (canrun i m) l = omega (arith, l.0, l.1)
live-zero (at_loop i p q) l = live-zero p l.0
live-zero (at_par i o p q) l = (live-zero p l.0, live-zero q l.1)

-- with no @canrun, blocked does not look at the level
pub blocked-low : (n : ℕ) (t : Tree) → NoRun t → T (blocked n t) → T (blocked 0 t)
unfolding blocked NoRun
blocked-low n (nop i) l b = b
blocked-low n (act i c v k) l b = b
blocked-low n (await i s e) l b = b
blocked-low n (emit i e y) l b = b
blocked-low n (break i) l b = b
blocked-low n (ifvar i v p q) l b = b
blocked-low n (seq i p q) l b = blocked-low n p l b
blocked-low n (loop i p) l b = b
blocked-low n (every i s e p) l b = b
blocked-low n (par i o p q) l b = b
blocked-low n (fin i p) l b = b
blocked-low n (canrun i m) l b = absurd l
blocked-low n (at_loop i p q) l b = blocked-low n p l b
blocked-low n (at_par i o p q) l b =
    and_in (blocked 0 p) (blocked 0 q) (blocked-low n p l.0 (both_left (blocked n p) (blocked n q) b)) (blocked-low n q l.1 (both_right (blocked n p) (blocked n q) b))
