-- A tree that is still: resume changes nothing there, and answers by whether anything lives.
use Rattle.std.specs.Prelude.{◌≡◌, Bool, true, false, not, ◌&&◌, ◌||◌, List, ℕ, eqb, get_or, if◌then◌else◌}
use Rattle.std.proofs.Math.Path.{refl}
use Rattle.std.proofs.Common.{sym, ◌∙◌}
use Rattle.rules.specs.Tree.{Par, Tree, act, at_loop, at_par, await, break, canrun, emit, every, fin, ifvar, loop, nop, par, seq}
use Rattle.theory.specs.Logic.{clash}
use Rattle.theory.specs.State.{Ops, How, idle, waiting, Walk, walk, Then, exec, resume_if, resume_seq, resume_loop, resume_both, resume_held, resume, still_at, still}
use Rattle.theory.specs.Frame.{At, Same, Laid, part_at, part_same, leaf-own, stem-own, fork-own, body-part, left-part, right-part}

-- how a walk ends where nothing runs, by whether anything lives
abbrev pub resting : Bool → How
resting true = waiting
resting false = idle

abbrev live_at : List ℕ → ℕ → Bool
live_at l i = not (eqb (get_or l i 0) 0)

-- something that has a state is not idle
unfoldable pub live : Tree → List ℕ → Bool
live (nop i) l = false
live (act i a v k) l = false
live (await i s e) l = live_at l i
live (emit i e y) l = live_at l i
live (break i) l = false
live (ifvar i v p q) l = live p l || live q l
live (seq i p q) l = live p l || live q l
live (loop i p) l = live p l
live (every i s e p) l = live_at l i
live (par i c p q) l = live_at l i || (live p l || live q l)
live (fin i p) l = live_at l i
live (canrun i m) l = false
live (at_loop i p q) l = false
live (at_par i c p q) l = false

-- ---- where every state rests

pub all-still : (n : ℕ) (t : Tree) (l : List ℕ) → Laid t → ((j : ℕ) → At t j → still_at n (get_or l j 0) ≡ true) → still n t l ≡ true
unfolding still Laid
all-still n (nop i) l z f = f i (leaf-own z)
all-still n (act i a v k) l z f = f i (leaf-own z)
all-still n (await i s e) l z f = f i (leaf-own z)
all-still n (emit i e y) l z f = f i (leaf-own z)
all-still n (break i) l z f = f i (leaf-own z)
all-still n (ifvar i v p q) l z f = rw (f i (fork-own z.0), all-still n p l z.1 (λ j h. f j (part_at (left-part z.0) j h))) (all-still n q l z.2 (λ j h. f j (part_at (right-part z.0) j h)))
all-still n (seq i p q) l z f = rw (f i (fork-own z.0), all-still n p l z.1 (λ j h. f j (part_at (left-part z.0) j h))) (all-still n q l z.2 (λ j h. f j (part_at (right-part z.0) j h)))
all-still n (loop i p) l z f = rw (f i (stem-own z.0)) (all-still n p l z.1 (λ j h. f j (part_at (body-part z.0) j h)))
all-still n (every i s e p) l z f = f i (stem-own z.0)
all-still n (par i c p q) l z f = rw (f i (fork-own z.0), all-still n p l z.1 (λ j h. f j (part_at (left-part z.0) j h))) (all-still n q l z.2 (λ j h. f j (part_at (right-part z.0) j h)))
all-still n (fin i p) l z f = f i (stem-own z.0)
all-still n (canrun i k) l z f = absurd z
all-still n (at_loop i p q) l z f = absurd z
all-still n (at_par i c p q) l z f = absurd z

-- ---- it depends on the states at its own places

module _ {l l' : List ℕ} where
  pub still-same : (n : ℕ) (t : Tree) → Laid t → Same t l l' → still n t l' ≡ still n t l
  unfolding still Laid
  still-same n (nop i) z s = rw (s.same_at i (leaf-own z))
  still-same n (act i a v k) z s = rw (s.same_at i (leaf-own z))
  still-same n (await i c e) z s = rw (s.same_at i (leaf-own z))
  still-same n (emit i e y) z s = rw (s.same_at i (leaf-own z))
  still-same n (break i) z s = rw (s.same_at i (leaf-own z))
  still-same n (ifvar i v p q) z s = rw (s.same_at i (fork-own z.0), still-same n p z.1 (part_same (left-part z.0) s), still-same n q z.2 (part_same (right-part z.0) s))
  still-same n (seq i p q) z s = rw (s.same_at i (fork-own z.0), still-same n p z.1 (part_same (left-part z.0) s), still-same n q z.2 (part_same (right-part z.0) s))
  still-same n (loop i p) z s = rw (s.same_at i (stem-own z.0), still-same n p z.1 (part_same (body-part z.0) s))
  still-same n (every i c e p) z s = rw (s.same_at i (stem-own z.0))
  still-same n (par i c p q) z s = rw (s.same_at i (fork-own z.0), still-same n p z.1 (part_same (left-part z.0) s), still-same n q z.2 (part_same (right-part z.0) s))
  still-same n (fin i p) z s = rw (s.same_at i (stem-own z.0))
  still-same n (canrun i k) z s = absurd z
  still-same n (at_loop i p q) z s = absurd z
  still-same n (at_par i c p q) z s = absurd z

  pub live_same : (t : Tree) → Laid t → Same t l l' → live t l' ≡ live t l
  unfolding live Laid
  live_same (nop i) z s = refl
  live_same (act i a v k) z s = refl
  live_same (await i c e) z s = rw (s.same_at i (leaf-own z))
  live_same (emit i e y) z s = rw (s.same_at i (leaf-own z))
  live_same (break i) z s = refl
  live_same (ifvar i v p q) z s = rw (live_same p z.1 (part_same (left-part z.0) s), live_same q z.2 (part_same (right-part z.0) s))
  live_same (seq i p q) z s = rw (live_same p z.1 (part_same (left-part z.0) s), live_same q z.2 (part_same (right-part z.0) s))
  live_same (loop i p) z s = live_same p z.1 (part_same (body-part z.0) s)
  live_same (every i c e p) z s = rw (s.same_at i (stem-own z.0))
  live_same (par i c p q) z s = rw (s.same_at i (fork-own z.0), live_same p z.1 (part_same (left-part z.0) s), live_same q z.2 (part_same (right-part z.0) s))
  live_same (fin i p) z s = rw (s.same_at i (stem-own z.0))
  live_same (canrun i k) z s = absurd z
  live_same (at_loop i p q) z s = absurd z
  live_same (at_par i c p q) z s = absurd z

-- ---- nothing runs

pub three : (a b c : Bool) → (a && b && c) ≡ true → (a ≡ true) × (b ≡ true) × (c ≡ true)
three true true c e = (refl, refl, e)
three true false c e = clash (cc)
three false b c e = clash (cc)

pub two : (a b : Bool) → (a && b) ≡ true → (a ≡ true) × (b ≡ true)
two true b e = (refl, e)
two false b e = clash (cc)

not-woken : (n s : ℕ) → still_at n s ≡ true → eqb s 2 ≡ false
not-woken n s e = go (eqb s 2) refl
  where
    go : (x : Bool) → eqb s 2 ≡ x → x ≡ false
    go true h = let f : true ≡ false = sym e ∙ rw h in clash (cc)
    go false h = refl

pub not-turn : (n s : ℕ) → still_at n s ≡ true → eqb s n ≡ false
not-turn n s e = go (eqb s n) (two (not (eqb s 2)) (not (eqb s n)) e).1
  where
    go : (x : Bool) → not x ≡ true → x ≡ false
    go true h = clash (cc)
    go false h = refl

module _ {M : Type 0} (o : Ops M) (l : List ℕ) (m : M) where
  -- a record alone: idle, about to run, or waiting
  own-rests : (x y : Bool) (w : Walk M) → y ≡ false → (if x then walk idle l m else (if y then w else walk waiting l m)) ≡ walk (resting (not x)) l m
  own-rests true y w e = refl
  own-rests false y w e = rw e

  fin-rests : (x : Bool) → (if x then walk idle l m else walk waiting l m) ≡ walk (resting (not x)) l m
  fin-rests true = refl
  fin-rests false = refl

  -- a construct, by whether its parts live
  if-rests : (x y : Bool) (right : Then M) → right l m ≡ walk (resting y) l m → resume_if o (resting x) (walk (resting x) l m) right ≡ walk (resting (x || y)) l m
  if-rests true y right e = refl
  if-rests false y right e = e

  seq-rests : (x y : Bool) (right fresh : Then M) → right l m ≡ walk (resting y) l m → resume_seq o (resting x) (walk (resting x) l m) right fresh ≡ walk (resting (x || y)) l m
  seq-rests true y right fresh e = refl
  seq-rests false y right fresh e = e

  loop-rests : (x : Bool) (fresh : Then M) → resume_loop o (resting x) (walk (resting x) l m) fresh ≡ walk (resting x) l m
  loop-rests true fresh = refl
  loop-rests false fresh = refl

  both-rests : (c : Par) (p q : Tree) (x y : Bool) (right : Then M) → right l m ≡ walk (resting y) l m → resume_both o c p q (resting x) (walk (resting x) l m) right ≡ walk (resting (x || y)) l m
  both-rests c p q true true right e = rw e
  both-rests c p q true false right e = rw e
  both-rests c p q false y right e = e

  held-rests : (n i : ℕ) (c : Par) (p : Tree) (x : Bool) (fresh : Then M) → eqb (get_or l i 0) n ≡ false → resume_held o n i c p (resting x) (walk (resting x) l m) fresh ≡ walk waiting l m
  held-rests n i c p true fresh e = rw e
  held-rests n i c p false fresh e = rw e

  par-rests : (n i : ℕ) (c : Par) (p q : Tree) (x y : Bool) (right fresh : Then M) → right l m ≡ walk (resting y) l m → eqb (get_or l i 0) n ≡ false → (s : Bool) →
      (if s then resume_both o c p q (resting x) (walk (resting x) l m) right else resume_held o n i c p (resting x) (walk (resting x) l m) fresh) ≡ walk (resting (not s || (x || y))) l m
  par-rests n i c p q x y right fresh e g true = both-rests c p q x y right e
  par-rests n i c p q x y right fresh e g false = held-rests n i c p x fresh g

module _ {M : Type 0} (o : Ops M) (n : ℕ) where
  pub still-resume : (t : Tree) (l : List ℕ) (m : M) → still n t l ≡ true → Laid t → resume o n t l m ≡ walk (resting (live t l)) l m
  unfolding still resume live Laid
  still-resume (nop i) l m e z = refl
  still-resume (act i a v k) l m e z = refl
  still-resume (await i s k) l m e z = own-rests o l m (eqb (get_or l i 0) 0) (eqb (get_or l i 0) 2) _ (not-woken n (get_or l i 0) e)
  still-resume (emit i k y) l m e z = own-rests o l m (eqb (get_or l i 0) 0) (eqb (get_or l i 0) n) _ (not-turn n (get_or l i 0) e)
  still-resume (break i) l m e z = refl
  still-resume (ifvar i v p q) l m e z =
      let f = three (still_at n (get_or l i 0)) (still n p l) (still n q l) e in
      rw (still-resume p l m f.1 z.1) (if-rests o l m (live p l) (live q l) (resume o n q) (still-resume q l m f.2 z.2))
  still-resume (seq i p q) l m e z =
      let f = three (still_at n (get_or l i 0)) (still n p l) (still n q l) e in
      rw (still-resume p l m f.1 z.1) (seq-rests o l m (live p l) (live q l) (resume o n q) (exec o n q) (still-resume q l m f.2 z.2))
  still-resume (loop i p) l m e z = rw (still-resume p l m (two (still_at n (get_or l i 0)) (still n p l) e).1 z.1) (loop-rests o l m (live p l) (exec o n p))
  still-resume (every i s k p) l m e z = own-rests o l m (eqb (get_or l i 0) 0) (eqb (get_or l i 0) 2) _ (not-woken n (get_or l i 0) e)
  still-resume (par i c p q) l m e z =
      let f = three (still_at n (get_or l i 0)) (still n p l) (still n q l) e in
      rw (still-resume p l m f.1 z.1) (par-rests o l m n i c p q (live p l) (live q l) (resume o n q) (exec o n q) (still-resume q l m f.2 z.2) (not-turn n (get_or l i 0) f.0) (eqb (get_or l i 0) 0))
  still-resume (fin i p) l m e z = fin-rests o l m (eqb (get_or l i 0) 0)
  still-resume (canrun i k) l m e z = absurd z
  still-resume (at_loop i p q) l m e z = absurd z
  still-resume (at_par i c p q) l m e z = absurd z
