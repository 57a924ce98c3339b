-- What is left of a program while it runs: every step and every event leaves what is left of the same program.
use Rattle.std.specs.Prelude.{◌≡◌, refl, Bool, true, false, ℕ, eqb, T, ℤ, if◌then◌else◌}
use Rattle.std.proofs.Common.{sym, ap, subst}
use Rattle.rules.specs.Number.{is_zero}
use Rattle.rules.specs.Tree.{Par, Source, Tree, act, and, at_loop, at_par, await, break, canrun, emit, every, fin, ifvar, loop, nop, or, par, seq}
use Rattle.rules.specs.Memory.{Memory, quiet, read}
use Rattle.rules.specs.Step.{Front, Nested, awake, blocked, broken, done, front, going, in_part, loop_step, moved, nested_step, other_side, par_step, right_step, seq_step, stuck}
use Rattle.theory.specs.Program.{Calm, Good, Program, clear-calm}

-- r is left of the program t
pub data Left : Tree → Tree → Type 0 where
  whole : {t : Tree} → Left t t  -- nothing has run
  tidy : {t c : Tree} → Calm c → Left t c  -- ended, or the bodies of fins are still to run
  breaking : {t : Tree} {b : ℕ} → Left t (break b)  -- on its way to the loop around t
  leaving : {t c : Tree} {i b : ℕ} → Calm c → Left t (seq i c (break b))  -- the same, after the bodies of fins
  seq_l : {i : ℕ} {p q r : Tree} → Left p r → Left (seq i p q) (seq i r q)
  seq_r : {i : ℕ} {p q r : Tree} → Left q r → Left (seq i p q) r
  if_l : {i v : ℕ} {p q r : Tree} → Left p r → Left (ifvar i v p q) r
  if_r : {i v : ℕ} {p q r : Tree} → Left q r → Left (ifvar i v p q) r
  loop_in : {i : ℕ} {p r : Tree} → Left p r → Left (loop i p) (at_loop i r p)
  par_both : {i : ℕ} {o : Par} {p q r u : Tree} → Left p r → Left q u → Left (par i o p q) (at_par i o r u)
  par_l : {i : ℕ} {p q r : Tree} → Left p r → Left (par i and p q) r
  par_r : {i : ℕ} {p q r : Tree} → Left q r → Left (par i and p q) r
  ready : {t : Tree} {i j m : ℕ} → Left t (seq i (canrun j m) t)  -- the right of an and or an or, not yet begun
  awaited : {t : Tree} {i j : ℕ} → Left t (seq i (nop j) t)  -- the same, about to begin
  every_on : {i j e : ℕ} {s : Source} {p c : Tree} → Calm c → Left (every i s e p) (seq j c (every i s e p))  -- woken
  sent : {i j e m : ℕ} {y : ℤ} → Left (emit i e y) (canrun j m)  -- emitted, and not yet resumed

-- of a nested step that may be none
abbrev pub LeftO : Tree → Nested → Type 0
LeftO t stuck = Unit {0}
LeftO t (moved w r) = Left t r

-- ---- calm trees stay calm
abbrev CalmO : Nested → Type 0
CalmO stuck = Unit {0}
CalmO (moved w r) = Calm r

abbrev not_broken : Front → Bool
not_broken done = true
not_broken (broken b) = false
not_broken going = true

calm-front : (t : Tree) → Calm t → T (not_broken (front t))
unfolding Calm front
calm-front (nop i) c = tt
calm-front (act i a v k) c = tt
calm-front (await i s e) c = tt
calm-front (emit i e y) c = tt
calm-front (break i) c = c
calm-front (ifvar i v p q) c = tt
calm-front (seq i p q) c = tt
calm-front (loop i p) c = tt
calm-front (every i s e p) c = tt
calm-front (par i o p q) c = tt
calm-front (fin i p) c = tt
calm-front (canrun i m) c = tt
calm-front (at_loop i p q) c = tt
calm-front (at_par i o p q) c = tt

calm-choice : (b : Bool) (p q : Tree) → Calm p → Calm q → Calm (if b then q else p)
calm-choice true p q c d = d
calm-choice false p q c d = c

calm-seq : (i : ℕ) (q : Tree) (f : Front) (r : Nested) → Calm q → T (not_broken f) → CalmO r → CalmO (seq_step i f q r)
unfolding Calm seq_step in_part
calm-seq i q done r c b h = c
calm-seq i q (broken k) r c b h = absurd b
calm-seq i q going stuck c b h = tt
calm-seq i q going (moved w p) c b h = (h, c)

calm-step : (n : ℕ) (x : Memory) (t : Tree) → Calm t → CalmO (nested_step n x t)
unfolding Calm nested_step
calm-step n x (nop i) c = tt
calm-step n x (act i a v k) c = tt
calm-step n x (await i s e) c = tt
calm-step n x (emit i e y) c = absurd c
calm-step n x (break i) c = tt
calm-step n x (ifvar i v p q) c = calm-choice (is_zero (read x v)) p q c.0 c.1
calm-step n x (seq i p q) c = calm-seq i q (front p) (nested_step n x p) c.1 (calm-front p c.0) (calm-step n x p c.0)
calm-step n x (loop i p) c = absurd c
calm-step n x (every i s e p) c = tt
calm-step n x (par i o p q) c = absurd c
calm-step n x (fin i p) c = tt
calm-step n x (canrun i m) c = absurd c
calm-step n x (at_loop i p q) c = absurd c
calm-step n x (at_par i o p q) c = absurd c

pub calm-open : (n : ℕ) (t : Tree) → Calm t → T (blocked n t) → ⊥
unfolding Calm blocked
calm-open n (nop i) c b = b
calm-open n (act i a v k) c b = b
calm-open n (await i s e) c b = c
calm-open n (emit i e y) c b = b
calm-open n (break i) c b = b
calm-open n (ifvar i v p q) c b = b
calm-open n (seq i p q) c b = calm-open n p c.0 b
calm-open n (loop i p) c b = b
calm-open n (every i s e p) c b = c
calm-open n (par i o p q) c b = b
calm-open n (fin i p) c b = c
calm-open n (canrun i m) c b = c
calm-open n (at_loop i p q) c b = c
calm-open n (at_par i o p q) c b = c

-- a calm tree hears nothing
pub calm-same : (w : ℕ → Source → ℕ → Bool) (t : Tree) → Calm t → awake w t ≡ t
unfolding Calm awake
calm-same w (nop i) c = refl
calm-same w (act i a v k) c = refl
calm-same w (await i s e) c = absurd c
calm-same w (emit i e y) c = refl
calm-same w (break i) c = refl
calm-same w (ifvar i v p q) c = refl
calm-same w (seq i p q) c = ap (λ (r : Tree). seq i r q) (calm-same w p c.0)
calm-same w (loop i p) c = refl
calm-same w (every i s e p) c = absurd c
calm-same w (par i o p q) c = refl
calm-same w (fin i p) c = refl
calm-same w (canrun i m) c = refl
calm-same w (at_loop i p q) c = absurd c
calm-same w (at_par i o p q) c = absurd c

calm-awake : (w : ℕ → Source → ℕ → Bool) (t : Tree) → Calm t → Calm (awake w t)
calm-awake w t c = subst Calm (sym (calm-same w t c)) c

-- ---- a step leaves what is left of the same program

tidy-step : (t : Tree) (r : Nested) → CalmO r → LeftO t r
tidy-step t stuck h = tt
tidy-step t (moved w c) h = tidy h

leaving-step : (t : Tree) (i b : ℕ) (f : Front) (r : Nested) → CalmO r → LeftO t (seq_step i f (break b) r)
unfolding seq_step in_part
leaving-step t i b done r h = breaking
leaving-step t i b (broken k) r h = breaking
leaving-step t i b going stuck h = tt
leaving-step t i b going (moved w c) h = leaving h

seq_l-step : (i : ℕ) (p q : Tree) (f : Front) (r : Nested) → LeftO p r → LeftO (seq i p q) (seq_step i f q r)
unfolding seq_step in_part
seq_l-step i p q done r h = seq_r whole
seq_l-step i p q (broken b) r h = breaking
seq_l-step i p q going stuck h = tt
seq_l-step i p q going (moved w u) h = seq_l h

loop_in-step : (i : ℕ) (p : Tree) (f : Front) (r : Nested) → LeftO p r → LeftO (loop i p) (loop_step i f p r)
unfolding loop_step in_part Calm
loop_in-step i p done r h = whole
loop_in-step i p (broken b) r h = tidy tt
loop_in-step i p going stuck h = tt
loop_in-step i p going (moved w u) h = loop_in h

keep_l : (i : ℕ) (o : Par) (p q r : Tree) → Good r → Left p r → Left (par i o p q) (other_side o r)
keep_l i and p q r g h = par_l h
keep_l i or p q r g h = tidy (clear-calm r g)

keep_r : (i : ℕ) (o : Par) (p q u : Tree) → Good u → Left q u → Left (par i o p q) (other_side o u)
keep_r i and p q u g h = par_r h
keep_r i or p q u g h = tidy (clear-calm u g)

right-step : (i : ℕ) (o : Par) (p q r u : Tree) → Good r → Left p r → (f : Front) (s : Nested) → LeftO q s → LeftO (par i o p q) (right_step i o r f s)
unfolding right_step in_part
right-step i o p q r u g h done s k = keep_l i o p q r g h
right-step i o p q r u g h (broken b) s k = leaving (clear-calm r g)
right-step i o p q r u g h going stuck k = tt
right-step i o p q r u g h going (moved w v) k = par_both h k

par-step : (i : ℕ) (o : Par) (p q r u : Tree) → Good r → Good u → Left p r → Left q u → (f : Front) (b : Bool) (s s' : Nested) → LeftO p s → LeftO q s' → LeftO (par i o p q) (par_step i o r u f b s s')
unfolding par_step in_part
par-step i o p q r u g g' h h' done b s s' k k' = keep_r i o p q u g' h'
par-step i o p q r u g g' h h' (broken c) b s s' k k' = leaving (clear-calm u g')
par-step i o p q r u g g' h h' going false stuck s' k k' = tt
par-step i o p q r u g g' h h' going false (moved w v) s' k k' = par_both k h'
par-step i o p q r u g g' h h' going true s s' k k' = right-step i o p q r u g h (front u) s' k'

choice-left : (b : Bool) (i v : ℕ) (p q : Tree) → Left (ifvar i v p q) (if b then q else p)
choice-left true i v p q = if_r whole
choice-left false i v p q = if_l whole

up_step : (t u : Tree) → ((r : Tree) → Left t r → Left u r) → (s : Nested) → LeftO t s → LeftO u s
up_step t u f stuck h = tt
up_step t u f (moved w r) h = f r h

resume-step : (t : Tree) (j : ℕ) (b : Bool) → CalmO (if b then moved quiet (nop j) else stuck)
unfolding Calm
resume-step t j true = tt
resume-step t j false = tt

-- a program's own first step
whole-step : (n : ℕ) (x : Memory) (t : Tree) → Program t → LeftO t (nested_step n x t)
unfolding nested_step Program Calm
whole-step n x (nop i) h = tt
whole-step n x (act i a v k) h = tidy tt
whole-step n x (await i s e) h = tt
whole-step n x (emit i e y) h = sent
whole-step n x (break i) h = tt
whole-step n x (ifvar i v p q) h = choice-left (is_zero (read x v)) i v p q
whole-step n x (seq i p q) h = seq_l-step i p q (front p) (nested_step n x p) (whole-step n x p h.0)
whole-step n x (loop i p) h = loop_in whole
whole-step n x (every i s e p) h = tt
whole-step n x (par i o p q) h = par_both whole ready
whole-step n x (fin i p) h = tt
whole-step n x (canrun i m) h = absurd h
whole-step n x (at_loop i p q) h = absurd h
whole-step n x (at_par i o p q) h = absurd h

ready-step : (t : Tree) (i j : ℕ) (b : Bool) → LeftO t (seq_step i going t (if b then moved quiet (nop j) else stuck))
unfolding seq_step in_part
ready-step t i j true = awaited
ready-step t i j false = tt

every-step : (i j e : ℕ) (s : Source) (p : Tree) (f : Front) (r : Nested) → CalmO r → LeftO (every i s e p) (seq_step j f (every i s e p) r)
unfolding seq_step in_part
every-step i j e s p done r h = whole
every-step i j e s p (broken b) r h = breaking
every-step i j e s p going stuck h = tt
every-step i j e s p going (moved w c) h = every_on h

pub left_step : (n : ℕ) (x : Memory) {t r : Tree} → Left t r → Program t → Good r → LeftO t (nested_step n x r)
unfolding nested_step Program Good front
left_step n x (whole {t = t}) h g = whole-step n x t h
left_step n x (tidy {t = t} {c = c} k) h g = tidy-step t (nested_step n x c) (calm-step n x c k)
left_step n x breaking h g = tt
left_step n x (leaving {t = t} {c = c} {i = i} {b = b} k) h g = leaving-step t i b (front c) (nested_step n x c) (calm-step n x c k)
left_step n x (seq_l {i = i} {p = p} {q = q} {r = r} l) h g = seq_l-step i p q (front r) (nested_step n x r) (left_step n x l h.0 g.0)
left_step n x (seq_r {i = i} {p = p} {q = q} {r = r} l) h g = up_step q (seq i p q) (λ r l. seq_r l) (nested_step n x r) (left_step n x l h.1 g)
left_step n x (if_l {i = i} {v = v} {p = p} {q = q} {r = r} l) h g = up_step p (ifvar i v p q) (λ r l. if_l l) (nested_step n x r) (left_step n x l h.0 g)
left_step n x (if_r {i = i} {v = v} {p = p} {q = q} {r = r} l) h g = up_step q (ifvar i v p q) (λ r l. if_r l) (nested_step n x r) (left_step n x l h.1 g)
left_step n x (loop_in {i = i} {p = p} {r = r} l) h g = loop_in-step i p (front r) (nested_step n x r) (left_step n x l h g.0)
left_step n x (par_both {i = i} {o = o} {p = p} {q = q} {r = r} {u = u} l k) h g =
    par-step i o p q r u g.0 g.1 l k (front r) (blocked n r) (nested_step n x r) (nested_step n x u) (left_step n x l h.0 g.0) (left_step n x k h.1 g.1)
left_step n x (par_l {i = i} {p = p} {q = q} {r = r} l) h g = up_step p (par i and p q) (λ r l. par_l l) (nested_step n x r) (left_step n x l h.0 g)
left_step n x (par_r {i = i} {p = p} {q = q} {r = r} l) h g = up_step q (par i and p q) (λ r l. par_r l) (nested_step n x r) (left_step n x l h.1 g)
left_step n x (ready {t = t} {i = i} {j = j} {m = m}) h g = ready-step t i j (eqb m n)
left_step n x (awaited {t = t}) h g = unfold seq_step in whole
left_step n x (every_on {i = i} {j = j} {e = e} {s = s} {p = p} {c = c} k) h g = every-step i j e s p (front c) (nested_step n x c) (calm-step n x c k)
left_step n x (sent {i = i} {j = j} {e = e} {m = m} {y = y}) h g = tidy-step (emit i e y) (if eqb m n then moved quiet (nop j) else stuck) (resume-step (emit i e y) j (eqb m n))

-- ---- an event

await-left : (i e : ℕ) (s : Source) (b : Bool) → Left (await i s e) (if b then nop i else await i s e)
unfolding Calm
await-left i e s true = tidy tt
await-left i e s false = whole

every-left : (i e : ℕ) (s : Source) (p : Tree) (b : Bool) → Calm p → Left (every i s e p) (if b then seq i p (every i s e p) else every i s e p)
every-left i e s p true c = every_on c
every-left i e s p false c = whole

whole-awake : (w : ℕ → Source → ℕ → Bool) (t : Tree) → Program t → Good t → Left t (awake w t)
unfolding awake Program Good
whole-awake w (nop i) h g = whole
whole-awake w (act i a v k) h g = whole
whole-awake w (await i s e) h g = await-left i e s (w i s e)
whole-awake w (emit i e y) h g = whole
whole-awake w (break i) h g = whole
whole-awake w (ifvar i v p q) h g = whole
whole-awake w (seq i p q) h g = seq_l (whole-awake w p h.0 g.0)
whole-awake w (loop i p) h g = whole
whole-awake w (every i s e p) h g = every-left i e s p (w i s e) g
whole-awake w (par i o p q) h g = whole
whole-awake w (fin i p) h g = whole
whole-awake w (canrun i m) h g = absurd h
whole-awake w (at_loop i p q) h g = absurd h
whole-awake w (at_par i o p q) h g = absurd h

pub left-awake : (w : ℕ → Source → ℕ → Bool) {t r : Tree} → Left t r → Program t → Good r → Left t (awake w r)
unfolding awake Program Good
left-awake w (whole {t = t}) h g = whole-awake w t h g
left-awake w (tidy {c = c} k) h g = tidy (calm-awake w c k)
left-awake w breaking h g = breaking
left-awake w (leaving {c = c} k) h g = leaving (calm-awake w c k)
left-awake w (seq_l l) h g = seq_l (left-awake w l h.0 g.0)
left-awake w (seq_r l) h g = seq_r (left-awake w l h.1 g)
left-awake w (if_l l) h g = if_l (left-awake w l h.0 g)
left-awake w (if_r l) h g = if_r (left-awake w l h.1 g)
left-awake w (loop_in l) h g = loop_in (left-awake w l h g.0)
left-awake w (par_both l k) h g = par_both (left-awake w l h.0 g.0) (left-awake w k h.1 g.1)
left-awake w (par_l l) h g = par_l (left-awake w l h.0 g)
left-awake w (par_r l) h g = par_r (left-awake w l h.1 g)
left-awake w ready h g = ready
left-awake w awaited h g = awaited
left-awake w (every_on {c = c} k) h g = every_on (calm-awake w c k)
left-awake w sent h g = sent
