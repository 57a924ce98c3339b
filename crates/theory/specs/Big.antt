-- The run of nested steps up to the next push or pop, as one function by recursion on the tree; it is a chain of the rules.
use Rattle.std.specs.Prelude.{◌≡◌, Bool, not, ℕ, suc, ◌+◌, ◌≤◌, eqb, ℤ, if◌then◌else◌}
use Rattle.std.proofs.Math.Path.{refl, subst}
use Rattle.std.proofs.Common.{sym, arith, T_not}
use Rattle.std.proofs.Math.Bool.{true, false}
use Rattle.std.proofs.Math.Option.{none}
use Rattle.std.proofs.Math.Dec.{T}
use borrow.Author.Tests.{lt-ltb, eqb-true, eqb-false}
use Rattle.rules.specs.Number.{is_zero}
use Rattle.rules.specs.Tree.{Par, Tree, act, and, at_loop, at_par, await, break, canrun, emit, every, fin, ifvar, loop, nop, or, par, seq}
use Rattle.rules.specs.Check.{may_end}
use Rattle.rules.specs.Memory.{Deed, Memory, does, effect, quiet, raises, read}
use Rattle.rules.specs.Step.{blocked, clear, other_side, raised}
use Rattle.theory.specs.Logic.{and_in}
use Rattle.theory.specs.Memory.{effect-quiet}
use Rattle.theory.specs.Program.{Calm, Good, clear-calm}
use Rattle.theory.specs.StepLowers.{LowersO, lowers}
use Rattle.theory.specs.Progress.{Live, program-live}
use Rattle.theory.specs.Relation.{Goes, acts, emits, resumes, chooses, seq-next, seq-break, seq-left, loop-in, loop-again, loop-out, loop-left, par-in, par-done, par-break, par-left, par-done-right, par-break-right, par-right, goes-nest}

-- how the run ends: with @nop, with a break, blocked, with an emit; `amiss` never comes
pub data Fate : Type 0 where
  ends breaks waits amiss : Fate
  rings : ℕ → Fate

-- with the tree, the memory and the steps of the run
pub record Out : Type 0 where
  pub fate : Fate
  pub tree : Tree
  pub mem : Memory
  pub steps : ℕ

abbrev pub result : Fate → Tree → Memory → ℕ → Out
result f t m j = record { fate = f; tree = t; mem = m; steps = j }

-- j steps before
abbrev pub later : ℕ → Out → Out
later j o = record { fate = o.fate; tree = o.tree; mem = o.mem; steps = j + o.steps }

-- ---- a calm tree runs to its end

-- the place of the @nop that is left, the memory and the steps
pub record Calmed : Type 0 where
  pub at : ℕ
  pub mem : Memory
  pub steps : ℕ

abbrev pub after : ℕ → Calmed → Calmed
after j c = record { at = c.at; mem = c.mem; steps = j + c.steps }

abbrev pub calmed : ℕ → Memory → ℕ → Calmed
calmed i m j = record { at = i; mem = m; steps = j }

unfoldable pub settle : Tree → Memory → Calmed
settle (nop i) m = calmed i m 0
settle (act i a v k) m = calmed i (effect (does a v k) m) 1
settle (await i s e) m = calmed i m 0
settle (emit i e y) m = calmed i m 0
settle (break i) m = calmed i m 0
settle (ifvar i v p q) m = after 1 (if is_zero (read m v) then settle q m else settle p m)
settle (seq i p q) m = after ((settle p m).steps + 1) (settle q (settle p m).mem)
settle (loop i p) m = calmed i m 0
settle (every i s e p) m = calmed i m 0
settle (par i o p q) m = calmed i m 0
settle (fin i p) m = calmed i m 0
settle (canrun i k) m = calmed i m 0
settle (at_loop i p q) m = calmed i m 0
settle (at_par i o p q) m = calmed i m 0

-- after j steps t is cleared, and then the tree has ended, or the break b is left
unfoldable pub cleared : ℕ → Tree → Memory → Out
unfolding settle
cleared j t m = result ends (nop (settle (clear t) m).at) (settle (clear t) m).mem (j + 1 + (settle (clear t) m).steps)

unfoldable pub broken_off : Tree → ℕ → Tree → Memory → Out
unfolding settle
broken_off b j t m = result breaks b (settle (clear t) m).mem (j + 1 + (settle (clear t) m).steps + 1)

-- ---- the constructs, by the fate of their left

unfoldable pub seq_f : ℕ → Fate → Out → Tree → (Memory → Out) → Out
seq_f i ends o q r = later (o.steps + 1) (r o.mem)
seq_f i breaks o q r = result breaks o.tree o.mem (o.steps + 1)
seq_f i waits o q r = result waits (seq i o.tree q) o.mem o.steps
seq_f i amiss o q r = o
seq_f i (rings e) o q r = result (rings e) (seq i o.tree q) o.mem o.steps

-- the body of a fresh loop ran; guarded, it did not end
unfoldable pub loop_f : ℕ → Fate → Out → Tree → Out
loop_f i ends o q = result amiss (nop i) o.mem 0
loop_f i breaks o q = result ends (nop i) o.mem (o.steps + 1)
loop_f i waits o q = result waits (at_loop i o.tree q) o.mem o.steps
loop_f i amiss o q = o
loop_f i (rings e) o q = result (rings e) (at_loop i o.tree q) o.mem o.steps

unfoldable pub again_f : ℕ → Fate → Out → Tree → (Memory → Out) → Out
unfolding loop_f
again_f i ends o q r = later (o.steps + 2) (loop_f i (r o.mem).fate (r o.mem) q)
again_f i breaks o q r = result ends (nop i) o.mem (o.steps + 1)
again_f i waits o q r = result waits (at_loop i o.tree q) o.mem o.steps
again_f i amiss o q r = o
again_f i (rings e) o q r = result (rings e) (at_loop i o.tree q) o.mem o.steps

-- the left, p, is blocked after j steps, and the right ran
unfoldable pub right_f : ℕ → Par → Tree → ℕ → Fate → Out → Out
unfolding cleared broken_off
right_f i and p j ends o = result waits p o.mem (j + (o.steps + 1))
right_f i or p j ends o = cleared (j + o.steps) p o.mem
right_f i c p j breaks o = broken_off o.tree (j + o.steps) p o.mem
right_f i c p j waits o = result waits (at_par i c p o.tree) o.mem (j + o.steps)
right_f i c p j amiss o = o
right_f i c p j (rings e) o = result (rings e) (at_par i c p o.tree) o.mem (j + o.steps)

unfoldable pub par_f : ℕ → Par → Fate → Out → Tree → (Memory → Out) → Out
unfolding cleared broken_off right_f
par_f i and ends o q r = later (o.steps + 1) (r o.mem)
par_f i or ends o q r = cleared o.steps q o.mem
par_f i c breaks o q r = broken_off o.tree o.steps q o.mem
par_f i c waits o q r = right_f i c o.tree o.steps (r o.mem).fate (r o.mem)
par_f i c amiss o q r = o
par_f i c (rings e) o q r = result (rings e) (at_par i c o.tree q) o.mem o.steps

unfoldable pub resume : ℕ → Tree → Memory → Out
unfolding seq_f loop_f again_f par_f
resume n (nop i) m = result ends (nop i) m 0
resume n (act i a v k) m = result ends (nop i) (effect (does a v k) m) 1
resume n (await i s e) m = result waits (await i s e) m 0
resume n (emit i e y) m = result (rings e) (canrun i n) (effect (raises e y) m) 1
resume n (break i) m = result breaks (break i) m 0
resume n (ifvar i v p q) m = later 1 (if is_zero (read m v) then resume n q m else resume n p m)
resume n (seq i p q) m = seq_f i (resume n p m).fate (resume n p m) q (resume n q)
resume n (loop i p) m = later 1 (loop_f i (resume n p m).fate (resume n p m) p)
resume n (every i s e p) m = result waits (every i s e p) m 0
resume n (par i o p q) m = later 1 (par_f i o (resume n p m).fate (resume n p m) (seq i (canrun i n) q) (λ m'. later 2 (resume n q m')))
resume n (fin i p) m = result waits (fin i p) m 0
resume n (canrun i k) m = if eqb k n then result ends (nop i) m 1 else result waits (canrun i k) m 0
resume n (at_loop i p q) m = again_f i (resume n p m).fate (resume n p m) q (resume n q)
resume n (at_par i o p q) m = par_f i o (resume n p m).fate (resume n p m) q (resume n q)

-- ---- the same by the rules

-- so many nested steps at level n, none of which emits
pub data Chain (n : ℕ) : Tree → Memory → Tree → Memory → ℕ → Type 0 where
  c-done : {t : Tree} {m : Memory} → Chain n t m t m 0
  c-step : {t t' t'' : Tree} {m m'' : Memory} {w : Deed} {i j : ℕ} → Goes n m t w t' → raised w ≡ none → Chain n t' (effect w m) t'' m'' j → i ≡ suc j → Chain n t m t'' m'' i

counted : {n i j : ℕ} {t t' : Tree} {m m' : Memory} → i ≡ j → Chain n t m t' m' i → Chain n t m t' m' j
counted e c = rw e at c

c-trans : {n i j : ℕ} {t t' t'' : Tree} {m m' m'' : Memory} → Chain n t m t' m' i → Chain n t' m' t'' m'' j → Chain n t m t'' m'' (i + j)
c-trans c-done d = counted (omega arith) d
c-trans {i = i} {j = j} (c-step s r c e) d = c-step {i = i + j} s r (c-trans c d) (omega arith)

c-seq : {n j : ℕ} {p p' : Tree} {m m' : Memory} (i : ℕ) (q : Tree) → Chain n p m p' m' j → Chain n (seq i p q) m (seq i p' q) m' j
c-seq i q c-done = c-done
c-seq i q (c-step s r c e) = c-step (seq-left s) r (c-seq i q c) e

c-loop : {n j : ℕ} {p p' : Tree} {m m' : Memory} (i : ℕ) (q : Tree) → Chain n p m p' m' j → Chain n (at_loop i p q) m (at_loop i p' q) m' j
c-loop i q c-done = c-done
c-loop i q (c-step s r c e) = c-step (loop-left s) r (c-loop i q c) e

c-left : {n j : ℕ} {p p' : Tree} {m m' : Memory} (i : ℕ) (o : Par) (q : Tree) → Chain n p m p' m' j → Chain n (at_par i o p q) m (at_par i o p' q) m' j
c-left i o q c-done = c-done
c-left i o q (c-step s r c e) = c-step (par-left s) r (c-left i o q c) e

c-right : {n j : ℕ} {q q' : Tree} {m m' : Memory} (i : ℕ) (o : Par) (p : Tree) → T (blocked n p) → Chain n q m q' m' j → Chain n (at_par i o p q) m (at_par i o p q') m' j
c-right i o p h c-done = c-done
c-right i o p h (c-step s r c e) = c-step (par-right h s) r (c-right i o p h c) e

one-step : {n : ℕ} {t t' : Tree} {m : Memory} → Goes n m t quiet t' → Chain n t m t' m 1
one-step {n = n} {t' = t'} {m = m} s = c-step s refl (subst (λ x. Chain n t' x t' m 0) (sym (effect-quiet m)) c-done) refl

-- one more step at the end
c-more : {n j : ℕ} {t t' t'' : Tree} {m m' : Memory} → Chain n t m t' m' j → Goes n m' t' quiet t'' → Chain n t m t'' m' (j + 1)
c-more c s = c-trans c (one-step s)

abbrev Settles : ℕ → Tree → Memory → Calmed → Type 0
Settles n t m c = Chain n t m (nop c.at) c.mem c.steps

c-choose : {n : ℕ} {m : Memory} (i v : ℕ) (p q : Tree) (x : Bool) → is_zero (read m v) ≡ x → (a b : Calmed) → Settles n q m a → Settles n p m b → Settles n (ifvar i v p q) m (after 1 (if x then a else b))
c-choose {n = n} {m = m} i v p q true e a b c d = c-trans (subst (λ z. Chain n (ifvar i v p q) m (if z then q else p) m 1) e (one-step chooses)) c
c-choose {n = n} {m = m} i v p q false e a b c d = c-trans (subst (λ z. Chain n (ifvar i v p q) m (if z then q else p) m 1) e (one-step chooses)) d

c-settle : {n : ℕ} (t : Tree) (m : Memory) → Calm t → Chain n t m (nop (settle t m).at) (settle t m).mem (settle t m).steps
unfolding settle Calm
c-settle (nop i) m k = c-done
c-settle (act i a v z) m k = c-step acts refl c-done refl
c-settle (await i s e) m k = absurd k
c-settle (emit i e y) m k = absurd k
c-settle (break i) m k = absurd k
c-settle (ifvar i v p q) m k = c-choose i v p q (is_zero (read m v)) refl (settle q m) (settle p m) (c-settle q m k.1) (c-settle p m k.0)
c-settle (seq i p q) m k = c-trans (c-more (c-seq i q (c-settle p m k.0)) seq-next) (c-settle q (settle p m).mem k.1)
c-settle (loop i p) m k = absurd k
c-settle (every i s e p) m k = absurd k
c-settle (par i o p q) m k = absurd k
c-settle (fin i p) m k = absurd k
c-settle (canrun i x) m k = absurd k
c-settle (at_loop i p q) m k = absurd k
c-settle (at_par i o p q) m k = absurd k

-- @nop, and a break
pub data Over : Tree → Type 0 where
  over : {i : ℕ} → Over (nop i)

pub data Fallen : Tree → Type 0 where
  fallen : {b : ℕ} → Fallen (break b)

module _ {n j : ℕ} {p t : Tree} {m m' : Memory} (i : ℕ) (q : Tree) (c : Chain n p m t m' j) where
  next-seq : Over t → Chain n (seq i p q) m q m' (j + 1)
  next-seq o = go c o
    where
      go : {u : Tree} → Chain n p m u m' j → Over u → Chain n (seq i p q) m q m' (j + 1)
      go d over = c-more (c-seq i q d) seq-next

  break-seq : Fallen t → Chain n (seq i p q) m t m' (j + 1)
  break-seq o = go c o
    where
      go : {u : Tree} → Chain n p m u m' j → Fallen u → Chain n (seq i p q) m u m' (j + 1)
      go d fallen = c-more (c-seq i q d) seq-break

  again-loop : Over t → Chain n (at_loop i p q) m (at_loop i q q) m' (j + 2)
  again-loop o = go c o
    where
      go : {u : Tree} → Chain n p m u m' j → Over u → Chain n (at_loop i p q) m (at_loop i q q) m' (j + 2)
      go d over = counted (omega arith) (c-more (c-more (c-loop i q d) loop-again) loop-in)

  out-loop : Fallen t → Chain n (at_loop i p q) m (nop i) m' (j + 1)
  out-loop o = go c o
    where
      go : {u : Tree} → Chain n p m u m' j → Fallen u → Chain n (at_loop i p q) m (nop i) m' (j + 1)
      go d fallen = c-more (c-loop i q d) loop-out

  left-done : (o : Par) → Over t → Chain n (at_par i o p q) m (other_side o q) m' (j + 1)
  left-done o x = go c x
    where
      go : {u : Tree} → Chain n p m u m' j → Over u → Chain n (at_par i o p q) m (other_side o q) m' (j + 1)
      go d over = c-more (c-left i o q d) par-done

  left-break : (o : Par) → Calm (clear q) → Fallen t → Chain n (at_par i o p q) m t (settle (clear q) m').mem (j + 1 + (settle (clear q) m').steps + 1)
  left-break o k x = go c x
    where
      go : {u : Tree} → Chain n p m u m' j → Fallen u → Chain n (at_par i o p q) m u (settle (clear q) m').mem (j + 1 + (settle (clear q) m').steps + 1)
      go d (fallen {b = b}) = c-more (c-trans (c-more (c-left i o q d) par-break) (c-seq i (break b) (c-settle (clear q) m' k))) seq-next

-- the same on the right, after a chain that blocks the left
module _ {n j k : ℕ} {t q u p : Tree} {m m₁ m' : Memory} (i : ℕ) (o : Par) (g : T (blocked n p)) (d : Chain n t m (at_par i o p q) m₁ k) (c : Chain n q m₁ u m' j) where
  right-done : Over u → Chain n t m (other_side o p) m' (k + (j + 1))
  right-done x = go c x
    where
      go : {v : Tree} → Chain n q m₁ v m' j → Over v → Chain n t m (other_side o p) m' (k + (j + 1))
      go e over = c-trans d (c-more (c-right i o p g e) (par-done-right g))

  right-break : Calm (clear p) → Fallen u → Chain n t m u (settle (clear p) m').mem (k + j + 1 + (settle (clear p) m').steps + 1)
  right-break s x = go c x
    where
      go : {v : Tree} → Chain n q m₁ v m' j → Fallen v → Chain n t m v (settle (clear p) m').mem (k + j + 1 + (settle (clear p) m').steps + 1)
      go e (fallen {b = b}) = c-more (c-trans (c-more (c-trans d (c-right i o p g e)) (par-break-right g)) (c-seq i (break b) (c-settle (clear p) m' s))) seq-next

-- a chain, and then an emit
pub record Rung (n e : ℕ) (t : Tree) (m : Memory) (t' : Tree) (m' : Memory) (j : ℕ) : Type 0 where
  pub at : Tree
  pub mem : Memory
  pub number : ℤ
  pub before : ℕ
  pub chain : Chain n t m at mem before
  pub emits-now : Goes n mem at (raises e number) t'
  pub memory : m' ≡ effect (raises e number) mem
  pub count : j ≡ before + 1

-- the run from t and m ends so, by the rules
abbrev pub Meets : ℕ → Tree → Memory → Fate → Tree → Memory → ℕ → Type 0
Meets n t m ends t' m' j = Chain n t m t' m' j × Over t'
Meets n t m breaks t' m' j = Chain n t m t' m' j × Fallen t'
Meets n t m waits t' m' j = Chain n t m t' m' j × T (blocked n t')
Meets n t m amiss t' m' j = ⊥
Meets n t m (rings e) t' m' j = Rung n e t m t' m' j

abbrev pub Is : ℕ → Tree → Memory → Out → Type 0
Is n t m o = Meets n t m o.fate o.tree o.mem o.steps

onward : {n i : ℕ} {t t₁ : Tree} {m m₁ : Memory} (f : Fate) (t' : Tree) (m' : Memory) (j : ℕ) → Chain n t m t₁ m₁ i → Meets n t₁ m₁ f t' m' j → Meets n t m f t' m' (i + j)
onward ends t' m' j c h = (c-trans c h.0, h.1)
onward breaks t' m' j c h = (c-trans c h.0, h.1)
onward waits t' m' j c h = (c-trans c h.0, h.1)
onward amiss t' m' j c h = h
onward {i = i} (rings e) t' m' j c h = record { at = h.at; mem = h.mem; number = h.number; before = i + h.before; chain = c-trans c h.chain; emits-now = h.emits-now; memory = h.memory; count = omega (arith, h.count) }

then_is : {n i : ℕ} {t t₁ : Tree} {m m₁ : Memory} (o : Out) → Chain n t m t₁ m₁ i → Is n t₁ m₁ o → Is n t m (later i o)
then_is o c h = onward o.fate o.tree o.mem o.steps c h

module _ (n : ℕ) where
  seq-is : (i : ℕ) (p q : Tree) (m : Memory) (f : Fate) (o : Out) (r : Memory → Out) → Meets n p m f o.tree o.mem o.steps → ((x : Memory) → Is n q x (r x)) → Is n (seq i p q) m (seq_f i f o q r)
  unfolding seq_f blocked
  seq-is i p q m ends o r h g = then_is (r o.mem) (next-seq i q h.0 h.1) (g o.mem)
  seq-is i p q m breaks o r h g = (break-seq i q h.0 h.1, h.1)
  seq-is i p q m waits o r h g = (c-seq i q h.0, h.1)
  seq-is i p q m amiss o r h g = absurd h
  seq-is i p q m (rings e) o r h g = record { at = seq i h.at q; mem = h.mem; number = h.number; before = h.before; chain = c-seq i q h.chain; emits-now = seq-left h.emits-now; memory = h.memory; count = h.count }

  loop-is : (i : ℕ) (p q : Tree) (m : Memory) (f : Fate) (o : Out) → Meets n p m f o.tree o.mem o.steps → (Chain n p m o.tree o.mem o.steps → Over o.tree → ⊥) → Is n (at_loop i p q) m (loop_f i f o q)
  unfolding loop_f blocked
  loop-is i p q m ends o h g = absurd (g h.0 h.1)
  loop-is i p q m breaks o h g = (out-loop i q h.0 h.1, over)
  loop-is i p q m waits o h g = (c-loop i q h.0, h.1)
  loop-is i p q m amiss o h g = absurd h
  loop-is i p q m (rings e) o h g = record { at = at_loop i h.at q; mem = h.mem; number = h.number; before = h.before; chain = c-loop i q h.chain; emits-now = loop-left h.emits-now; memory = h.memory; count = h.count }

  again-is : (i : ℕ) (p q : Tree) (m : Memory) (f : Fate) (o : Out) (r : Memory → Out) → Meets n p m f o.tree o.mem o.steps → ((x : Memory) → Is n (at_loop i q q) x (loop_f i (r x).fate (r x) q)) → Is n (at_loop i p q) m (again_f i f o q r)
  unfolding again_f blocked
  again-is i p q m ends o r h g = then_is (loop_f i (r o.mem).fate (r o.mem) q) (again-loop i q h.0 h.1) (g o.mem)
  again-is i p q m breaks o r h g = (out-loop i q h.0 h.1, over)
  again-is i p q m waits o r h g = (c-loop i q h.0, h.1)
  again-is i p q m amiss o r h g = absurd h
  again-is i p q m (rings e) o r h g = record { at = at_loop i h.at q; mem = h.mem; number = h.number; before = h.before; chain = c-loop i q h.chain; emits-now = loop-left h.emits-now; memory = h.memory; count = h.count }

  -- the right side, while the left is blocked
  right_is : (i : ℕ) (c : Par) (t p q : Tree) (m m₁ : Memory) (j : ℕ) (f : Fate) (o : Out) → Calm (clear p) → T (blocked n p) → Chain n t m (at_par i c p q) m₁ j → Meets n q m₁ f o.tree o.mem o.steps → Is n t m (right_f i c p j f o)
  unfolding right_f cleared broken_off blocked
  right_is i and t p q m m₁ j ends o s g d h = (right-done i and g d h.0 h.1, g)
  right_is i or t p q m m₁ j ends o s g d h = (counted (omega arith) (c-trans (right-done i or g d h.0 h.1) (c-settle (clear p) o.mem s)), over)
  right_is i c t p q m m₁ j breaks o s g d h = (right-break i c g d h.0 s h.1, h.1)
  right_is i c t p q m m₁ j waits o s g d h = (c-trans d (c-right i c p g h.0), and_in (blocked n p) (blocked n o.tree) g h.1)
  right_is i c t p q m m₁ j amiss o s g d h = absurd h
  right_is i c t p q m m₁ j (rings e) o s g d h = record { at = at_par i c p h.at; mem = h.mem; number = h.number; before = j + h.before; chain = c-trans d (c-right i c p g h.chain); emits-now = par-right g h.emits-now; memory = h.memory; count = omega (arith, h.count) }

  par-is : (i : ℕ) (c : Par) (p q : Tree) (m : Memory) (f : Fate) (o : Out) (r : Memory → Out) → (Chain n p m o.tree o.mem o.steps → Calm (clear o.tree)) → Calm (clear q)
      → Meets n p m f o.tree o.mem o.steps → ((x : Memory) → Is n q x (r x)) → Is n (at_par i c p q) m (par_f i c f o q r)
  unfolding par_f cleared broken_off
  par-is i and p q m ends o r s u h g = then_is (r o.mem) (left-done i q h.0 and h.1) (g o.mem)
  par-is i or p q m ends o r s u h g = (c-trans (left-done i q h.0 or h.1) (c-settle (clear q) o.mem u), over)
  par-is i c p q m breaks o r s u h g = (left-break i q h.0 c u h.1, h.1)
  par-is i c p q m waits o r s u h g = right_is i c (at_par i c p q) o.tree q m o.mem o.steps (r o.mem).fate (r o.mem) (s h.0) h.1 (c-left i c q h.0) (g o.mem)
  par-is i c p q m amiss o r s u h g = absurd h
  par-is i c p q m (rings e) o r s u h g = record { at = at_par i c h.at q; mem = h.mem; number = h.number; before = h.before; chain = c-left i c q h.chain; emits-now = par-left h.emits-now; memory = h.memory; count = h.count }

  module _ (g : 1 ≤ n) where
    -- what a chain keeps
    c-good : {j : ℕ} {t t' : Tree} {m m' : Memory} → Good t → Chain n t m t' m' j → Good t'
    c-good k c-done = k
    c-good k (c-step {t = t} {m = m} s r c e) = c-good (subst (LowersO 0 0 0 t) (goes-nest n m s) (lowers 0 0 0 n m t k)).good c

    c-ends : {j : ℕ} {t t' : Tree} {m m' : Memory} → Good t → Chain n t m t' m' j → T (may_end t') → T (may_end t)
    c-ends k c-done h = h
    c-ends k (c-step {t = t} {m = m} s r c e) h =
        let x = subst (LowersO 0 0 0 t) (goes-nest n m s) (lowers 0 0 0 n m t k) in
        x.ends (c-ends x.good c h)

    -- a guarded body does not end at once
    pub guarded : (p t : Tree) (m m' : Memory) (j : ℕ) → Good p → T (not (may_end p)) → Chain n p m t m' j → Over t → ⊥
    guarded p t m m' j s h c o = T_not (may_end p) h (c-ends s c (ending o))
      where
        ending : {u : Tree} → Over u → T (may_end u)
        ending over = unfold may_end in tt

    canrun-is : (i c : ℕ) (m : Memory) (x : Bool) → eqb c n ≡ x → c ≤ n → Is n (canrun i c) m (if x then result ends (nop i) m 1 else result waits (canrun i c) m 0)
    unfolding blocked
    canrun-is i c m true e h = (rw (eqb-true c n e) (one-step resumes), over)
    canrun-is i c m false e h = (c-done, subst T (sym (lt-ltb c n (omega (arith, eqb-false c n e)))) tt)

    choose-is : (i v : ℕ) (p q : Tree) (m : Memory) (x : Bool) → is_zero (read m v) ≡ x → (a b : Out) → Is n q m a → Is n p m b → Is n (ifvar i v p q) m (later 1 (if x then a else b))
    choose-is i v p q m true e a b h k = then_is a (subst (λ z. Chain n (ifvar i v p q) m (if z then q else p) m 1) e (one-step chooses)) h
    choose-is i v p q m false e a b h k = then_is b (subst (λ z. Chain n (ifvar i v p q) m (if z then q else p) m 1) e (one-step chooses)) k

    pub resume-is : (t : Tree) → Good t → Live n t → (m : Memory) → Is n t m (resume n t m)
    unfolding resume blocked clear Good Live Calm
    resume-is (nop i) k l m = (c-done, over)
    resume-is (act i a v z) k l m = (c-step acts refl c-done refl, over)
    resume-is (await i s e) k l m = (c-done, tt)
    resume-is (emit i e y) k l m = record { at = emit i e y; mem = m; number = y; before = 0; chain = c-done; emits-now = emits; memory = refl; count = refl }
    resume-is (break i) k l m = (c-done, fallen)
    resume-is (ifvar i v p q) k l m = choose-is i v p q m (is_zero (read m v)) refl (resume n q m) (resume n p m) (resume-is q k.1 (program-live n q l.1) m) (resume-is p k.0 (program-live n p l.0) m)
    resume-is (seq i p q) k l m = seq-is i p q m (resume n p m).fate (resume n p m) (resume n q) (resume-is p k.0 l.0 m) (resume-is q k.1 (program-live n q l.1))
    resume-is (loop i p) k l m =
        then_is (loop_f i (resume n p m).fate (resume n p m) p) (one-step loop-in)
        (loop-is i p p m (resume n p m).fate (resume n p m) (resume-is p k.0 (program-live n p l) m) (guarded p (resume n p m).tree m (resume n p m).mem (resume n p m).steps k.0 k.1))
    resume-is (every i s e p) k l m = (c-done, tt)
    resume-is (par i o p q) k l m =
        then_is (par_f i o (resume n p m).fate (resume n p m) (seq i (canrun i n) q) (λ m'. later 2 (resume n q m'))) (one-step par-in)
        (par-is i o p (seq i (canrun i n) q) m (resume n p m).fate (resume n p m) (λ m'. later 2 (resume n q m')) (λ d. clear-calm (resume n p m).tree (c-good k.0 d)) tt (resume-is p k.0 (program-live n p l.0) m)
        (λ x. then_is (resume n q x) (c-more (one-step (seq-left resumes)) seq-next) (resume-is q k.1 (program-live n q l.1) x)))
    resume-is (fin i p) k l m = (c-done, tt)
    resume-is (canrun i c) k l m = canrun-is i c m (eqb c n) refl l.1
    resume-is (at_loop i p q) k l m =
        again-is i p q m (resume n p m).fate (resume n p m) (resume n q) (resume-is p k.0 l.0 m)
        (λ x. loop-is i q q x (resume n q x).fate (resume n q x) (resume-is q k.1 (program-live n q l.1) x) (guarded q (resume n q x).tree x (resume n q x).mem (resume n q x).steps k.1 k.2))
    resume-is (at_par i o p q) k l m =
        par-is i o p q m (resume n p m).fate (resume n p m) (resume n q) (λ d. clear-calm (resume n p m).tree (c-good k.0 d)) (clear-calm q k.1) (resume-is p k.0 l.0 m) (resume-is q k.1 l.1)
