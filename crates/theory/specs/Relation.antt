-- The rules inside a tree, each as a rule of a relation; the published `nested_step` is that relation, so at most one fits.
use Rattle.std.specs.Prelude.{◌≡◌, Bool, ℕ, eqb, ℤ, if◌then◌else◌}
use Rattle.std.proofs.Math.Path.{refl}
use Rattle.std.proofs.Common.{sym, subst, ◌∙◌, eqb-true, eq-eqb}
use Rattle.std.proofs.Math.Bool.{true, false}
use Rattle.std.proofs.Math.Dec.{T}
use Rattle.rules.specs.Number.{is_zero}
use Rattle.rules.specs.Tree.{Act, Par, Tree, act, at_loop, at_par, await, break, canrun, emit, every, fin, ifvar, loop, nop, par, seq}
use Rattle.rules.specs.Memory.{Deed, Memory, does, quiet, raises, read}
use Rattle.rules.specs.Step.{Front, Nested, blocked, broken, clear, done, front, going, in_part, loop_step, moved, nested_step, other_side, par_step, right_step, seq_step, stuck}
use Rattle.theory.specs.Logic.{clash, T→true}
use Rattle.theory.specs.Program.{Seen, is-nop, is-brk, seen}
use Rattle.theory.specs.Blocked.{blocked-going, blocked-stuck}

-- at level n and with memory x a tree becomes another, with what this does to the memory
pub data Goes (n : ℕ) (x : Memory) : Tree → Deed → Tree → Type 0 where
  acts : {i v : ℕ} {a : Act} {k : ℤ} → Goes n x (act i a v k) (does a v k) (nop i)
  emits : {i e : ℕ} {y : ℤ} → Goes n x (emit i e y) (raises e y) (canrun i n)
  resumes : {i : ℕ} → Goes n x (canrun i n) quiet (nop i)
  chooses : {i v : ℕ} {p q : Tree} → Goes n x (ifvar i v p q) quiet (if is_zero (read x v) then q else p)
  -- sequence
  seq-next : {i j : ℕ} {q : Tree} → Goes n x (seq i (nop j) q) quiet q
  seq-break : {i b : ℕ} {q : Tree} → Goes n x (seq i (break b) q) quiet (break b)
  seq-left : {i : ℕ} {p p' q : Tree} {w : Deed} → Goes n x p w p' → Goes n x (seq i p q) w (seq i p' q)
  -- loop
  loop-in : {i : ℕ} {p : Tree} → Goes n x (loop i p) quiet (at_loop i p p)
  loop-again : {i j : ℕ} {q : Tree} → Goes n x (at_loop i (nop j) q) quiet (loop i q)
  loop-out : {i b : ℕ} {q : Tree} → Goes n x (at_loop i (break b) q) quiet (nop i)
  loop-left : {i : ℕ} {p p' q : Tree} {w : Deed} → Goes n x p w p' → Goes n x (at_loop i p q) w (at_loop i p' q)
  -- and, or
  par-in : {i : ℕ} {o : Par} {p q : Tree} → Goes n x (par i o p q) quiet (at_par i o p (seq i (canrun i n) q))
  par-done : {i j : ℕ} {o : Par} {q : Tree} → Goes n x (at_par i o (nop j) q) quiet (other_side o q)
  par-break : {i b : ℕ} {o : Par} {q : Tree} → Goes n x (at_par i o (break b) q) quiet (seq i (clear q) (break b))
  par-left : {i : ℕ} {o : Par} {p p' q : Tree} {w : Deed} → Goes n x p w p' → Goes n x (at_par i o p q) w (at_par i o p' q)
  par-done-right : {i j : ℕ} {o : Par} {p : Tree} → T (blocked n p) → Goes n x (at_par i o p (nop j)) quiet (other_side o p)
  par-break-right : {i b : ℕ} {o : Par} {p : Tree} → T (blocked n p) → Goes n x (at_par i o p (break b)) quiet (seq i (clear p) (break b))
  par-right : {i : ℕ} {o : Par} {p q q' : Tree} {w : Deed} → T (blocked n p) → Goes n x q w q' → Goes n x (at_par i o p q) w (at_par i o p q')

-- the function's answer is a step of the relation
abbrev pub Is : ℕ → Memory → Tree → Nested → Type 0
Is n x t stuck = Unit {0}
Is n x t (moved w t') = Goes n x t w t'

module _ (n : ℕ) (x : Memory) where
  seq-is : (i : ℕ) (p q : Tree) (f : Front) (r : Nested) → Seen p f → Is n x p r → Is n x (seq i p q) (seq_step i f q r)
  unfolding seq_step in_part
  seq-is i p q done r is-nop h = seq-next
  seq-is i p q (broken b) r is-brk h = seq-break
  seq-is i p q going stuck z h = tt
  seq-is i p q going (moved w p') z h = seq-left h

  loop-is : (i : ℕ) (p q : Tree) (f : Front) (r : Nested) → Seen p f → Is n x p r → Is n x (at_loop i p q) (loop_step i f q r)
  unfolding loop_step in_part
  loop-is i p q done r is-nop h = loop-again
  loop-is i p q (broken b) r is-brk h = loop-out
  loop-is i p q going stuck z h = tt
  loop-is i p q going (moved w p') z h = loop-left h

  right_is : (i : ℕ) (o : Par) (p q : Tree) (f : Front) (r : Nested) → T (blocked n p) → Seen q f → Is n x q r → Is n x (at_par i o p q) (right_step i o p f r)
  unfolding right_step in_part
  right_is i o p q done r b is-nop h = par-done-right b
  right_is i o p q (broken k) r b is-brk h = par-break-right b
  right_is i o p q going stuck b z h = tt
  right_is i o p q going (moved w q') b z h = par-right b h

  par-is : (i : ℕ) (o : Par) (p q : Tree) (f : Front) (c : Bool) (r r' : Nested) → blocked n p ≡ c → Seen p f → Is n x p r → Is n x q r' → Is n x (at_par i o p q) (par_step i o p q f c r r')
  unfolding par_step in_part
  par-is i o p q done c r r' b is-nop h k = par-done
  par-is i o p q (broken j) c r r' b is-brk h k = par-break
  par-is i o p q going false stuck r' b z h k = tt
  par-is i o p q going false (moved w p') r' b z h k = par-left h
  par-is i o p q going true r r' b z h k = right_is i o p q (front q) r' (subst T (sym b) tt) (seen q) k

  canrun-is : (i m : ℕ) (c : Bool) → eqb m n ≡ c → Is n x (canrun i m) (if c then moved quiet (nop i) else stuck)
  canrun-is i m true e = rw (eqb-true m n e) resumes
  canrun-is i m false e = tt

  pub is-step : (t : Tree) → Is n x t (nested_step n x t)
  unfolding nested_step
  is-step (nop i) = tt
  is-step (act i a v k) = acts
  is-step (await i s e) = tt
  is-step (emit i e y) = emits
  is-step (break i) = tt
  is-step (ifvar i v p q) = chooses
  is-step (seq i p q) = seq-is i p q (front p) (nested_step n x p) (seen p) (is-step p)
  is-step (loop i p) = loop-in
  is-step (every i s e p) = tt
  is-step (par i o p q) = par-in
  is-step (fin i p) = tt
  is-step (canrun i m) = canrun-is i m (eqb m n) refl
  is-step (at_loop i p q) = loop-is i p q (front p) (nested_step n x p) (seen p) (is-step p)
  is-step (at_par i o p q) = par-is i o p q (front p) (blocked n p) (nested_step n x p) (nested_step n x q) refl (seen p) (is-step p) (is-step q)

  -- and each step of the relation is the function's answer
  pub goes-going : {t t' : Tree} {w : Deed} → Goes n x t w t' → front t ≡ going
  unfolding front
  goes-going acts = refl
  goes-going emits = refl
  goes-going resumes = refl
  goes-going chooses = refl
  goes-going seq-next = refl
  goes-going seq-break = refl
  goes-going (seq-left h) = refl
  goes-going loop-in = refl
  goes-going loop-again = refl
  goes-going loop-out = refl
  goes-going (loop-left h) = refl
  goes-going par-in = refl
  goes-going par-done = refl
  goes-going par-break = refl
  goes-going (par-left h) = refl
  goes-going (par-done-right b) = refl
  goes-going (par-break-right b) = refl
  goes-going (par-right b h) = refl

  pub not-blocked : (t : Tree) {t' : Tree} {w : Deed} → nested_step n x t ≡ moved w t' → blocked n t ≡ false
  not-blocked t h = go (blocked n t) refl
    where
      go : (b : Bool) → blocked n t ≡ b → blocked n t ≡ false
      go true e =
          let y : moved _ _ ≡ stuck = sym h ∙ blocked-stuck n x t (subst T (sym e) tt) in
          clash (cc)
      go false e = e

  pub goes-nest : {t t' : Tree} {w : Deed} → Goes n x t w t' → nested_step n x t ≡ moved w t'
  unfolding nested_step front seq_step loop_step par_step right_step in_part
  goes-nest acts = refl
  goes-nest emits = refl
  goes-nest (resumes {i = i}) = rw (eq-eqb n n refl)
  goes-nest chooses = refl
  goes-nest seq-next = refl
  goes-nest seq-break = refl
  goes-nest (seq-left h) = rw (goes-going h, goes-nest h)
  goes-nest loop-in = refl
  goes-nest loop-again = refl
  goes-nest loop-out = refl
  goes-nest (loop-left h) = rw (goes-going h, goes-nest h)
  goes-nest par-in = refl
  goes-nest par-done = refl
  goes-nest par-break = refl
  goes-nest (par-left {p = p} h) = rw (goes-going h, not-blocked p (goes-nest h), goes-nest h)
  goes-nest (par-done-right {p = p} b) = rw (blocked-going n p b, T→true (blocked n p) b)
  goes-nest (par-break-right {p = p} b) = rw (blocked-going n p b, T→true (blocked n p) b)
  goes-nest (par-right {p = p} b h) = rw (blocked-going n p b, T→true (blocked n p) b, goes-going h, goes-nest h)

  -- at most one rule fits
  pub one-rule : {t u v : Tree} {w w' : Deed} → Goes n x t w u → Goes n x t w' v → moved w u ≡ moved w' v
  one-rule g h = sym (goes-nest g) ∙ goes-nest h
