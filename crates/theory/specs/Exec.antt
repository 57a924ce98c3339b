-- A fresh tree run on states: it is the big step, and the states show the tree that is left.
use Rattle.std.specs.Prelude.{◌≡◌, Bool, true, false, List, ℕ, suc, ◌+◌, ◌≤◌, get_or, if◌then◌else◌}
use Rattle.std.proofs.Math.Path.{refl, ap, subst}
use Rattle.std.proofs.Common.{◌∙◌}
use Rattle.std.proofs.Math.Bool.{not}
use native.Mathlib.Omega.{arith}
use Rattle.rules.specs.Number.{is_zero}
use Rattle.rules.specs.Tree.{Par, Tree, act, and, at_loop, at_par, await, break, canrun, emit, every, fin, ifvar, loop, nop, or, par, seq}
use Rattle.rules.specs.Memory.{Memory, does, effect, raises, read}
use Rattle.rules.specs.Step.{clear, front, is_done}
use Rattle.theory.specs.Big.{Fate, ends, breaks, waits, rings, Out, result, later, cleared, broken_off, seq_f, loop_f, right_f, par_f}
use Rattle.theory.specs.Big as Big
use Rattle.theory.specs.Sound.{Sound, never_ends}
use Rattle.theory.specs.State.{Counted, counting, How, ended, broke, waiting, ringing, Walk, walk, exec_seq, exec_loop, after_right, exec_par, exec}
use Rattle.theory.specs.Frame.{Blank, Within, Room, Part, Stem, Fork, Laid, within-refl, within-trans, blank-same, room_within, part-blank, part-within, part_room, apart-same, set_here, set-within, set_apart, leaf-own, stem-own, stem-kept, stem-blank, body-part, body-off, fork-own, fork-blank, left-part, right-part, left-off, right-off, left-right, right-left, left-kept, right_kept}
use Rattle.theory.specs.Shows.{Shows, await-waits, emit-turn, if-left, if-right, seq-left, seq-right, loop-in, every-waits, fin-waits, par-both, and_left, and_right, par-held, shows_same}
use Rattle.theory.specs.Sweep.{sweeps}

-- a walk over t and a big step end alike: idle, or with states that show the tree that is left
pub data Ends (l : List ℕ) (t : Tree) : How → Fate → Tree → Type 0 where
  has_ended : {i : ℕ} → Blank l t → Ends l t ended ends (nop i)
  has-broken : {u : Tree} → Blank l t → Ends l t broke breaks u
  is-waiting : {u : Tree} → is_done (front u) ≡ false → Shows l t u → Ends l t waiting waits u
  is-ringing : {u : Tree} {e : ℕ} → 1 ≤ e → Shows l t u → Ends l t (ringing e) (rings e) u

-- from states l and s steps, a walk over t came to states l' and memory m: that is memory x after j steps more
pub record Came (t : Tree) (l : List ℕ) (s : ℕ) (l' : List ℕ) (m : Counted) (x : Memory) (j : ℕ) : Type 0 where
  pub within : Within t l l'
  pub memory : m.memory ≡ x
  pub steps : m.steps ≡ s + j

-- the walk w over t is the big step r
pub record Does (t : Tree) (l : List ℕ) (s : ℕ) (w : Walk Counted) (r : Out) : Type 0 where
  pub how : Ends w.states t w.how r.fate r.tree
  pub so : Came t l s w.states w.memory r.mem r.steps

-- what runs q from idle does this for any states and memory
abbrev pub Fresh : Tree → (List ℕ → Counted → Walk Counted) → (Memory → Out) → Type 0
Fresh q k g = (l : List ℕ) → Room q l → Blank l q → (m : Counted) (x : Memory) → m.memory ≡ x → Does q l m.steps (k l m) (g x)

-- ---- a part and the whole

pub part-ends : {p t u : Tree} {l : List ℕ} {h : How} {f : Fate} → (Blank l p → Blank l t) → ((v : Tree) → Shows l p v → Shows l t v) → Ends l p h f u → Ends l t h f u
part-ends a b (has_ended x) = has_ended (a x)
part-ends a b (has-broken x) = has-broken (a x)
part-ends a b (is-waiting {u = u} n x) = is-waiting n (b u x)
part-ends a b (is-ringing {u = u} n x) = is-ringing n (b u x)

pub part-does : {p t : Tree} {l : List ℕ} {s : ℕ} {w : Walk Counted} {r : Out} → Part p t → (Blank w.states p → Blank w.states t) → ((v : Tree) → Shows w.states p v → Shows w.states t v) → Does p l s w r → Does t l s w r
part-does z a b d = record { how = part-ends a b d.how; so = record { within = part-within z d.so.within; memory = d.so.memory; steps = d.so.steps } }

-- one side of a node whose other side is idle
module _ {t p q : Tree} {i : ℕ} (z : Fork t i p q) {l : List ℕ} {s : ℕ} {w : Walk Counted} {r : Out} (e : get_or l i 0 ≡ 0) where
  pub left-does : Blank l q → (get_or w.states i 0 ≡ 0 → (v : Tree) → Shows w.states p v → Blank w.states q → Shows w.states t v) → Does p l s w r → Does t l s w r
  left-does b f d =
      let h = left-kept z d.so.within ∙ e in
      let b' = blank-same (apart-same (left-right z) d.so.within) b in
      part-does (left-part z) (λ a. fork-blank z h a b') (λ v a. f h v a b') d

  pub right-does : Blank l p → (get_or w.states i 0 ≡ 0 → (v : Tree) → Blank w.states p → Shows w.states q v → Shows w.states t v) → Does q l s w r → Does t l s w r
  right-does b f d =
      let h = right_kept z d.so.within ∙ e in
      let b' = blank-same (apart-same (right-left z) d.so.within) b in
      part-does (right-part z) (fork-blank z h b') (λ v a. f h v b' a) d

-- steps, and changes within t, before
pub later-does : {t : Tree} {l l' : List ℕ} {s : ℕ} {s' : ℕ} (j : ℕ) {w : Walk Counted} {r : Out} → Within t l l' → s' ≡ s + j → Does t l' s' w r → Does t l s w (later j r)
later-does j w e d = record { how = d.how; so = record { within = within-trans w d.so.within; memory = d.so.memory; steps = omega (arith, d.so.steps) } }

-- ---- by the fate of the left

module _ {i : ℕ} {p : Tree} {l l' : List ℕ} {m : Counted} {x : Memory} {s j : ℕ} (w : Came p l s l' m x j) where
  -- a sequence
  pub seq-go : {q : Tree} (z : Fork (seq i p q) i p q) → get_or l i 0 ≡ 0 → Room q l → Blank l q → (k : List ℕ → Counted → Walk Counted) (g : Memory → Out) → Fresh q k g → {h : How} {f : Fate} {u : Tree} → Ends l' p h f u →
      Does (seq i p q) l s (exec_seq counting h (walk h l' m) k) (seq_f i f (result f u x j) q g)
  unfolding seq_f front
  seq-go z e r b k g fresh (has_ended a) =
      let b' = blank-same (apart-same (left-right z) w.within) b in
      let d = fresh l' (room_within w.within r) b' (counting.tick m) x w.memory in
      later-does (j + 1) (part-within (left-part z) w.within) (omega (arith, w.steps))
      (right-does z (left-kept z w.within ∙ e) a (λ h v. seq-right h) d)
  seq-go z e r b k g fresh (has-broken a) = record { how = has-broken (fork-blank z (left-kept z w.within ∙ e) a (blank-same (apart-same (left-right z) w.within) b)); so = record { within = part-within (left-part z) w.within; memory = w.memory; steps = omega (arith, w.steps) } }
  seq-go z e r b k g fresh (is-waiting o a) = record { how = is-waiting refl (seq-left (left-kept z w.within ∙ e) a (blank-same (apart-same (left-right z) w.within) b)); so = record { within = part-within (left-part z) w.within; memory = w.memory; steps = w.steps } }
  seq-go z e r b k g fresh (is-ringing o a) = record { how = is-ringing o (seq-left (left-kept z w.within ∙ e) a (blank-same (apart-same (left-right z) w.within) b)); so = record { within = part-within (left-part z) w.within; memory = w.memory; steps = w.steps } }

  -- the body of a fresh loop
  pub loop-go : (z : Stem (loop i p) i p) → get_or l i 0 ≡ 0 → {h : How} {f : Fate} {u : Tree} → Ends l' p h f u → (f ≡ ends → ⊥) → Does (loop i p) l s (exec_loop counting h (walk h l' m)) (loop_f i f (result f u x j) p)
  unfolding loop_f front
  loop-go z e (has_ended a) never = absurd (never refl)
  loop-go z e (has-broken a) never = record { how = has_ended (stem-blank z (stem-kept z w.within ∙ e) a); so = record { within = part-within (body-part z) w.within; memory = w.memory; steps = omega (arith, w.steps) } }
  loop-go z e (is-waiting o a) never = record { how = is-waiting refl (loop-in (stem-kept z w.within ∙ e) a); so = record { within = part-within (body-part z) w.within; memory = w.memory; steps = w.steps } }
  loop-go z e (is-ringing o a) never = record { how = is-ringing o (loop-in (stem-kept z w.within ∙ e) a); so = record { within = part-within (body-part z) w.within; memory = w.memory; steps = w.steps } }

-- after the right of an and or or, its left, p, blocked since l'
module _ {i : ℕ} {p q : Tree} {l l' l'' : List ℕ} {m : Counted} {x : Memory} {u : Tree} {s s' k' : ℕ} (j k : ℕ) (sp : Sound p) (lp : Laid p) (rp : Room p l) (w : Came q l' s' l'' m x k') (n : s' + k' ≡ s + (j + k)) where
  pub right-go : {c : Par} (z : Fork (par i c p q) i p q) → Within (par i c p q) l l' → get_or l' i 0 ≡ 0 → is_done (front u) ≡ false → Shows l' p u → {h : How} {f : Fate} {v : Tree} → Ends l'' q h f v →
      Does (par i c p q) l s (after_right counting c p h (walk h l'' m)) (right_f i c u j f (result f v x k))
  unfolding right_f cleared broken_off front
  right-go {c = and} z w' e o a (has_ended b) = record { how = is-waiting o (and_left (right_kept z w.within ∙ e) (shows_same lp (apart-same (right-left z) w.within) a) b); so = record { within = within-trans w' (part-within (right-part z) w.within); memory = w.memory; steps = omega (arith, w.steps) } }
  right-go {c = or} z w' e o a (has_ended b) =
      let w'' = within-trans w' (part-within (right-part z) w.within) in
      let d = sweeps p l'' sp lp (room_within w'' rp) (shows_same lp (apart-same (right-left z) w.within) a) (counting.tick m) x w.memory in
      record {
        how = has_ended (fork-blank z (left-kept z d.within ∙ right_kept z w.within ∙ e) d.blank (blank-same (apart-same (left-right z) d.within) b));
        so = record { within = within-trans w'' (part-within (left-part z) d.within); memory = d.memory; steps = omega (arith, d.steps, w.steps) };
      }
  right-go z w' e o a (has-broken b) =
      let w'' = within-trans w' (part-within (right-part z) w.within) in
      let d = sweeps p l'' sp lp (room_within w'' rp) (shows_same lp (apart-same (right-left z) w.within) a) (counting.tick m) x w.memory in
      record {
        how = has-broken (fork-blank z (left-kept z d.within ∙ right_kept z w.within ∙ e) d.blank (blank-same (apart-same (left-right z) d.within) b));
        so = record { within = within-trans w'' (part-within (left-part z) d.within); memory = d.memory; steps = omega (arith, d.steps, w.steps) };
      }
  right-go z w' e o a (is-waiting y b) = record { how = is-waiting refl (par-both (right_kept z w.within ∙ e) (shows_same lp (apart-same (right-left z) w.within) a) b); so = record { within = within-trans w' (part-within (right-part z) w.within); memory = w.memory; steps = omega (arith, w.steps) } }
  right-go z w' e o a (is-ringing y b) = record { how = is-ringing y (par-both (right_kept z w.within ∙ e) (shows_same lp (apart-same (right-left z) w.within) a) b); so = record { within = within-trans w' (part-within (right-part z) w.within); memory = w.memory; steps = omega (arith, w.steps) } }

-- a fresh and or or, by the fate of its left
module _ {i : ℕ} {p q : Tree} {l l' : List ℕ} {m : Counted} {x : Memory} {s j : ℕ} (w : Came p l s l' m x j) where
  par-go : (t v : ℕ) → t ≡ v + 3 → {c : Par} (z : Fork (par i c p q) i p q) → Sound p → Laid p → Room (par i c p q) l → get_or l i 0 ≡ 0 → Blank l q → (k : List ℕ → Counted → Walk Counted) (g : Memory → Out) → Fresh q k g →
      {h : How} {f : Fate} {u : Tree} → Ends l' p h f u → Does (par i c p q) l s (exec_par counting t i c p h (walk h l' m) k) (par_f i c f (result f u x j) (seq i (canrun i v) q) (λ x'. later 2 (g x')))
  unfolding par_f cleared broken_off clear Big.settle
  par-go t v tv {c = and} z sp lp r e b k g fresh (has_ended a) =
      let d = fresh l' (room_within w.within (part_room (right-part z) r)) (blank-same (apart-same (left-right z) w.within) b) (counting.tick (counting.tick (counting.tick m))) x w.memory in
      later-does {s' = s + (j + 1)} (j + 1) (part-within (left-part z) w.within) (omega arith)
      (later-does 2 within-refl (omega (arith, w.steps))
      (right-does z (left-kept z w.within ∙ e) a (λ h v. and_right h) d))
  par-go t v tv {c = or} z sp lp r e b k g fresh (has_ended a) = record { how = has_ended (fork-blank z (left-kept z w.within ∙ e) a (blank-same (apart-same (left-right z) w.within) b)); so = record { within = part-within (left-part z) w.within; memory = w.memory; steps = omega (arith, w.steps) } }
  par-go t v tv z sp lp r e b k g fresh (has-broken a) = record { how = has-broken (fork-blank z (left-kept z w.within ∙ e) a (blank-same (apart-same (left-right z) w.within) b)); so = record { within = part-within (left-part z) w.within; memory = w.memory; steps = omega (arith, w.steps) } }
  par-go t v tv {c = c} z sp lp r e b k g fresh (is-waiting o a) =
      let d = fresh l' (room_within w.within (part_room (right-part z) r)) (blank-same (apart-same (left-right z) w.within) b) (counting.tick (counting.tick m)) x w.memory in
      right-go j (2 + (g x).steps) sp lp (part_room (left-part z) r) d.so (omega (arith, w.steps)) z (part-within (left-part z) w.within) (left-kept z w.within ∙ e) o a d.how
  par-go t v tv z sp lp r e b k g fresh (is-ringing o a) = record {
    how = is-ringing o (par-held (set_here l' i t (omega (arith, r.fits, z.own-place, z.own-span, w.within.long)) ∙ tv) (shows_same lp (set_apart l' i t (left-off z)) a) (blank-same (set_apart l' i t (right-off z)) (blank-same (apart-same (left-right z) w.within) b)));
    so = record { within = within-trans (part-within (left-part z) w.within) (set-within l' i t (fork-own z)); memory = w.memory; steps = w.steps };
  }

if-go : {t : Tree} {l : List ℕ} {s : ℕ} (b : Bool) {w w' : Walk Counted} {r r' : Out} → Does t l (suc s) w r → Does t l (suc s) w' r' → Does t l s (if not b then w else w') (later 1 (if b then r' else r))
if-go true d d' = later-does 1 within-refl (omega arith) d'
if-go false d d' = later-does 1 within-refl (omega arith) d

-- ---- the theorem

module _ (t v : ℕ) (tv : t ≡ v + 3) (lv : 1 ≤ v) where
  pub execs : (a : Tree) → Sound a → Laid a → Fresh a (exec counting t a) (Big.resume v a)
  unfolding exec Big.resume Sound Laid front
  execs (nop i) k z l r b m x e = record { how = has_ended b; so = record { within = within-refl; memory = e; steps = omega arith } }
  execs (act i a u c) k z l r b m x e = record { how = has_ended b; so = record { within = within-refl; memory = ap (effect (does a u c)) e; steps = omega arith } }
  execs (await i s u) k z l r b m x e = record { how = is-waiting refl (await-waits (set_here l i 1 (omega (arith, r.fits, z.own-place, z.own-span)))); so = record { within = set-within l i 1 (leaf-own z); memory = e; steps = omega arith } }
  execs (emit i u y) k z l r b m x e = record { how = is-ringing k (emit-turn (set_here l i t (omega (arith, r.fits, z.own-place, z.own-span)) ∙ tv)); so = record { within = set-within l i t (leaf-own z); memory = ap (effect (raises u y)) e; steps = omega arith } }
  execs (break i) k z l r b m x e = record { how = has-broken b; so = record { within = within-refl; memory = e; steps = omega arith } }
  execs (ifvar i u p q) k z l r b m x e =
      let h = b.zero-at i (fork-own z.0) in
      let bp = part-blank (left-part z.0) b in
      let bq = part-blank (right-part z.0) b in
      let d = execs p k.0 z.1 l (part_room (left-part z.0) r) bp (counting.tick m) m.memory refl in
      let f = execs q k.1 z.2 l (part_room (right-part z.0) r) bq (counting.tick m) m.memory refl in
      subst (λ (y : Memory). Does (ifvar i u p q) l m.steps (if not (is_zero (read m.memory u)) then exec counting t p l (counting.tick m) else exec counting t q l (counting.tick m)) (later 1 (if is_zero (read y u) then Big.resume v q y else Big.resume v p y))) e
      (if-go (is_zero (read m.memory u)) (left-does z.0 h bq (λ a v. if-left a) d) (right-does z.0 h bp (λ a v. if-right a) f))
  execs (seq i p q) k z l r b m x e =
      let d = execs p k.0 z.1 l (part_room (left-part z.0) r) (part-blank (left-part z.0) b) m x e in
      seq-go d.so z.0 (b.zero-at i (fork-own z.0)) (part_room (right-part z.0) r) (part-blank (right-part z.0) b) (exec counting t q) (Big.resume v q) (execs q k.1 z.2) d.how
  execs (loop i p) k z l r b m x e =
      let d = execs p k.1 z.1 l (part_room (body-part z.0) r) (part-blank (body-part z.0) b) (counting.tick m) x e in
      later-does 1 within-refl (omega arith) (loop-go d.so z.0 (b.zero-at i (stem-own z.0)) d.how (never_ends v lv p k.0 k.1 x))
  execs (every i s u p) k z l r b m x e = record { how = is-waiting refl (every-waits (set_here l i 1 (omega (arith, r.fits, z.0.own-place, z.0.own-span))) (blank-same (set_apart l i 1 (body-off z.0)) (part-blank (body-part z.0) b))); so = record { within = set-within l i 1 (stem-own z.0); memory = e; steps = omega arith } }
  execs (par i c p q) k z l r b m x e =
      let d = execs p k.0 z.1 l (part_room (left-part z.0) r) (part-blank (left-part z.0) b) (counting.tick m) x e in
      later-does 1 within-refl (omega arith)
      (par-go d.so t v tv z.0 k.0 z.1 r (b.zero-at i (fork-own z.0)) (part-blank (right-part z.0) b) (exec counting t q) (Big.resume v q) (execs q k.1 z.2) d.how)
  execs (fin i p) k z l r b m x e = record { how = is-waiting refl (fin-waits (set_here l i 1 (omega (arith, r.fits, z.0.own-place, z.0.own-span))) (blank-same (set_apart l i 1 (body-off z.0)) (part-blank (body-part z.0) b))); so = record { within = set-within l i 1 (stem-own z.0); memory = e; steps = omega arith } }
  execs (canrun i c) k z l r b m x e = absurd k
  execs (at_loop i p q) k z l r b m x e = absurd k
  execs (at_par i c p q) k z l r b m x e = absurd k
