-- A tree that has begun, resumed on states: it is the big step of the tree shown.
use Rattle.std.specs.Prelude.{◌≡◌, Bool, List, ℕ, ◌+◌, ◌≤◌, eqb, T, ℤ, get_or, set, if◌then◌else◌}
use Rattle.std.proofs.Math.Path.{refl}
use Rattle.std.proofs.Common.{sym, subst, ◌∙◌, eqb→eq}
use Rattle.std.proofs.Math.Bool.{true, false}
use native.Mathlib.Omega.{arith}
use borrow.Author.Tests.{eq-eqb, ne_eqb, eqb-false}
use Rattle.rules.specs.Tree.{Par, Source, Tree, act, and, at_loop, at_par, await, break, canrun, emit, every, fin, ifvar, loop, nop, or, par, seq}
use Rattle.rules.specs.Memory.{Memory}
use Rattle.rules.specs.Step.{clear, front, is_done}
use Rattle.theory.specs.Big.{Fate, ends, waits, Out, result, later, Calmed, cleared, broken_off, seq_f, again_f, right_f, par_f}
use Rattle.theory.specs.Big as Big
use Rattle.theory.specs.Sound.{Sound, never_ends, settled, resume-calm}
use Rattle.theory.specs.State.{Ops, Counted, counting, How, idle, ended, waiting, Walk, walk, Swept, Then, settle, exec_seq, then_right, exec, resume_if, resume_seq, resume_loop, right_alone, resume_both, resume_held, resume}
use Rattle.theory.specs.Frame.{Blank, Within, Room, Leaf, Stem, Fork, Laid, within-refl, within-trans, blank-same, room_within, part-blank, part-within, part_room, apart-same, set_here, set-within, set_apart, leaf-own, stem-own, stem-kept, stem-blank, body-part, body-off, fork-own, fork-blank, left-part, right-part, left-off, right-off, left-right, right-left, left-kept, right_kept}
use Rattle.theory.specs.Shows.{Shows, await-waits, await-woken, emit-turn, if-left, if-right, seq-left, seq-right, loop-in, every-waits, every-woken, fin-waits, par-both, and_left, and_right, par-held, and-turn, shows_same}
use Rattle.theory.specs.Sweep.{Clears, Settles, settles, sweeps, idle-sweep, leaf-off, no_zero}
use Rattle.theory.specs.Exec.{Ends, has_ended, has-broken, is-waiting, is-ringing, Came, Does, Fresh, left-does, right-does, later-does, seq-go, loop-go, right-go, execs}

-- ---- nothing lives

module _ {M : Type 0} (o : Ops M) (n : ℕ) where
  pub idle-resume : (t : Tree) (l : List ℕ) (m : M) → Laid t → Blank l t → resume o n t l m ≡ walk idle l m
  unfolding resume Laid
  idle-resume (nop i) l m z b = refl
  idle-resume (act i a v k) l m z b = refl
  idle-resume (await i s e) l m z b = rw (b.zero-at i (leaf-own z))
  idle-resume (emit i e y) l m z b = rw (b.zero-at i (leaf-own z))
  idle-resume (break i) l m z b = refl
  idle-resume (ifvar i v p q) l m z b = rw (idle-resume p l m z.1 (part-blank (left-part z.0) b)) (idle-resume q l m z.2 (part-blank (right-part z.0) b))
  idle-resume (seq i p q) l m z b = rw (idle-resume p l m z.1 (part-blank (left-part z.0) b)) (idle-resume q l m z.2 (part-blank (right-part z.0) b))
  idle-resume (loop i p) l m z b = rw (idle-resume p l m z.1 (part-blank (body-part z.0) b))
  idle-resume (every i s e p) l m z b = rw (b.zero-at i (stem-own z.0))
  idle-resume (par i c p q) l m z b = rw (b.zero-at i (fork-own z.0), idle-resume p l m z.1 (part-blank (left-part z.0) b)) (idle-resume q l m z.2 (part-blank (right-part z.0) b))
  idle-resume (fin i p) l m z b = rw (b.zero-at i (stem-own z.0))
  idle-resume (canrun i k) l m z b = absurd z
  idle-resume (at_loop i p q) l m z b = absurd z
  idle-resume (at_par i c p q) l m z b = absurd z

  -- a live left hides the right
  same_if : {l : List ℕ} {t u : Tree} {h : How} {f : Fate} (m : M) (k : Then M) → Ends l t h f u → resume_if o h (walk h l m) k ≡ walk h l m
  same_if m k (has_ended a) = refl
  same_if m k (has-broken a) = refl
  same_if m k (is-waiting o a) = refl
  same_if m k (is-ringing o a) = refl

  same-seq : {l : List ℕ} {t u : Tree} {h : How} {f : Fate} (m : M) (k x : Then M) → Ends l t h f u → resume_seq o h (walk h l m) k x ≡ exec_seq o h (walk h l m) x
  same-seq m k x (has_ended a) = refl
  same-seq m k x (has-broken a) = refl
  same-seq m k x (is-waiting o a) = refl
  same-seq m k x (is-ringing o a) = refl

  -- the left of an and whose right has ended
  same_left : {l : List ℕ} {p q u : Tree} {h : How} {f : Fate} (m : M) → Laid q → Blank l q → Ends l p h f u → resume_both o and p q h (walk h l m) (resume o n q) ≡ walk h l m
  same_left {l = l} {q = q} m z b (has_ended a) = rw (idle-resume q l m z b)
  same_left {l = l} {q = q} m z b (has-broken a) = rw (idle-sweep o q l m z b)
  same_left {l = l} {q = q} m z b (is-waiting o a) = rw (idle-resume q l m z b)
  same_left m z b (is-ringing o a) = refl

-- ---- by the fate of the left

pub since-does : {t : Tree} {l l' : List ℕ} {s : ℕ} {w : Walk Counted} {r : Out} → Within t l l' → Does t l' s w r → Does t l s w r
since-does w d = record { how = d.how; so = record { within = within-trans w d.so.within; memory = d.so.memory; steps = d.so.steps } }

-- a live loop; `fresh` begins its body
again-go : {i : ℕ} {p : Tree} {l l' : List ℕ} {m : Counted} {x : Memory} {s j : ℕ} (w : Came p l s l' m x j) (z : Stem (loop i p) i p) → get_or l i 0 ≡ 0 → Room p l → (k : List ℕ → Counted → Walk Counted) (g : Memory → Out) → Fresh p k g → ((x : Memory) → (g x).fate ≡ ends → ⊥) →
    {h : How} {f : Fate} {u : Tree} → Ends l' p h f u → Does (loop i p) l s (resume_loop counting h (walk h l' m) k) (again_f i f (result f u x j) p g)
unfolding again_f front
again-go {l' = l'} {m = m} {x = x} {j = j} w z e r k g fresh never (has_ended a) =
    let d = fresh l' (room_within w.within r) a (counting.tick (counting.tick m)) x w.memory in
    later-does (j + 2) (part-within (body-part z) w.within) (omega (arith, w.steps)) (loop-go d.so z (stem-kept z w.within ∙ e) d.how (never x))
again-go w z e r k g fresh never (has-broken a) = record { how = has_ended (stem-blank z (stem-kept z w.within ∙ e) a); so = record { within = part-within (body-part z) w.within; memory = w.memory; steps = omega (arith, w.steps) } }
again-go w z e r k g fresh never (is-waiting o a) = record { how = is-waiting refl (loop-in (stem-kept z w.within ∙ e) a); so = record { within = part-within (body-part z) w.within; memory = w.memory; steps = w.steps } }
again-go w z e r k g fresh never (is-ringing o a) = record { how = is-ringing o (loop-in (stem-kept z w.within ∙ e) a); so = record { within = part-within (body-part z) w.within; memory = w.memory; steps = w.steps } }

-- the left of an and ended after j steps, and the right ran
alone-go : {q : Tree} {l l' : List ℕ} {m : Counted} {x : Memory} {s s' k : ℕ} (j : ℕ) → Came q l s' l' m x k → s' ≡ s + j → {h : How} {f : Fate} {u : Tree} → Ends l' q h f u → Does q l s (right_alone counting h (walk h l' m)) (later (j + 1) (result f u x k))
alone-go j w e (has_ended a) = record { how = has_ended a; so = record { within = w.within; memory = w.memory; steps = omega (arith, w.steps) } }
alone-go j w e (has-broken a) = record { how = has-broken a; so = record { within = w.within; memory = w.memory; steps = omega (arith, w.steps) } }
alone-go j w e (is-waiting o a) = record { how = is-waiting o a; so = record { within = w.within; memory = w.memory; steps = omega (arith, w.steps) } }
alone-go j w e (is-ringing o a) = record { how = is-ringing o a; so = record { within = w.within; memory = w.memory; steps = omega (arith, w.steps) } }

-- what resumes q while it shows the tree b does this for any states and memory
abbrev pub Going : Tree → Tree → (List ℕ → Counted → Walk Counted) → (Memory → Out) → Type 0
Going q b k g = (l : List ℕ) → Room q l → Shows l q b → (m : Counted) (x : Memory) → m.memory ≡ x → Does q l m.steps (k l m) (g x)

-- the right of an and or or, cleared
cut-go : {t p q : Tree} {i : ℕ} (z : Fork t i p q) {l l' : List ℕ} {s : ℕ} {v : Swept Counted} {c : Calmed} → Within t l l' → get_or l' i 0 ≡ 0 → Blank l' p → Clears q l' s v c → (Blank v.states t) × Within t l v.states
cut-go z w e a d = (fork-blank z (right_kept z d.within ∙ e) (blank-same (apart-same (right-left z) d.within) a) d.blank, within-trans w (part-within (right-part z) d.within))

-- a live and or or
module _ {i : ℕ} {p q : Tree} {l l' : List ℕ} {m : Counted} {x : Memory} {s j : ℕ} (sp : Sound p) (lp : Laid p) (sq : Sound q) (lq : Laid q) (w : Came p l s l' m x j) where
  -- the right lives too, and shows b
  both_go : {c : Par} {b : Tree} (z : Fork (par i c p q) i p q) → Room (par i c p q) l → get_or l i 0 ≡ 0 → Shows l q b → (k : List ℕ → Counted → Walk Counted) (g : Memory → Out) → Going q b k g →
      {h : How} {f : Fate} {u : Tree} → Ends l' p h f u → Does (par i c p q) l s (resume_both counting c p q h (walk h l' m) k) (par_f i c f (result f u x j) b g)
  unfolding par_f cleared broken_off
  both_go {c = and} {b = b} z r e y k g going (has_ended a) =
      let d = going l' (room_within w.within (part_room (right-part z) r)) (shows_same lq (apart-same (left-right z) w.within) y) m x w.memory in
      since-does (part-within (left-part z) w.within) (right-does z (left-kept z w.within ∙ e) a (λ h v. and_right h) (alone-go j d.so w.steps d.how))
  both_go {c = or} {b = b} z r e y k g going (has_ended a) =
      let d = sweeps q l' sq lq (room_within w.within (part_room (right-part z) r)) (shows_same lq (apart-same (left-right z) w.within) y) m x w.memory in
      let f = cut-go z (part-within (left-part z) w.within) (left-kept z w.within ∙ e) a d in
      rw d.lived record { how = has_ended f.0; so = record { within = f.1; memory = d.memory; steps = omega (arith, d.steps, w.steps) } }
  both_go {b = b} z r e y k g going (has-broken a) =
      let d = sweeps q l' sq lq (room_within w.within (part_room (right-part z) r)) (shows_same lq (apart-same (left-right z) w.within) y) m x w.memory in
      let f = cut-go z (part-within (left-part z) w.within) (left-kept z w.within ∙ e) a d in
      rw d.lived record { how = has-broken f.0; so = record { within = f.1; memory = d.memory; steps = omega (arith, d.steps, w.steps) } }
  both_go z r e y k g going (is-waiting o a) =
      let d = going l' (room_within w.within (part_room (right-part z) r)) (shows_same lq (apart-same (left-right z) w.within) y) m x w.memory in
      right-go j (g x).steps sp lp (part_room (left-part z) r) d.so (omega (arith, w.steps)) z (part-within (left-part z) w.within) (left-kept z w.within ∙ e) o a d.how
  both_go z r e y k g going (is-ringing o a) = record { how = is-ringing o (par-both (left-kept z w.within ∙ e) a (shows_same lq (apart-same (left-right z) w.within) y)); so = record { within = part-within (left-part z) w.within; memory = w.memory; steps = w.steps } }

-- ---- turns

turn-eq : (y k t v : ℕ) → y ≡ k + 3 → t ≡ v + 3 → eqb y t ≡ eqb k v
turn-eq y k t v e f = go (eqb k v) refl
  where
    go : (b : Bool) → eqb k v ≡ b → eqb y t ≡ b
    go true h = eq-eqb y t (let g : k ≡ v = eqb→eq k v (subst T (sym h) tt) in omega arith)
    go false h = ne_eqb y t (λ g. eqb-false k v h (omega arith))

-- the turn is dropped
held-off : {t p q : Tree} {i : ℕ} (z : Fork t i p q) {l l' : List ℕ} → Room t l → Within p l l' → Blank l' p → Blank l q → Blank (set l' i 0) t
held-off {i = i} z {l = l} {l' = l'} r w a b =
    fork-blank z (set_here l' i 0 (omega (arith, r.fits, z.own-place, z.own-span, w.long))) (blank-same (set_apart l' i 0 (left-off z)) a) (blank-same (set_apart l' i 0 (right-off z)) (blank-same (apart-same (left-right z) w) b))

-- the big step of a turn and what follows it: taken, or not yet
abbrev turn_b : ℕ → ℕ → Bool → Tree → (Memory → Out) → Memory → Out
turn_b i k b q g x = let o = if b then result ends (nop i) x 1 else result waits (canrun i k) x 0 in seq_f i o.fate o q g

module _ {i : ℕ} {p q : Tree} (t k : ℕ) (kq : List ℕ → Counted → Walk Counted) (g : Memory → Out) (fresh : Fresh q kq g) where
  -- the right of an and alone
  turn-go : (z : Fork (par i and p q) i p q) {l : List ℕ} {m : Counted} {x : Memory} → Room (par i and p q) l → get_or l i 0 ≡ k + 3 → Blank l p → Blank l q → m.memory ≡ x → (b : Bool) →
      Does (par i and p q) l m.steps (if b then kq (set l i 0) (counting.tick (counting.tick m)) else walk waiting l m) (turn_b i k b q g x)
  unfolding seq_f front
  turn-go z {l = l} {m = m} {x = x} r e a b y true =
      let d = fresh (set l i 0) (room_within (set-within l i 0 (fork-own z)) (part_room (right-part z) r)) (blank-same (set_apart l i 0 (right-off z)) b) (counting.tick (counting.tick m)) x y in
      later-does (1 + 1) (set-within l i 0 (fork-own z)) (omega arith)
      (right-does z (set_here l i 0 (omega (arith, r.fits, z.own-place, z.own-span))) (blank-same (set_apart l i 0 (left-off z)) a) (λ h v. and_right h) d)
  turn-go z r e a b y false = record { how = is-waiting refl (and-turn e a b); so = record { within = within-refl; memory = y; steps = omega arith } }

  -- the left, p, is blocked since l'
  turn-right : {c : Par} (z : Fork (par i c p q) i p q) → Sound p → Laid p → {l l' : List ℕ} {m : Counted} {x : Memory} {u : Tree} {s : ℕ} (j : ℕ) → Room (par i c p q) l → Within p l l' → get_or l' i 0 ≡ k + 3 → is_done (front u) ≡ false → Shows l' p u → Blank l' q → m.memory ≡ x → m.steps ≡ s + j → (b : Bool) →
      Does (par i c p q) l s (then_right counting c p (if b then kq (set l' i 0) (counting.tick (counting.tick m)) else walk waiting l' m)) (right_f i c u j (turn_b i k b q g x).fate (turn_b i k b q g x))
  unfolding seq_f right_f front
  turn-right z sp lp {l = l} {l' = l'} {m = m} {x = x} j r w e o a b y n true =
      let d = fresh (set l' i 0) (room_within (set-within l' i 0 (fork-own z)) (room_within w (part_room (right-part z) r))) (blank-same (set_apart l' i 0 (right-off z)) b) (counting.tick (counting.tick m)) x y in
      right-go j (1 + 1 + (g x).steps) sp lp (part_room (left-part z) r) d.so (omega arith) z (within-trans (part-within (left-part z) w) (set-within l' i 0 (fork-own z))) (set_here l' i 0 (omega (arith, r.fits, z.own-place, z.own-span, w.long))) o (shows_same lp (set_apart l' i 0 (left-off z)) a) d.how
  turn-right z sp lp j r w e o a b y n false = record { how = is-waiting refl (par-held e a b); so = record { within = part-within (left-part z) w; memory = y; steps = omega arith } }

  -- an and or or that waits for its turn, by the fate of its left
  held-go : {c : Par} (z : Fork (par i c p q) i p q) → Sound p → Laid p → {l l' : List ℕ} {m : Counted} {x : Memory} {s j : ℕ} (w : Came p l s l' m x j) → Room (par i c p q) l → get_or l i 0 ≡ k + 3 → Blank l q → (v : ℕ) → t ≡ v + 3 →
      {h : How} {f : Fate} {u : Tree} → Ends l' p h f u → Does (par i c p q) l s (resume_held counting t i c p h (walk h l' m) kq) (par_f i c f (result f u x j) (seq i (canrun i k) q) (turn_b i k (eqb k v) q g))
  unfolding par_f cleared broken_off clear Big.settle
  held-go {c = and} z sp lp {l = l} {l' = l'} {m = m} {x = x} {j = j} w r e b v tv (has_ended a) =
      rw (turn-eq (get_or l' i 0) k t v (left-kept z w.within ∙ e) tv)
      (later-does (j + 1) (part-within (left-part z) w.within) (omega (arith, w.steps))
      (turn-go z (room_within w.within r) (left-kept z w.within ∙ e) a (blank-same (apart-same (left-right z) w.within) b) w.memory (eqb k v)))
  held-go {c = or} z sp lp {l' = l'} w r e b v tv (has_ended a) = record { how = has_ended (held-off z r w.within a b); so = record { within = within-trans (part-within (left-part z) w.within) (set-within l' i 0 (fork-own z)); memory = w.memory; steps = omega (arith, w.steps) } }
  held-go z sp lp {l' = l'} w r e b v tv (has-broken a) = record { how = has-broken (held-off z r w.within a b); so = record { within = within-trans (part-within (left-part z) w.within) (set-within l' i 0 (fork-own z)); memory = w.memory; steps = omega (arith, w.steps) } }
  held-go z sp lp {l = l} {l' = l'} {m = m} {x = x} {j = j} w r e b v tv (is-waiting o a) =
      rw (turn-eq (get_or l' i 0) k t v (left-kept z w.within ∙ e) tv)
      (turn-right z sp lp j r w.within (left-kept z w.within ∙ e) o a (blank-same (apart-same (left-right z) w.within) b) w.memory w.steps (eqb k v))
  held-go z sp lp {l' = l'} w r e b v tv (is-ringing o a) = record { how = is-ringing o (par-held (left-kept z w.within ∙ e) a (blank-same (apart-same (left-right z) w.within) b)); so = record { within = part-within (left-part z) w.within; memory = w.memory; steps = w.steps } }

-- ---- the theorem

stays : {t u : Tree} {l : List ℕ} {m : Counted} {x : Memory} → m.memory ≡ x → is_done (front u) ≡ false → Shows l t u → Does t l m.steps (walk waiting l m) (result waits u x 0)
stays e o a = record { how = is-waiting o a; so = record { within = within-refl; memory = e; steps = omega arith } }

emit-go : {i e : ℕ} {y : ℤ} {l : List ℕ} {m : Counted} {x : Memory} (k : ℕ) (b : Bool) → Leaf (emit i e y) i → Room (emit i e y) l → get_or l i 0 ≡ k + 3 → m.memory ≡ x →
    Does (emit i e y) l m.steps (if b then walk ended (set l i 0) (counting.tick m) else walk waiting l m) (if b then result ends (nop i) x 1 else result waits (canrun i k) x 0)
unfolding front
emit-go {i = i} {l = l} k true z r h e = record { how = has_ended (leaf-off z r); so = record { within = set-within l i 0 (leaf-own z); memory = e; steps = omega arith } }
emit-go k false z r h e = stays e refl (emit-turn h)

-- a woken every runs its body and waits again
woken-go : {i e : ℕ} {s : Source} {p : Tree} {l : List ℕ} {j : ℕ} {n : Counted} {c : Calmed} (v : ℕ) → Stem (every i s e p) i p → Room (every i s e p) l → Blank l p → Settles j n c → (o : Out) → o ≡ settled c →
    Does (every i s e p) l j (walk waiting (set l i 1) (counting.tick n)) (seq_f i o.fate o (every i s e p) (Big.resume v (every i s e p)))
unfolding seq_f Big.resume front
woken-go {i = i} {e = e} {s = s} {p = p} {l = l} {j = j} {n = n} v z r b d o q =
    subst (λ (o : Out). Does (every i s e p) l j (walk waiting (set l i 1) (counting.tick n)) (seq_f i o.fate o (every i s e p) (Big.resume v (every i s e p)))) (sym q)
    record {
      how = is-waiting refl (every-waits (set_here l i 1 (omega (arith, r.fits, z.own-place, z.own-span))) (blank-same (set_apart l i 1 (body-off z)) b));
      so = record { within = set-within l i 1 (stem-own z); memory = d.memory; steps = omega (arith, d.steps) };
    }

-- a live left
module _ (t : ℕ) {i : ℕ} {p q : Tree} {l : List ℕ} {s : ℕ} {w : Walk Counted} {r : Out} where
  if-go : {n : ℕ} (z : Fork (ifvar i n p q) i p q) → get_or l i 0 ≡ 0 → Blank l q → Does p l s w r → Does (ifvar i n p q) l s (resume_if counting w.how w (resume counting t q)) r
  if-go {n} z e b d = subst (λ (y : Walk Counted). Does (ifvar i n p q) l s y r) (sym (same_if counting t w.memory (resume counting t q) d.how)) (left-does z e b (λ h v. if-left h) d)

  left-go : (z : Fork (seq i p q) i p q) → get_or l i 0 ≡ 0 → Room q l → Blank l q → {g : Memory → Out} → Fresh q (exec counting t q) g → Does p l s w r → Does (seq i p q) l s (resume_seq counting w.how w (resume counting t q) (exec counting t q)) (seq_f i r.fate r q g)
  left-go z e o b {g} fresh d =
      subst (λ (y : Walk Counted). Does (seq i p q) l s y (seq_f i r.fate r q g)) (sym (same-seq counting t w.memory (resume counting t q) (exec counting t q) d.how))
      (seq-go d.so z e o b (exec counting t q) g fresh d.how)

  and-go : (z : Fork (par i and p q) i p q) → Laid q → get_or l i 0 ≡ 0 → Blank l q → Does p l s w r → Does (par i and p q) l s (resume_both counting and p q w.how w (resume counting t q)) r
  and-go z lq e b d =
      subst (λ (y : Walk Counted). Does (par i and p q) l s y r) (sym (same_left counting t w.memory lq (blank-same (apart-same (left-right z) d.so.within) b) d.how))
      (left-does z e b (λ h v. and_left h) d)

-- a dead left
module _ {t : Tree} {l : List ℕ} {s : ℕ} {r : Out} where
  dead-left : (f : Walk Counted → Walk Counted) {w v : Walk Counted} → w ≡ v → Does t l s (f v) r → Does t l s (f w) r
  dead-left f e d = subst (λ (x : Walk Counted). Does t l s (f x) r) (sym e) d

module _ (t v : ℕ) (tv : t ≡ v + 3) (lv : 1 ≤ v) where
  pub resumes : (a : Tree) {u : Tree} → Sound a → Laid a → Going a u (resume counting t a) (Big.resume v u)
  unfolding resume Big.resume Sound Laid front
  resumes (await i s n) k z l r (await-waits h) m x e = rw h (stays e refl (await-waits h))
  resumes (await i s n) k z l r (await-woken h) m x e = rw h record { how = has_ended (leaf-off z r); so = record { within = set-within l i 0 (leaf-own z); memory = e; steps = omega arith } }
  resumes (emit i n y) k z l r (emit-turn {m = c} h) m x e = rw (h, ne_eqb (c + 3) 0 (no_zero c), turn-eq (c + 3) c t v refl tv) (emit-go c (eqb c v) z r h e)
  resumes (ifvar i n p q) k z l r (if-left h a b) m x e = if-go t z.0 h b (resumes p k.0 z.1 l (part_room (left-part z.0) r) a m x e)
  resumes (ifvar i n p q) k z l r (if-right h a b) m x e =
      dead-left (λ w. resume_if counting w.how w (resume counting t q)) (idle-resume counting t p l m z.1 a) (right-does z.0 h a (λ y w. if-right y) (resumes q k.1 z.2 l (part_room (right-part z.0) r) b m x e))
  resumes (seq i p q) k z l r (seq-left h a b) m x e = left-go t z.0 h (part_room (right-part z.0) r) b (execs t v tv lv q k.1 z.2) (resumes p k.0 z.1 l (part_room (left-part z.0) r) a m x e)
  resumes (seq i p q) k z l r (seq-right h a b) m x e =
      dead-left (λ w. resume_seq counting w.how w (resume counting t q) (exec counting t q)) (idle-resume counting t p l m z.1 a) (right-does z.0 h a (λ y w. seq-right y) (resumes q k.1 z.2 l (part_room (right-part z.0) r) b m x e))
  resumes (loop i p) k z l r (loop-in h a) m x e =
      let d = resumes p k.1 z.1 l (part_room (body-part z.0) r) a m x e in
      again-go d.so z.0 h (part_room (body-part z.0) r) (exec counting t p) (Big.resume v p) (execs t v tv lv p k.1 z.1) (never_ends v lv p k.0 k.1) d.how
  resumes (every i s n p) k z l r (every-waits h b) m x e = rw h (stays e refl (every-waits h b))
  resumes (every i s n p) k z l r (every-woken h b) m x e = rw h (woken-go v z.0 r b (settles p k.1 m x e) (Big.resume v p x) (resume-calm v p x k.1))
  resumes (par i c p q) k z l r (par-both {v = b} h a y) m x e =
      let d = resumes p k.0 z.1 l (part_room (left-part z.0) r) a m x e in
      rw h (both_go k.0 z.1 k.1 z.2 d.so z.0 r h y (resume counting t q) (Big.resume v b) (resumes q k.1 z.2) d.how)
  resumes (par i and p q) k z l r (and_left h a b) m x e = rw h (and-go t z.0 z.2 h b (resumes p k.0 z.1 l (part_room (left-part z.0) r) a m x e))
  resumes (par i and p q) k z l r (and_right h a b) m x e =
      rw h
      (dead-left (λ w. resume_both counting and p q w.how w (resume counting t q)) (idle-resume counting t p l m z.1 a) (right-does z.0 h a (λ y w. and_right y) (resumes q k.1 z.2 l (part_room (right-part z.0) r) b m x e)))
  resumes (par i c p q) k z l r (par-held {m = n} h a b) m x e =
      let d = resumes p k.0 z.1 l (part_room (left-part z.0) r) a m x e in
      rw (h, ne_eqb (n + 3) 0 (no_zero n)) (held-go t n (exec counting t q) (Big.resume v q) (execs t v tv lv q k.1 z.2) z.0 k.0 z.1 d.so r h b v tv d.how)
  resumes (par i and p q) k z l r (and-turn {m = n} h a b) m x e =
      rw (h, ne_eqb (n + 3) 0 (no_zero n))
      (dead-left (λ w. resume_held counting t i and p w.how w (exec counting t q)) (idle-resume counting t p l m z.1 a)
      (rw (turn-eq (get_or l i 0) n t v h tv) (turn-go t n (exec counting t q) (Big.resume v q) (execs t v tv lv q k.1 z.2) z.0 r h a b e (eqb n v))))
  resumes (fin i p) k z l r (fin-waits h b) m x e = rw h (stays e refl (fin-waits h b))
  resumes (nop _) {u = u} k z l r x8 m x e = elim x8 [ ]
  resumes (act _ _ _ _) {u = u} k z l r x12 m x e = elim x12 [ ]
  resumes (break _) {u = u} k z l r x10 m x e = elim x10 [ ]
  resumes (canrun _ _) {u = u} k z l r _ m x e = elim k [ ]
  resumes (at_loop _ _ _) {u = u} k z l r _ m x e = elim k [ ]
  resumes (at_par _ _ _ _) {u = u} k z l r _ m x e = elim k [ ]
