-- A clear on states: it runs what the clear of the tree shown runs, and leaves all idle.
use Rattle.std.specs.Prelude.{◌≡◌, refl, Bool, true, false, not, ◌&&◌, ◌||◌, List, ℕ, suc, ◌+◌, get_or, set, if◌then◌else◌}
use Rattle.std.proofs.Common.{sym, ap, subst, ◌∙◌, arith, ne_eqb}
use Rattle.std.proofs.lemmas.List.{set-get_or}
use Rattle.rules.specs.Number.{is_zero}
use Rattle.rules.specs.Tree.{Tree, act, and, at_loop, at_par, await, break, canrun, emit, every, fin, ifvar, loop, nop, par, seq}
use Rattle.rules.specs.Memory.{Memory, does, effect, read}
use Rattle.rules.specs.Step.{clear}
use Rattle.theory.specs.Program.{Calm}
use Rattle.theory.specs.Big.{Calmed, after}
use Rattle.theory.specs.Big as Big
use Rattle.theory.specs.Sound.{Sound}
use Rattle.theory.specs.State.{Ops, Counted, counting, Swept, swept, sweep_own, sweep_either, sweep_both, sweep_held, tick_if, settle, sweep}
use Rattle.theory.specs.Frame.{At, Blank, Within, Room, Leaf, Stem, Fork, Laid, within-trans, blank-same, room_within, part-blank, part-within, part_room, apart-same, set_here, set-within, set_apart, leaf-own, leaf-blank, stem-own, stem-kept, stem-blank, body-part, body-off, fork-own, fork-blank, left-part, right-part, left-off, right-off, left-right, right-left, left-kept, right_kept}
use Rattle.theory.specs.Shows.{Shows, await-waits, await-woken, emit-turn, if-left, if-right, seq-left, seq-right, loop-in, every-waits, every-woken, fin-waits, par-both, and_left, and_right, par-held, and-turn, shows_same}

-- ---- nothing lives

pub set-idle : (l : List ℕ) (i : ℕ) → get_or l i 0 ≡ 0 → set l i 0 ≡ l
set-idle l i e = ap (set l i) (sym e) ∙ set-get_or l i 0

module _ {M : Type 0} (o : Ops M) where
  own-idle : (l : List ℕ) (i : ℕ) (m : M) → get_or l i 0 ≡ 0 → sweep_own o i l m ≡ swept false l m
  own-idle l i m e = rw (e, set-idle l i e)

  pub idle-sweep : (t : Tree) (l : List ℕ) (m : M) → Laid t → Blank l t → sweep o t l m ≡ swept false l m
  unfolding sweep Laid
  idle-sweep (nop i) l m z b = own-idle l i m (b.zero-at i (leaf-own z))
  idle-sweep (act i a v k) l m z b = own-idle l i m (b.zero-at i (leaf-own z))
  idle-sweep (await i s e) l m z b = own-idle l i m (b.zero-at i (leaf-own z))
  idle-sweep (emit i e y) l m z b = own-idle l i m (b.zero-at i (leaf-own z))
  idle-sweep (break i) l m z b = own-idle l i m (b.zero-at i (leaf-own z))
  idle-sweep (ifvar i v p q) l m z b = rw (idle-sweep p l m z.1 (part-blank (left-part z.0) b)) (idle-sweep q l m z.2 (part-blank (right-part z.0) b))
  idle-sweep (seq i p q) l m z b = rw (idle-sweep p l m z.1 (part-blank (left-part z.0) b)) (idle-sweep q l m z.2 (part-blank (right-part z.0) b))
  idle-sweep (loop i p) l m z b = idle-sweep p l m z.1 (part-blank (body-part z.0) b)
  idle-sweep (every i s e p) l m z b = own-idle l i m (b.zero-at i (stem-own z.0))
  idle-sweep (par i c p q) l m z b =
      let e = b.zero-at i (fork-own z.0) in
      rw (set-idle l i e, e, idle-sweep p l m z.1 (part-blank (left-part z.0) b), idle-sweep q l m z.2 (part-blank (right-part z.0) b))
  idle-sweep (fin i p) l m z b = rw (b.zero-at i (stem-own z.0))
  idle-sweep (canrun i k) l m z b = absurd z
  idle-sweep (at_loop i p q) l m z b = absurd z
  idle-sweep (at_par i c p q) l m z b = absurd z

-- ---- a calm tree

-- from s steps on, a run on states came to the memory and the steps of c
pub record Settles (s : ℕ) (m : Counted) (c : Calmed) : Type 0 where
  pub memory : m.memory ≡ c.mem
  pub steps : m.steps ≡ s + c.steps

settle-if : (s : ℕ) (b : Bool) (m n : Counted) (c d : Calmed) → Settles (suc s) m c → Settles (suc s) n d → Settles s (if not b then m else n) (after 1 (if b then d else c))
settle-if s true m n c d x y = record { memory = y.memory; steps = omega (arith, y.steps) }
settle-if s false m n c d x y = record { memory = x.memory; steps = omega (arith, x.steps) }

pub settles : (t : Tree) → Calm t → (m : Counted) (x : Memory) → m.memory ≡ x → Settles m.steps (settle counting t m) (Big.settle t x)
unfolding settle Big.settle Calm
settles (nop i) k m x e = record { memory = e; steps = omega arith }
settles (act i a v z) k m x e = record { memory = ap (effect (does a v z)) e; steps = omega arith }
settles (await i s e) k m x q = absurd k
settles (emit i e y) k m x q = absurd k
settles (break i) k m x e = absurd k
settles (ifvar i v p q) k m x e =
    subst (λ (y : Memory). Settles m.steps (if not (is_zero (read m.memory v)) then settle counting p (counting.tick m) else settle counting q (counting.tick m)) (after 1 (if is_zero (read y v) then Big.settle q y else Big.settle p y))) e
    (settle-if m.steps (is_zero (read m.memory v)) (settle counting p (counting.tick m)) (settle counting q (counting.tick m)) (Big.settle p m.memory) (Big.settle q m.memory) (settles p k.0 (counting.tick m) m.memory refl) (settles q k.1 (counting.tick m) m.memory refl))
settles (seq i p q) k m x e =
    let a = settles p k.0 m x e in
    let b = settles q k.1 (counting.tick (settle counting p m)) (Big.settle p x).mem a.memory in
    record { memory = b.memory; steps = omega (arith, a.steps, b.steps) }
settles (loop i p) k m x e = absurd k
settles (every i s e p) k m x q = absurd k
settles (par i c p q) k m x e = absurd k
settles (fin i p) k m x e = absurd k
settles (canrun i c) k m x e = absurd k
settles (at_loop i p q) k m x e = absurd k
settles (at_par i c p q) k m x e = absurd k

-- ---- what lives

-- from states l and s steps on, a clear of t left all of it idle, and came to the memory and the steps of c
pub record Clears (t : Tree) (l : List ℕ) (s : ℕ) (w : Swept Counted) (c : Calmed) : Type 0 where
  pub lived : w.lived ≡ true
  pub within : Within t l w.states
  pub blank : Blank w.states t
  pub memory : w.memory.memory ≡ c.mem
  pub steps : w.memory.steps ≡ s + c.steps

-- c leaves the memory x as it was and takes no step; so does the clear of a calm tree
pub record Quiet (x : Memory) (c : Calmed) : Type 0 where
  pub memory : c.mem ≡ x
  pub steps : c.steps ≡ 0

pub quiet-clear : (t : Tree) → Calm t → (x : Memory) → Quiet x (Big.settle (clear t) x)
unfolding clear Big.settle Calm
quiet-clear (nop i) k x = record { memory = refl; steps = refl }
quiet-clear (act i a v z) k x = record { memory = refl; steps = refl }
quiet-clear (await i s e) k x = absurd k
quiet-clear (emit i e y) k x = absurd k
quiet-clear (break i) k x = absurd k
quiet-clear (ifvar i v p q) k x = record { memory = refl; steps = refl }
quiet-clear (seq i p q) k x = quiet-clear p k.0 x
quiet-clear (loop i p) k x = absurd k
quiet-clear (every i s e p) k x = absurd k
quiet-clear (par i c p q) k x = absurd k
quiet-clear (fin i p) k x = absurd k
quiet-clear (canrun i c) k x = absurd k
quiet-clear (at_loop i p q) k x = absurd k
quiet-clear (at_par i c p q) k x = absurd k

own-clears : {t : Tree} {i : ℕ} {l : List ℕ} (n : ℕ) {m : Counted} {x : Memory} {c : Calmed} → get_or l i 0 ≡ n → (n ≡ 0 → ⊥) → At t i → Blank (set l i 0) t → m.memory ≡ x → Quiet x c → Clears t l m.steps (sweep_own counting i l m) c
own-clears {i = i} {l = l} n e h a b q c =
    record { lived = rw (e, ne_eqb n 0 h); within = set-within l i 0 a; blank = b; memory = q ∙ sym c.memory; steps = omega (arith, c.steps) }

module _ {t p q : Tree} {i : ℕ} (z : Fork t i p q) {l : List ℕ} {s : ℕ} {w : Swept Counted} {c : Calmed} (e : get_or l i 0 ≡ 0) where
  left-clears : Blank l q → Clears p l s w c → Clears t l s w c
  left-clears b d = record {
    lived = d.lived;
    within = part-within (left-part z) d.within;
    blank = fork-blank z (left-kept z d.within ∙ e) d.blank (blank-same (apart-same (left-right z) d.within) b);
    memory = d.memory;
    steps = d.steps;
  }

  right-clears : Blank l p → Clears q l s w c → Clears t l s w c
  right-clears b d = record {
    lived = d.lived;
    within = part-within (right-part z) d.within;
    blank = fork-blank z (right_kept z d.within ∙ e) (blank-same (apart-same (right-left z) d.within) b) d.blank;
    memory = d.memory;
    steps = d.steps;
  }

  -- the left lives, so the right is not looked at
  either-clears : (k : List ℕ → Counted → Swept Counted) → Blank l q → Clears p l s w c → Clears t l s (sweep_either counting w k) c
  either-clears k b d = subst (λ (x : Bool). Clears t l s (if x then w else k w.states w.memory) c) (sym d.lived) (left-clears b d)

-- both sides live
both-clears : {t p q : Tree} {i : ℕ} (z : Fork t i p q) {l : List ℕ} {s : ℕ} {w v : Swept Counted} {c d : Calmed} (e : get_or l i 0 ≡ 0) → Clears p l s w c → Clears q w.states w.memory.steps v d → Clears t l s (sweep_both counting w v) (after (c.steps + 1) d)
both-clears {t = t} z {l = l} {s = s} {w = w} {v = v} {c = c} {d = d} e a b =
    subst (λ (x : Bool). Clears t l s (swept (x || v.lived) v.states (tick_if counting (x && v.lived) v.memory)) (after (c.steps + 1) d)) (sym a.lived)
    (subst (λ (x : Bool). Clears t l s (swept true v.states (tick_if counting x v.memory)) (after (c.steps + 1) d)) (sym b.lived)
    record {
      lived = refl;
      within = within-trans (part-within (left-part z) a.within) (part-within (right-part z) b.within);
      blank = fork-blank z (right_kept z b.within ∙ left-kept z a.within ∙ e) (blank-same (apart-same (right-left z) b.within) a.blank) b.blank;
      memory = b.memory;
      steps = omega (arith, a.steps, b.steps);
    })

-- of both sides the left alone lives
alone-clears : {t p q : Tree} {i : ℕ} (z : Fork t i p q) {l : List ℕ} {s : ℕ} {w v : Swept Counted} {c : Calmed} (e : get_or l i 0 ≡ 0) → Blank l q → Clears p l s w c → v ≡ swept false w.states w.memory → Clears t l s (sweep_both counting w v) c
alone-clears {t = t} z {l = l} {s = s} {w = w} {v = v} {c = c} e b d f =
    subst (λ (y : Swept Counted). Clears t l s (sweep_both counting w y) c) (sym f)
    (subst (λ (x : Bool). Clears t l s (swept (x || false) w.states (tick_if counting (x && false) w.memory)) c) (sym d.lived)
    (let a = left-clears z e b d in record { lived = refl; within = a.within; blank = a.blank; memory = a.memory; steps = a.steps }))

-- the right has not started
held-clears : {t p q : Tree} {i : ℕ} (z : Fork t i p q) {l : List ℕ} {s : ℕ} {w : Swept Counted} {c d : Calmed} → Room t l → Blank l q → Clears p (set l i 0) s w c → Quiet c.mem d → Clears t l s (sweep_held counting w) (after (c.steps + 1) d)
held-clears {t = t} {i = i} z {l = l} {s = s} {w = w} {c = c} {d = d} r b a k =
    subst (λ (x : Bool). Clears t l s (swept true w.states (tick_if counting x w.memory)) (after (c.steps + 1) d)) (sym a.lived)
    record {
      lived = refl;
      within = within-trans (set-within l i 0 (fork-own z)) (part-within (left-part z) a.within);
      blank = fork-blank z (left-kept z a.within ∙ set_here l i 0 (omega (arith, r.fits, z.own-place, z.own-span))) a.blank (blank-same (apart-same (left-right z) a.within) (blank-same (set_apart l i 0 (right-off z)) b));
      memory = a.memory ∙ sym k.memory;
      steps = omega (arith, a.steps, k.steps);
    }

-- the right alone waits for its turn
turn-clears : {t p q : Tree} {i : ℕ} (z : Fork t i p q) {l : List ℕ} {m : Counted} {x : Memory} {c : Calmed} → Room t l → Blank l p → Blank l q → m.memory ≡ x → Quiet x c → Clears t l m.steps (swept true (set l i 0) m) c
turn-clears {i = i} z {l = l} r a b e k = record {
  lived = refl;
  within = set-within l i 0 (fork-own z);
  blank = fork-blank z (set_here l i 0 (omega (arith, r.fits, z.own-place, z.own-span))) (blank-same (set_apart l i 0 (left-off z)) a) (blank-same (set_apart l i 0 (right-off z)) b);
  memory = e ∙ sym k.memory;
  steps = omega (arith, k.steps);
}

fin-clears : {t p : Tree} {i : ℕ} (z : Stem t i p) {l : List ℕ} {s : ℕ} {m : Counted} {c : Calmed} → Room t l → Blank l p → Settles s m c → Clears t l s (swept true (set l i 0) m) c
fin-clears {i = i} z {l = l} r b k = record {
  lived = refl;
  within = set-within l i 0 (stem-own z);
  blank = stem-blank z (set_here l i 0 (omega (arith, r.fits, z.own-place, z.own-span))) (blank-same (set_apart l i 0 (body-off z)) b);
  memory = k.memory;
  steps = k.steps;
}

body-clears : {t p : Tree} {i : ℕ} (z : Stem t i p) {l : List ℕ} {s : ℕ} {w : Swept Counted} {c : Calmed} → get_or l i 0 ≡ 0 → Clears p l s w c → Clears t l s w c
body-clears z e d = record { lived = d.lived; within = part-within (body-part z) d.within; blank = stem-blank z (stem-kept z d.within ∙ e) d.blank; memory = d.memory; steps = d.steps }

quiet_nop : {x : Memory} {i : ℕ} → Quiet x (Big.calmed i x 0)
quiet_nop = record { memory = refl; steps = refl }

pub leaf-off : {t : Tree} {i : ℕ} {l : List ℕ} → Leaf t i → Room t l → Blank (set l i 0) t
leaf-off {i = i} {l = l} z r = leaf-blank z (set_here l i 0 (omega (arith, r.fits, z.own-place, z.own-span)))

stem-off : {t p : Tree} {i : ℕ} {l : List ℕ} → Stem t i p → Room t l → Blank l p → Blank (set l i 0) t
stem-off {i = i} {l = l} z r b = stem-blank z (set_here l i 0 (omega (arith, r.fits, z.own-place, z.own-span))) (blank-same (set_apart l i 0 (body-off z)) b)

pub no_zero : (m : ℕ) → m + 3 ≡ 0 → ⊥
no_zero m e = omega arith

pub sweeps : (t : Tree) {u : Tree} (l : List ℕ) → Sound t → Laid t → Room t l → Shows l t u → (m : Counted) (x : Memory) → m.memory ≡ x → Clears t l m.steps (sweep counting t l m) (Big.settle (clear u) x)
unfolding sweep Laid clear Big.settle Sound
sweeps (await i s e) l k z r (await-waits h) m x q = own-clears 1 h (λ y. omega arith) (leaf-own z) (leaf-off z r) q quiet_nop
sweeps (await i s e) l k z r (await-woken h) m x q = own-clears 2 h (λ y. omega arith) (leaf-own z) (leaf-off z r) q quiet_nop
sweeps (emit i e y) l k z r (emit-turn {m = n} h) m x q = own-clears (n + 3) h (no_zero n) (leaf-own z) (leaf-off z r) q quiet_nop
sweeps (ifvar i v p q) l k z r (if-left h a b) m x e = either-clears z.0 h (sweep counting q) b (sweeps p l k.0 z.1 (part_room (left-part z.0) r) a m x e)
sweeps (ifvar i v p q) l k z r (if-right h a b) m x e = rw (idle-sweep counting p l m z.1 a) (right-clears z.0 h a (sweeps q l k.1 z.2 (part_room (right-part z.0) r) b m x e))
sweeps (seq i p q) l k z r (seq-left h a b) m x e = either-clears z.0 h (sweep counting q) b (sweeps p l k.0 z.1 (part_room (left-part z.0) r) a m x e)
sweeps (seq i p q) l k z r (seq-right h a b) m x e = rw (idle-sweep counting p l m z.1 a) (right-clears z.0 h a (sweeps q l k.1 z.2 (part_room (right-part z.0) r) b m x e))
sweeps (loop i p) l k z r (loop-in h a) m x e = body-clears z.0 h (sweeps p l k.1 z.1 (part_room (body-part z.0) r) a m x e)
sweeps (every i s e p) l k z r (every-waits h b) m x q = own-clears 1 h (λ y. omega arith) (stem-own z.0) (stem-off z.0 r b) q quiet_nop
sweeps (every i s e p) l k z r (every-woken h b) m x q = own-clears 2 h (λ y. omega arith) (stem-own z.0) (stem-off z.0 r b) q (quiet-clear p k.1 x)
sweeps (par i c p q) l k z r (par-both {u = u} h a b) m x e =
    let d = sweeps p l k.0 z.1 (part_room (left-part z.0) r) a m x e in
    rw (set-idle l i h, h)
    (both-clears z.0 h d (sweeps q (sweep counting p l m).states k.1 z.2 (room_within d.within (part_room (right-part z.0) r)) (shows_same z.2 (apart-same (left-right z.0) d.within) b) (sweep counting p l m).memory (Big.settle (clear u) x).mem d.memory))
sweeps (par i and p q) l k z r (and_left h a b) m x e =
    let d = sweeps p l k.0 z.1 (part_room (left-part z.0) r) a m x e in
    rw (set-idle l i h, h)
    (alone-clears z.0 h b d (idle-sweep counting q (sweep counting p l m).states (sweep counting p l m).memory z.2 (blank-same (apart-same (left-right z.0) d.within) b)))
sweeps (par i and p q) l k z r (and_right h a b) m x e =
    let d = right-clears z.0 h a (sweeps q l k.1 z.2 (part_room (right-part z.0) r) b m x e) in
    rw (set-idle l i h, h, idle-sweep counting p l m z.1 a) (record { lived = d.lived; within = d.within; blank = d.blank; memory = d.memory; steps = d.steps })
sweeps (par i c p q) l k z r (par-held {m = n} h a b) m x e =
    rw (h, ne_eqb (n + 3) 0 (no_zero n))
    (held-clears z.0 r b (sweeps p (set l i 0) k.0 z.1 (room_within (set-within l i 0 (fork-own z.0)) (part_room (left-part z.0) r)) (shows_same z.1 (set_apart l i 0 (left-off z.0)) a) m x e) quiet_nop)
sweeps (par i and p q) l k z r (and-turn {m = n} h a b) m x e =
    rw (h, ne_eqb (n + 3) 0 (no_zero n), idle-sweep counting p (set l i 0) m z.1 (blank-same (set_apart l i 0 (left-off z.0)) a)) (turn-clears z.0 r a b e quiet_nop)
sweeps (fin i p) l k z r (fin-waits h b) m x e = rw h (fin-clears z.0 r b (settles p k m x e))
sweeps (nop _) {u = u} l k z r x8 m x q = elim x8 [ ]
sweeps (act _ _ _ _) {u = u} l k z r x12 m x q = elim x12 [ ]
sweeps (break _) {u = u} l k z r x10 m x q = elim x10 [ ]
sweeps (canrun _ _) {u = u} l k z r _ m x q = elim k [ ]
sweeps (at_loop _ _ _) {u = u} l k z r _ m x q = elim k [ ]
sweeps (at_par _ _ _ _) {u = u} l k z r _ m x q = elim k [ ]
