-- Awake and blocked on states: those of the tree shown.
use Rattle.std.specs.Prelude.{◌≡◌, Bool, false, not, ◌&&◌, List, ℕ, ◌+◌, ◌≤◌, ◌<◌, eqb, ltb, get_or, if◌then◌else◌}
use Rattle.std.proofs.Math.Path.{refl, sym, ap}
use Rattle.std.proofs.Common.{subst, ◌∙◌, arith, eq-eqb, ne_eqb, lt-ltb, le-ltb, eqb-true}
use Rattle.std.proofs.Math.Bool.{true}
use Rattle.std.proofs.lemmas.Bool.{eqb-false}
use Rattle.rules.specs.Tree.{Source, Tree, act, and, at_loop, at_par, await, break, canrun, emit, every, fin, ifvar, loop, nop, par, seq}
use Rattle.rules.specs.Memory.{Memory}
use Rattle.rules.specs.Step.{blocked}
use Rattle.rules.specs.Step as Rules
use Rattle.theory.specs.Logic.{clash, never}
use Rattle.theory.specs.Residue.{calm-open, calm-same}
use Rattle.theory.specs.Progress.{Live}
use Rattle.theory.specs.Big.{Out, ends, result, seq_f, again_f, right_f, par_f, waits}
use Rattle.theory.specs.Big as Big
use Rattle.theory.specs.Sound.{Sound}
use Rattle.theory.specs.State.{awake, wake_at, still, still_at}
use Rattle.theory.specs.Still.{all-still, three, two}
use Rattle.theory.specs.Frame.{Blank, Within, Room, Leaf, Stem, Fork, Laid, within-refl, within-trans, blank-same, room_within, part-blank, part-within, part_room, apart-same, set_here, set-within, set_apart, leaf-own, stem-own, stem-kept, body-part, body-off, left-part, right-part, left-right, right-left, left-kept, right_kept}
use Rattle.theory.specs.Shows.{Shows, await-waits, await-woken, emit-turn, if-left, if-right, seq-left, seq-right, loop-in, every-waits, every-woken, fin-waits, par-both, and_left, and_right, par-held, and-turn, shows_same}

-- ---- a push

module _ (w : ℕ → Source → ℕ → Bool) where
  wake-idle : (b : Bool) (l : List ℕ) (i : ℕ) → get_or l i 0 ≡ 0 → wake_at b i l ≡ l
  wake-idle true l i e = rw e
  wake-idle false l i e = refl

  pub idle-awake : (t : Tree) (l : List ℕ) → Laid t → Blank l t → awake w t l ≡ l
  unfolding awake Laid
  idle-awake (nop i) l z b = refl
  idle-awake (act i a v k) l z b = refl
  idle-awake (await i s e) l z b = wake-idle (w i s e) l i (b.zero-at i (leaf-own z))
  idle-awake (emit i e y) l z b = refl
  idle-awake (break i) l z b = refl
  idle-awake (ifvar i v p q) l z b = rw (idle-awake p l z.1 (part-blank (left-part z.0) b)) (idle-awake q l z.2 (part-blank (right-part z.0) b))
  idle-awake (seq i p q) l z b = rw (idle-awake p l z.1 (part-blank (left-part z.0) b)) (idle-awake q l z.2 (part-blank (right-part z.0) b))
  idle-awake (loop i p) l z b = idle-awake p l z.1 (part-blank (body-part z.0) b)
  idle-awake (every i s e p) l z b = wake-idle (w i s e) l i (b.zero-at i (stem-own z.0))
  idle-awake (par i c p q) l z b = rw (idle-awake p l z.1 (part-blank (left-part z.0) b)) (idle-awake q l z.2 (part-blank (right-part z.0) b))
  idle-awake (fin i p) l z b = refl
  idle-awake (canrun i k) l z b = refl
  idle-awake (at_loop i p q) l z b = refl
  idle-awake (at_par i c p q) l z b = refl

-- the woken states show u, and nothing outside t has changed
pub record Wakes (t : Tree) (l l' : List ℕ) (u : Tree) : Type 0 where
  pub shows : Shows l' t u
  pub within : Within t l l'

await-wakes : {i e : ℕ} {s : Source} {l : List ℕ} (b : Bool) → Leaf (await i s e) i → Room (await i s e) l → get_or l i 0 ≡ 1 → Wakes (await i s e) l (wake_at b i l) (if b then nop i else await i s e)
await-wakes {i = i} {l = l} true z r h = rw h record { shows = await-woken (set_here l i 2 (omega (arith, r.fits, z.own-place, z.own-span))); within = set-within l i 2 (leaf-own z) }
await-wakes false z r h = record { shows = await-waits h; within = within-refl }

every-wakes : {i e : ℕ} {s : Source} {p : Tree} {l : List ℕ} (b : Bool) → Stem (every i s e p) i p → Room (every i s e p) l → get_or l i 0 ≡ 1 → Blank l p → Wakes (every i s e p) l (wake_at b i l) (if b then seq i p (every i s e p) else every i s e p)
every-wakes {i = i} {l = l} true z r h a = rw h record { shows = every-woken (set_here l i 2 (omega (arith, r.fits, z.own-place, z.own-span))) (blank-same (set_apart l i 2 (body-off z)) a); within = set-within l i 2 (stem-own z) }
every-wakes false z r h a = record { shows = every-waits h a; within = within-refl }

wake-once : (b : Bool) (l : List ℕ) (i : ℕ) → get_or l i 0 ≡ 2 → wake_at b i l ≡ l
wake-once true l i e = rw e
wake-once false l i e = refl

-- one side lives: the other hears nothing
module _ (w : ℕ → Source → ℕ → Bool) {t p q : Tree} {i : ℕ} (z : Fork t i p q) (lq : Laid q) {l l' : List ℕ} {u : Tree} where
  left-wakes : {v : Tree} → Blank l q → Wakes p l l' u → (get_or l' i 0 ≡ get_or l i 0 → Shows l' p u → Blank l' q → Shows l' t v) → Wakes t l (awake w q l') v
  left-wakes {v} b d f =
      let b' = blank-same (apart-same (left-right z) d.within) b in
      subst (λ (x : List ℕ). Wakes t l x v) (sym (idle-awake w q l' lq b')) record { shows = f (left-kept z d.within) d.shows b'; within = part-within (left-part z) d.within }

  right-wakes : {v : Tree} → Blank l p → Wakes q l l' u → (get_or l' i 0 ≡ get_or l i 0 → Blank l' p → Shows l' q u → Shows l' t v) → Wakes t l l' v
  right-wakes {v} b d f = record { shows = f (right_kept z d.within) (blank-same (apart-same (right-left z) d.within) b) d.shows; within = part-within (right-part z) d.within }

-- the states that are woken show the tree awake
pub wakes-shown : (w : ℕ → Source → ℕ → Bool) (a : Tree) {u : Tree} (l : List ℕ) → Sound a → Laid a → Room a l → Shows l a u → Wakes a l (awake w a l) (Rules.awake w u)
unfolding awake Rules.awake Sound Laid
wakes-shown w (await i s n) l k z r (await-waits h) = await-wakes (w i s n) z r h
wakes-shown w (await i s n) l k z r (await-woken h) = rw (wake-once (w i s n) l i h) record { shows = await-woken h; within = within-refl }
wakes-shown w (emit i n y) l k z r (emit-turn h) = record { shows = emit-turn h; within = within-refl }
wakes-shown w (ifvar i n p q) l k z r (if-left h a b) = left-wakes w z.0 z.2 b (wakes-shown w p l k.0 z.1 (part_room (left-part z.0) r) a) (λ e x y. if-left (e ∙ h) x y)
wakes-shown w (ifvar i n p q) l k z r (if-right h a b) =
    rw (idle-awake w p l z.1 a) (right-wakes w z.0 z.2 a (wakes-shown w q l k.1 z.2 (part_room (right-part z.0) r) b) (λ e x y. if-right (e ∙ h) x y))
wakes-shown w (seq i p q) l k z r (seq-left h a b) = left-wakes w z.0 z.2 b (wakes-shown w p l k.0 z.1 (part_room (left-part z.0) r) a) (λ e x y. seq-left (e ∙ h) x y)
wakes-shown w (seq i p q) l k z r (seq-right h a b) =
    rw (idle-awake w p l z.1 a) (right-wakes w z.0 z.2 a (wakes-shown w q l k.1 z.2 (part_room (right-part z.0) r) b) (λ e x y. seq-right (e ∙ h) x y))
wakes-shown w (loop i p) l k z r (loop-in h a) =
    let d = wakes-shown w p l k.1 z.1 (part_room (body-part z.0) r) a in
    record { shows = loop-in (stem-kept z.0 d.within ∙ h) d.shows; within = part-within (body-part z.0) d.within }
wakes-shown w (every i s n p) l k z r (every-waits h b) = every-wakes (w i s n) z.0 r h b
wakes-shown w (every i s n p) l k z r (every-woken h b) = rw (wake-once (w i s n) l i h, calm-same w p k.1) record { shows = every-woken h b; within = within-refl }
wakes-shown w (par i c p q) l k z r (par-both h a b) =
    let d = wakes-shown w p l k.0 z.1 (part_room (left-part z.0) r) a in
    let f = wakes-shown w q (awake w p l) k.1 z.2 (room_within d.within (part_room (right-part z.0) r)) (shows_same z.2 (apart-same (left-right z.0) d.within) b) in
    record {
      shows = par-both (right_kept z.0 f.within ∙ left-kept z.0 d.within ∙ h) (shows_same z.1 (apart-same (right-left z.0) f.within) d.shows) f.shows;
      within = within-trans (part-within (left-part z.0) d.within) (part-within (right-part z.0) f.within);
    }
wakes-shown w (par i and p q) l k z r (and_left h a b) = left-wakes w z.0 z.2 b (wakes-shown w p l k.0 z.1 (part_room (left-part z.0) r) a) (λ e x y. and_left (e ∙ h) x y)
wakes-shown w (par i and p q) l k z r (and_right h a b) =
    rw (idle-awake w p l z.1 a) (right-wakes w z.0 z.2 a (wakes-shown w q l k.1 z.2 (part_room (right-part z.0) r) b) (λ e x y. and_right (e ∙ h) x y))
wakes-shown w (par i c p q) l k z r (par-held h a b) = left-wakes w z.0 z.2 b (wakes-shown w p l k.0 z.1 (part_room (left-part z.0) r) a) (λ e x y. par-held (e ∙ h) x y)
wakes-shown w (par i and p q) l k z r (and-turn h a b) = rw (idle-awake w p l z.1 a, idle-awake w q l z.2 b) record { shows = and-turn h a b; within = within-refl }
wakes-shown w (fin i p) l k z r (fin-waits h b) = record { shows = fin-waits h b; within = within-refl }
wakes-shown w (nop _) {u = u} l k z r x5 = elim x5 [ ]
wakes-shown w (act _ _ _ _) {u = u} l k z r x9 = elim x9 [ ]
wakes-shown w (break _) {u = u} l k z r x7 = elim x7 [ ]
wakes-shown w (canrun _ _) {u = u} l k z r _ = elim k [ ]
wakes-shown w (at_loop _ _ _) {u = u} l k z r _ = elim k [ ]
wakes-shown w (at_par _ _ _ _) {u = u} l k z r _ = elim k [ ]

-- ---- blocked

module _ (t v : ℕ) (tv : t ≡ v + 3) where
  low : (y : ℕ) → y < 2 → still_at t y ≡ true
  low y h = rw (ne_eqb y 2 (λ e. omega arith), ne_eqb y t (λ e. omega arith))

  woken : (y : ℕ) → y ≡ 2 → still_at t y ≡ false
  woken y e = rw e

  turned : (y k : ℕ) → y ≡ k + 3 → still_at t y ≡ not (eqb k v)
  turned y k e = go (eqb k v) refl
    where
      go : (b : Bool) → eqb k v ≡ b → still_at t y ≡ not b
      go true h = let g : k ≡ v = eqb-true k v h in rw (ne_eqb y 2 (λ n. omega arith), eq-eqb y t (omega arith))
      go false h = rw (ne_eqb y 2 (λ n. omega arith), ne_eqb y t (λ n. eqb-false k v h (omega arith)))

  pub idle-still : (a : Tree) (l : List ℕ) → Laid a → Blank l a → still t a l ≡ true
  idle-still a l z b = all-still t a l z (λ j h. low (get_or l j 0) (omega (arith, b.zero-at j h)))

  -- a @canrun not above the level blocks below it
  below : (k : ℕ) → k ≤ v → not (eqb k v) ≡ ltb k v
  below k h = go (eqb k v) refl
    where
      go : (b : Bool) → eqb k v ≡ b → not b ≡ ltb k v
      go true e = sym (le-ltb k v (let g : k ≡ v = eqb-true k v e in omega arith))
      go false e = sym (lt-ltb k v (let g : k ≡ v → ⊥ = eqb-false k v e in omega arith))

  both : (a b c x y : Bool) → a ≡ true → b ≡ x → c ≡ y → (a && b && c) ≡ (x && y)
  both a b c x y e f g = rw (e, f, g)

  alone : (a b c x : Bool) → a ≡ true → b ≡ x → c ≡ true → (a && b && c) ≡ x
  alone a b c true e f g = rw (e, f, g)
  alone a b c false e f g = rw (e, f)

  held : (a b c x y : Bool) → a ≡ y → b ≡ x → c ≡ true → (a && b && c) ≡ (x && y)
  held a b c true true e f g = rw (e, f, g)
  held a b c true false e f g = rw e
  held a b c false true e f g = rw (e, f)
  held a b c false false e f g = rw e

  -- still is blocked, of the tree shown
  pub still-blocked : (a : Tree) {u : Tree} (l : List ℕ) → Sound a → Laid a → Shows l a u → Live v u → still t a l ≡ blocked v u
  unfolding still blocked Sound Laid Live
  still-blocked (await i s n) l k z (await-waits h) f = low (get_or l i 0) (omega arith)
  still-blocked (await i s n) l k z (await-woken h) f = woken (get_or l i 0) h
  still-blocked (emit i n y) l k z (emit-turn {m = c} h) f = turned (get_or l i 0) c h ∙ below c f.1
  still-blocked (ifvar i n p q) l k z (if-left {u = u} h a b) f = alone (still_at t (get_or l i 0)) (still t p l) (still t q l) (blocked v u) (low (get_or l i 0) (omega arith)) (still-blocked p l k.0 z.1 a f) (idle-still q l z.2 b)
  still-blocked (ifvar i n p q) l k z (if-right {u = u} h a b) f = both (still_at t (get_or l i 0)) (still t p l) (still t q l) true (blocked v u) (low (get_or l i 0) (omega arith)) (idle-still p l z.1 a) (still-blocked q l k.1 z.2 b f)
  still-blocked (seq i p q) l k z (seq-left {u = u} h a b) f = alone (still_at t (get_or l i 0)) (still t p l) (still t q l) (blocked v u) (low (get_or l i 0) (omega arith)) (still-blocked p l k.0 z.1 a f.0) (idle-still q l z.2 b)
  still-blocked (seq i p q) l k z (seq-right {u = u} h a b) f = both (still_at t (get_or l i 0)) (still t p l) (still t q l) true (blocked v u) (low (get_or l i 0) (omega arith)) (idle-still p l z.1 a) (still-blocked q l k.1 z.2 b f)
  still-blocked (loop i p) l k z (loop-in h a) f = rw (low (get_or l i 0) (omega arith)) (still-blocked p l k.1 z.1 a f.0)
  still-blocked (every i s n p) l k z (every-waits h b) f = low (get_or l i 0) (omega arith)
  still-blocked (every i s n p) l k z (every-woken h b) f = woken (get_or l i 0) h ∙ sym (never (blocked v p) (calm-open v p k.1))
  still-blocked (par i c p q) l k z (par-both {u = u} {v = w} h a b) f = both (still_at t (get_or l i 0)) (still t p l) (still t q l) (blocked v u) (blocked v w) (low (get_or l i 0) (omega arith)) (still-blocked p l k.0 z.1 a f.0) (still-blocked q l k.1 z.2 b f.1)
  still-blocked (par i and p q) l k z (and_left {u = u} h a b) f = alone (still_at t (get_or l i 0)) (still t p l) (still t q l) (blocked v u) (low (get_or l i 0) (omega arith)) (still-blocked p l k.0 z.1 a f) (idle-still q l z.2 b)
  still-blocked (par i and p q) l k z (and_right {u = u} h a b) f = both (still_at t (get_or l i 0)) (still t p l) (still t q l) true (blocked v u) (low (get_or l i 0) (omega arith)) (idle-still p l z.1 a) (still-blocked q l k.1 z.2 b f)
  still-blocked (par i c p q) l k z (par-held {m = n} {u = u} h a b) f = held (still_at t (get_or l i 0)) (still t p l) (still t q l) (blocked v u) (ltb n v) (turned (get_or l i 0) n h ∙ below n f.1.0.1) (still-blocked p l k.0 z.1 a f.0) (idle-still q l z.2 b)
  still-blocked (par i and p q) l k z (and-turn {m = n} h a b) f = held (still_at t (get_or l i 0)) (still t p l) (still t q l) true (ltb n v) (turned (get_or l i 0) n h ∙ below n f.0.1) (idle-still p l z.1 a) (idle-still q l z.2 b)
  still-blocked (fin i p) l k z (fin-waits h b) f = low (get_or l i 0) (omega arith)
  still-blocked (nop _) {u = u} l k z x5 f = elim x5 [ ]
  still-blocked (act _ _ _ _) {u = u} l k z x9 f = elim x9 [ ]
  still-blocked (break _) {u = u} l k z x7 f = elim x7 [ ]
  still-blocked (canrun _ _) {u = u} l k z _ f = elim k [ ]
  still-blocked (at_loop _ _ _) {u = u} l k z _ f = elim k [ ]
  still-blocked (at_par _ _ _ _) {u = u} l k z _ f = elim k [ ]

  -- ---- a tree that is still has nothing to run

  no-turn : (y k : ℕ) → y ≡ k + 3 → still_at t y ≡ true → eqb k v ≡ false
  no-turn y k e h = go (eqb k v) (sym (turned y k e) ∙ h)
    where
      go : (b : Bool) → not b ≡ true → b ≡ false
      go true x = clash (cc)
      go false x = refl

  no-wake {ℓ} : {A : Type ℓ} (y : ℕ) → y ≡ 2 → still_at t y ≡ true → A
  no-wake y e h = let x : false ≡ true = sym (woken y e) ∙ h in clash (cc)

  -- a turn of another level waits
  turn-waits : (i k : ℕ) (q : Tree) (x : Memory) → eqb k v ≡ false → Big.resume v (seq i (canrun i k) q) x ≡ result waits (seq i (canrun i k) q) x 0
  unfolding Big.resume seq_f
  turn-waits i k q x e = ap (λ (b : Bool). let o = if b then result ends (nop i) x 1 else result waits (canrun i k) x 0 in seq_f i o.fate o q (Big.resume v q)) e

  pub still-rests : (a : Tree) {u : Tree} (l : List ℕ) → Shows l a u → still t a l ≡ true → (x : Memory) → Big.resume v u x ≡ result waits u x 0
  unfolding still Big.resume seq_f again_f par_f right_f
  still-rests (await i s n) l (await-waits h) e x = refl
  still-rests (await i s n) l (await-woken h) e x = no-wake (get_or l i 0) h e
  still-rests (emit i n y) l (emit-turn {m = c} h) e x = rw (no-turn (get_or l i 0) c h e)
  still-rests (ifvar i n p q) l (if-left h a b) e x = still-rests p l a (three (still_at t (get_or l i 0)) (still t p l) (still t q l) e).1 x
  still-rests (ifvar i n p q) l (if-right h a b) e x = still-rests q l b (three (still_at t (get_or l i 0)) (still t p l) (still t q l) e).2 x
  still-rests (seq i p q) l (seq-left h a b) e x = ap (λ (o : Out). seq_f i o.fate o q (Big.resume v q)) (still-rests p l a (three (still_at t (get_or l i 0)) (still t p l) (still t q l) e).1 x)
  still-rests (seq i p q) l (seq-right h a b) e x = still-rests q l b (three (still_at t (get_or l i 0)) (still t p l) (still t q l) e).2 x
  still-rests (loop i p) l (loop-in h a) e x = ap (λ (o : Out). again_f i o.fate o p (Big.resume v p)) (still-rests p l a (two (still_at t (get_or l i 0)) (still t p l) e).1 x)
  still-rests (every i s n p) l (every-waits h b) e x = refl
  still-rests (every i s n p) l (every-woken h b) e x = no-wake (get_or l i 0) h e
  still-rests (par i c p q) l (par-both {u = u} {v = w} h a b) e x =
      let f = three (still_at t (get_or l i 0)) (still t p l) (still t q l) e in
      ap (λ (o : Out). par_f i c o.fate o w (Big.resume v w)) (still-rests p l a f.1 x) ∙ ap (λ (o : Out). right_f i c u 0 o.fate o) (still-rests q l b f.2 x)
  still-rests (par i and p q) l (and_left h a b) e x = still-rests p l a (three (still_at t (get_or l i 0)) (still t p l) (still t q l) e).1 x
  still-rests (par i and p q) l (and_right h a b) e x = still-rests q l b (three (still_at t (get_or l i 0)) (still t p l) (still t q l) e).2 x
  still-rests (par i c p q) l (par-held {m = n} {u = u} h a b) e x =
      let f = three (still_at t (get_or l i 0)) (still t p l) (still t q l) e in
      ap (λ (o : Out). par_f i c o.fate o (seq i (canrun i n) q) (Big.resume v (seq i (canrun i n) q))) (still-rests p l a f.1 x)
      ∙ ap (λ (o : Out). right_f i c u 0 o.fate o) (turn-waits i n q x (no-turn (get_or l i 0) n h f.0))
  still-rests (par i and p q) l (and-turn {m = n} h a b) e x = turn-waits i n q x (no-turn (get_or l i 0) n h (three (still_at t (get_or l i 0)) (still t p l) (still t q l) e).0)
  still-rests (fin i p) l (fin-waits h b) e x = refl
  still-rests (nop _) {u = u} l x5 e x = elim x5 [ ]
  still-rests (act _ _ _ _) {u = u} l x9 e x = elim x9 [ ]
  still-rests (break _) {u = u} l x7 e x = elim x7 [ ]
  still-rests (canrun _ _) {u = u} l x9 e x = elim x9 [ ]
  still-rests (at_loop _ _ _) {u = u} l x11 e x = elim x11 [ ]
  still-rests (at_par _ _ _ _) {u = u} l x13 e x = elim x13 [ ]
