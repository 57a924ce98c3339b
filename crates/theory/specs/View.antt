-- The tree shown as a function of the states: they show one tree at most.
use Rattle.std.specs.Prelude.{◌≡◌, refl, Bool, true, false, ◌||◌, List, ℕ, ◌+◌, ◌-◌, eqb, get_or, if◌then◌else◌}
use Rattle.std.proofs.Common.{sym, ◌∙◌, arith, ne_eqb}
use Rattle.rules.specs.Tree.{Tree, act, and, at_loop, at_par, await, break, canrun, emit, every, fin, ifvar, loop, nop, par, seq}
use Rattle.theory.specs.Still.{live}
use Rattle.theory.specs.Frame.{Blank, Laid, leaf-own, stem-own, fork-own, part-blank, body-part, left-part, right-part}
use Rattle.theory.specs.Shows.{Shows, await-waits, await-woken, emit-turn, if-left, if-right, seq-left, seq-right, loop-in, every-waits, every-woken, fin-waits, par-both, and_left, and_right, par-held, and-turn}
use Rattle.theory.specs.Sweep.{no_zero}

-- of an and or or whose right has started, and of one that waits for its turn; a and b say which parts live
abbrev view_both : Bool → Bool → Tree → Tree → Tree → Tree
view_both true true u v w = w
view_both true false u v w = u
view_both false b u v w = v

-- what live states show
unfoldable pub view : Tree → List ℕ → Tree
unfolding live
view (nop i) l = nop i
view (act i a v k) l = nop i
view (await i s e) l = if eqb (get_or l i 0) 1 then await i s e else nop i
view (emit i e y) l = canrun i (get_or l i 0 - 3)
view (break i) l = nop i
view (ifvar i v p q) l = if live p l then view p l else view q l
view (seq i p q) l = if live p l then seq i (view p l) q else view q l
view (loop i p) l = at_loop i (view p l) p
view (every i s e p) l = if eqb (get_or l i 0) 1 then every i s e p else seq i p (every i s e p)
view (par i o p q) l =
    let turn = seq i (canrun i (get_or l i 0 - 3)) q in
    if eqb (get_or l i 0) 0 then view_both (live p l) (live q l) (view p l) (view q l) (at_par i o (view p l) (view q l)) else (if live p l then at_par i o (view p l) turn else turn)
view (fin i p) l = fin i p
view (canrun i m) l = nop i
view (at_loop i p q) l = nop i
view (at_par i o p q) l = nop i

pub idle-live : (t : Tree) (l : List ℕ) → Laid t → Blank l t → live t l ≡ false
unfolding live Laid
idle-live (nop i) l z b = refl
idle-live (act i a v k) l z b = refl
idle-live (await i s e) l z b = rw (b.zero-at i (leaf-own z))
idle-live (emit i e y) l z b = rw (b.zero-at i (leaf-own z))
idle-live (break i) l z b = refl
idle-live (ifvar i v p q) l z b = rw (idle-live p l z.1 (part-blank (left-part z.0) b)) (idle-live q l z.2 (part-blank (right-part z.0) b))
idle-live (seq i p q) l z b = rw (idle-live p l z.1 (part-blank (left-part z.0) b)) (idle-live q l z.2 (part-blank (right-part z.0) b))
idle-live (loop i p) l z b = idle-live p l z.1 (part-blank (body-part z.0) b)
idle-live (every i s e p) l z b = rw (b.zero-at i (stem-own z.0))
idle-live (par i o p q) l z b = rw (b.zero-at i (fork-own z.0), idle-live p l z.1 (part-blank (left-part z.0) b)) (idle-live q l z.2 (part-blank (right-part z.0) b))
idle-live (fin i p) l z b = rw (b.zero-at i (stem-own z.0))
idle-live (canrun i m) l z b = absurd z
idle-live (at_loop i p q) l z b = absurd z
idle-live (at_par i o p q) l z b = absurd z

or-true : (a b : Bool) → b ≡ true → (a || b) ≡ true
or-true true b e = refl
or-true false b e = e

pub shows-live : (t : Tree) {u : Tree} (l : List ℕ) → Shows l t u → live t l ≡ true
unfolding live
shows-live (await i s e) l (await-waits h) = rw h
shows-live (await i s e) l (await-woken h) = rw h
shows-live (emit i e y) l (emit-turn {m = m} h) = rw (h, ne_eqb (m + 3) 0 (no_zero m))
shows-live (ifvar i v p q) l (if-left h a b) = rw (shows-live p l a)
shows-live (ifvar i v p q) l (if-right h a b) = or-true (live p l) (live q l) (shows-live q l b)
shows-live (seq i p q) l (seq-left h a b) = rw (shows-live p l a)
shows-live (seq i p q) l (seq-right h a b) = or-true (live p l) (live q l) (shows-live q l b)
shows-live (loop i p) l (loop-in h a) = shows-live p l a
shows-live (every i s e p) l (every-waits h b) = rw h
shows-live (every i s e p) l (every-woken h b) = rw h
shows-live (par i o p q) l (par-both h a b) = rw (h, shows-live p l a)
shows-live (par i and p q) l (and_left h a b) = rw (h, shows-live p l a)
shows-live (par i and p q) l (and_right h a b) = rw h (or-true (live p l) (live q l) (shows-live q l b))
shows-live (par i o p q) l (par-held {m = m} h a b) = rw (h, ne_eqb (m + 3) 0 (no_zero m))
shows-live (par i and p q) l (and-turn {m = m} h a b) = rw (h, ne_eqb (m + 3) 0 (no_zero m))
shows-live (fin i p) l (fin-waits h b) = rw h
shows-live (nop _) {u = u} l x'' = elim x'' [ ]
shows-live (act _ _ _ _) {u = u} l x6 = elim x6 [ ]
shows-live (break _) {u = u} l x4 = elim x4 [ ]
shows-live (canrun _ _) {u = u} l x6 = elim x6 [ ]
shows-live (at_loop _ _ _) {u = u} l x8 = elim x8 [ ]
shows-live (at_par _ _ _ _) {u = u} l x10 = elim x10 [ ]

less-three : (y m : ℕ) → y ≡ m + 3 → y - 3 ≡ m
less-three y m e = omega arith

pub shows-view : (t : Tree) {u : Tree} (l : List ℕ) → Laid t → Shows l t u → view t l ≡ u
unfolding view Laid
shows-view (await i s e) l z (await-waits h) = rw h
shows-view (await i s e) l z (await-woken h) = rw h
shows-view (emit i e y) l z (emit-turn {m = m} h) = rw (less-three (get_or l i 0) m h)
shows-view (ifvar i v p q) l z (if-left h a b) = rw (shows-live p l a) (shows-view p l z.1 a)
shows-view (ifvar i v p q) l z (if-right h a b) = rw (idle-live p l z.1 a) (shows-view q l z.2 b)
shows-view (seq i p q) l z (seq-left h a b) = rw (shows-live p l a, shows-view p l z.1 a)
shows-view (seq i p q) l z (seq-right h a b) = rw (idle-live p l z.1 a) (shows-view q l z.2 b)
shows-view (loop i p) l z (loop-in h a) = rw (shows-view p l z.1 a)
shows-view (every i s e p) l z (every-waits h b) = rw h
shows-view (every i s e p) l z (every-woken h b) = rw h
shows-view (par i o p q) l z (par-both h a b) = rw (h, shows-live p l a, shows-live q l b, shows-view p l z.1 a, shows-view q l z.2 b)
shows-view (par i and p q) l z (and_left h a b) = rw (h, shows-live p l a, idle-live q l z.2 b) (shows-view p l z.1 a)
shows-view (par i and p q) l z (and_right h a b) = rw (h, idle-live p l z.1 a) (shows-view q l z.2 b)
shows-view (par i o p q) l z (par-held {m = m} h a b) = rw (less-three (get_or l i 0) m h, h, ne_eqb (m + 3) 0 (no_zero m), shows-live p l a, shows-view p l z.1 a)
shows-view (par i and p q) l z (and-turn {m = m} h a b) = rw (less-three (get_or l i 0) m h, h, ne_eqb (m + 3) 0 (no_zero m), idle-live p l z.1 a)
shows-view (fin i p) l z (fin-waits h b) = refl
shows-view (nop _) {u = u} l z x3 = elim x3 [ ]
shows-view (act _ _ _ _) {u = u} l z x7 = elim x7 [ ]
shows-view (break _) {u = u} l z x5 = elim x5 [ ]
shows-view (canrun _ _) {u = u} l z _ = elim z [ ]
shows-view (at_loop _ _ _) {u = u} l z _ = elim z [ ]
shows-view (at_par _ _ _ _) {u = u} l z _ = elim z [ ]

-- states show one tree at most
pub shows-once : (t : Tree) {u v : Tree} (l : List ℕ) → Laid t → Shows l t u → Shows l t v → u ≡ v
shows-once t l z a b = sym (shows-view t l z a) ∙ shows-view t l z b
