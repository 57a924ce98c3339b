-- The places of a tree among those of the program: states that are idle there, agree there, or change only there.
use Rattle.std.specs.Prelude.{◌≡◌, refl, Bool, true, false, not, List, ℕ, ◌+◌, ◌≤◌, ◌<◌, eqb, ltb, T, length, get_or, set}
use Rattle.std.proofs.Common.{sym, subst, ◌∙◌, arith, eqb→eq, ltb→lt, nltb→le, length-set, get_or-set_same, get_or-set_other}
use Rattle.rules.specs.Tree.{Tree, act, at_loop, at_par, await, break, canrun, emit, every, fin, ifvar, loop, nop, par, seq, span_of}
use Rattle.std.proofs.lemmas.Bool.{eqb-false}
use Rattle.theory.specs.Program.{Program}
use Rattle.theory.specs.Again.{In, Placed}

-- a place of a node with parts: its own, or in a part
pub data Lies (k n m j : ℕ) : Type 0 where
  own : j ≡ k → Lies k n m j
  left : In (k + 1) n j → Lies k n m j
  right : In (k + 1 + n) m j → Lies k n m j

pub lies : (k n m j : ℕ) → In k (1 + (n + m)) j → Lies k n m j
lies k n m j w = go (eqb j k) refl
  where
    far : (x : Bool) → ltb j (k + 1 + n) ≡ x → (j ≡ k → ⊥) → Lies k n m j
    far true y d = left (record { above = omega (arith, w.above, d); below = ltb→lt j (k + 1 + n) (subst T (sym y) tt) })
    far false y d = right (record { above = nltb→le j (k + 1 + n) (subst (λ z. T (not z)) (sym y) tt); below = omega (arith, w.below) })

    go : (x : Bool) → eqb j k ≡ x → Lies k n m j
    go true y = own (eqb→eq j k (subst T (sym y) tt))
    go false y = far (ltb j (k + 1 + n)) refl (eqb-false j k y)

-- ---- trees

unfoldable pub place_of : Tree → ℕ
place_of (nop i) = i
place_of (act i a v k) = i
place_of (await i s e) = i
place_of (emit i e y) = i
place_of (break i) = i
place_of (ifvar i v p q) = i
place_of (seq i p q) = i
place_of (loop i p) = i
place_of (every i s e p) = i
place_of (par i o p q) = i
place_of (fin i p) = i
place_of (canrun i m) = i
place_of (at_loop i p q) = i
place_of (at_par i o p q) = i

-- j is a place of t
abbrev pub At : Tree → ℕ → Type 0
At t j = In (place_of t) (span_of t) j

-- all of t is idle
pub record Blank (l : List ℕ) (t : Tree) : Type 0 where
  pub zero-at : (j : ℕ) → At t j → get_or l j 0 ≡ 0

-- the states at t's places are the same
pub record Same (t : Tree) (l l' : List ℕ) : Type 0 where
  pub same_at : (j : ℕ) → At t j → get_or l' j 0 ≡ get_or l j 0

-- those at all other places are the same
pub record Within (t : Tree) (l l' : List ℕ) : Type 0 where
  pub long : length l' ≡ length l
  pub other : (j : ℕ) → (At t j → ⊥) → get_or l' j 0 ≡ get_or l j 0

-- there is a state for each place of t
pub record Room (t : Tree) (l : List ℕ) : Type 0 where
  pub fits : place_of t + span_of t ≤ length l

pub within-refl : {t : Tree} {l : List ℕ} → Within t l l
within-refl = record { long = refl; other = λ j h. refl }

pub within-trans : {t : Tree} {l l' l'' : List ℕ} → Within t l l' → Within t l' l'' → Within t l l''
within-trans a b = record { long = b.long ∙ a.long; other = λ j h. b.other j h ∙ a.other j h }

pub blank-same : {t : Tree} {l l' : List ℕ} → Same t l l' → Blank l t → Blank l' t
blank-same s b = record { zero-at = λ j h. s.same_at j h ∙ b.zero-at j h }

pub room_within : {t u : Tree} {l l' : List ℕ} → Within t l l' → Room u l → Room u l'
room_within w r = record { fits = omega (arith, w.long, r.fits) }

-- ---- a part p of t, at places of its own

pub record Part (p t : Tree) : Type 0 where
  pub low : place_of t ≤ place_of p
  pub high : place_of p + span_of p ≤ place_of t + span_of t

module _ {p t : Tree} (z : Part p t) where
  pub part_at : (j : ℕ) → At p j → At t j
  part_at j h = record { above = omega (arith, h.above); below = omega (arith, h.below) }

  pub part-blank : {l : List ℕ} → Blank l t → Blank l p
  part-blank b = record { zero-at = λ j h. b.zero-at j (part_at j h) }

  pub part_same : {l l' : List ℕ} → Same t l l' → Same p l l'
  part_same s = record { same_at = λ j h. s.same_at j (part_at j h) }

  pub part-within : {l l' : List ℕ} → Within p l l' → Within t l l'
  part-within w = record { long = w.long; other = λ j h. w.other j (λ a. h (part_at j a)) }

  pub part_room : {l : List ℕ} → Room t l → Room p l
  part_room r = record { fits = omega (arith, r.fits) }

-- what changes only in p leaves q as it was
pub record Apart (p q : Tree) : Type 0 where
  pub disjoint : (j : ℕ) → At p j → At q j → ⊥

pub apart-same : {p q : Tree} {l l' : List ℕ} → Apart p q → Within p l l' → Same q l l'
apart-same a w = record { same_at = λ j h. w.other j (λ x. a.disjoint j x h) }

-- ---- one state set

module _ (l : List ℕ) (i x : ℕ) where
  pub set_here : i < length l → get_or (set l i x) i 0 ≡ x
  set_here h = get_or-set_same l i x 0 h

  pub set-within : {t : Tree} → At t i → Within t l (set l i x)
  set-within {t} h = record { long = length-set l i x; other = λ j n. get_or-set_other l i j x 0 (λ e. n (rw e h)) }

  pub set_apart : {t : Tree} → (At t i → ⊥) → Same t l (set l i x)
  set_apart {t} n = record { same_at = λ j h. get_or-set_other l i j x 0 (λ e. n (rw e at h)) }

-- ---- nodes: without parts, with one, with two; the span and where the parts stand

pub record Leaf (t : Tree) (i : ℕ) : Type 0 where
  pub own-place : place_of t ≡ i
  pub own-span : span_of t ≡ 1

pub record Stem (t : Tree) (i : ℕ) (p : Tree) : Type 0 where
  pub own-place : place_of t ≡ i
  pub own-span : span_of t ≡ 1 + span_of p
  pub body-place : place_of p ≡ i + 1

pub record Fork (t : Tree) (i : ℕ) (p q : Tree) : Type 0 where
  pub own-place : place_of t ≡ i
  pub own-span : span_of t ≡ 1 + (span_of p + span_of q)
  pub left-place : place_of p ≡ i + 1
  pub right-place : place_of q ≡ i + 1 + span_of p

module _ {t : Tree} {i : ℕ} (z : Leaf t i) where
  pub leaf-own : At t i
  leaf-own = record { above = omega arith; below = omega arith }

  pub leaf-blank : {l : List ℕ} → get_or l i 0 ≡ 0 → Blank l t
  leaf-blank {l} e = record { zero-at = λ j h. let x : j ≡ i = omega (arith, h.above, h.below) in rw x e }

module _ {t p : Tree} {i : ℕ} (z : Stem t i p) where
  pub stem-own : At t i
  stem-own = record { above = omega arith; below = omega arith }

  pub body-part : Part p t
  body-part = record { low = omega arith; high = omega arith }

  pub body-off : At p i → ⊥
  body-off h = omega (arith, h.above)

  pub stem-kept : {l l' : List ℕ} → Within p l l' → get_or l' i 0 ≡ get_or l i 0
  stem-kept w = w.other i body-off

  pub stem-blank : {l : List ℕ} → get_or l i 0 ≡ 0 → Blank l p → Blank l t
  stem-blank {l} e b = record { zero-at = λ j h. go j (lies i (span_of p) 0 j (record { above = omega (arith, h.above); below = omega (arith, h.below) })) }
    where
      go : (j : ℕ) → Lies i (span_of p) 0 j → get_or l j 0 ≡ 0
      go j (own x) = rw x e
      go j (left w) = b.zero-at j (record { above = omega (arith, w.above); below = omega (arith, w.below) })
      go j (right w) = absurd (omega (arith, w.above, w.below))

module _ {t p q : Tree} {i : ℕ} (z : Fork t i p q) where
  pub fork-own : At t i
  fork-own = record { above = omega arith; below = omega arith }

  pub left-part : Part p t
  left-part = record { low = omega arith; high = omega arith }

  pub right-part : Part q t
  right-part = record { low = omega arith; high = omega arith }

  pub left-off : At p i → ⊥
  left-off h = omega (arith, h.above)

  pub right-off : At q i → ⊥
  right-off h = omega (arith, h.above)

  pub left-right : Apart p q
  left-right = record { disjoint = λ j a b. omega (arith, a.below, b.above) }

  pub right-left : Apart q p
  right-left = record { disjoint = λ j a b. omega (arith, b.below, a.above) }

  pub left-kept : {l l' : List ℕ} → Within p l l' → get_or l' i 0 ≡ get_or l i 0
  left-kept w = w.other i left-off

  pub right_kept : {l l' : List ℕ} → Within q l l' → get_or l' i 0 ≡ get_or l i 0
  right_kept w = w.other i right-off

  pub fork-blank : {l : List ℕ} → get_or l i 0 ≡ 0 → Blank l p → Blank l q → Blank l t
  fork-blank {l} e a b = record { zero-at = λ j h. go j (lies i (span_of p) (span_of q) j (record { above = omega (arith, h.above); below = omega (arith, h.below) })) }
    where
      go : (j : ℕ) → Lies i (span_of p) (span_of q) j → get_or l j 0 ≡ 0
      go j (own x) = rw x e
      go j (left w) = a.zero-at j (record { above = omega (arith, w.above); below = omega (arith, w.below) })
      go j (right w) = b.zero-at j (record { above = omega (arith, w.above); below = omega (arith, w.below) })

-- ---- the parts of a program stand where its spans say

unfoldable pub Laid : Tree → Type 0
Laid (nop i) = Leaf (nop i) i
Laid (act i a v k) = Leaf (act i a v k) i
Laid (await i s e) = Leaf (await i s e) i
Laid (emit i e y) = Leaf (emit i e y) i
Laid (break i) = Leaf (break i) i
Laid (ifvar i v p q) = Fork (ifvar i v p q) i p q × Laid p × Laid q
Laid (seq i p q) = Fork (seq i p q) i p q × Laid p × Laid q
Laid (loop i p) = Stem (loop i p) i p × Laid p
Laid (every i s e p) = Stem (every i s e p) i p × Laid p
Laid (par i o p q) = Fork (par i o p q) i p q × Laid p × Laid q
Laid (fin i p) = Stem (fin i p) i p × Laid p
Laid (canrun i m) = ⊥
Laid (at_loop i p q) = ⊥
Laid (at_par i o p q) = ⊥

-- all that stands above, of a program whose first place is k
pub record Lays (k : ℕ) (t : Tree) : Type 0 where
  pub place_is : place_of t ≡ k
  pub laid : Laid t

module _ (t : Tree) (k i : ℕ) (p : Tree) (e : i ≡ k) (own : place_of t ≡ i) where
  stem-lays : span_of t ≡ 1 + span_of p → (Stem t i p × Laid p → Laid t) → Lays (k + 1) p → Lays k t
  stem-lays s f x = record { place_is = own ∙ e; laid = f (record { own-place = own; own-span = s; body-place = omega (arith, x.place_is) }, x.laid) }

  fork-lays : (q : Tree) → span_of t ≡ 1 + (span_of p + span_of q) → (Fork t i p q × Laid p × Laid q → Laid t) → Lays (k + 1) p → Lays (k + 1 + span_of p) q → Lays k t
  fork-lays q s f x y = record { place_is = own ∙ e; laid = f (record { own-place = own; own-span = s; left-place = omega (arith, x.place_is); right-place = omega (arith, y.place_is) }, x.laid, y.laid) }

pub lays : (k : ℕ) (t : Tree) → Program t → Placed k t → Lays k t
unfolding Program Placed Laid place_of span_of
lays k (nop i) h l = record { place_is = l; laid = record { own-place = refl; own-span = refl } }
lays k (act i a v z) h l = record { place_is = l; laid = record { own-place = refl; own-span = refl } }
lays k (await i s e) h l = record { place_is = l; laid = record { own-place = refl; own-span = refl } }
lays k (emit i e y) h l = record { place_is = l; laid = record { own-place = refl; own-span = refl } }
lays k (break i) h l = record { place_is = l; laid = record { own-place = refl; own-span = refl } }
lays k (ifvar i v p q) h l = fork-lays (ifvar i v p q) k i p l.0 refl q refl (λ x. x) (lays (k + 1) p h.0 l.1) (lays (k + 1 + span_of p) q h.1 l.2)
lays k (seq i p q) h l = fork-lays (seq i p q) k i p l.0 refl q refl (λ x. x) (lays (k + 1) p h.0 l.1) (lays (k + 1 + span_of p) q h.1 l.2)
lays k (loop i p) h l = stem-lays (loop i p) k i p l.0 refl refl (λ x. x) (lays (k + 1) p h l.1)
lays k (every i s e p) h l = stem-lays (every i s e p) k i p l.0 refl refl (λ x. x) (lays (k + 1) p h l.1)
lays k (par i o p q) h l = fork-lays (par i o p q) k i p l.0 refl q refl (λ x. x) (lays (k + 1) p h.0 l.1) (lays (k + 1 + span_of p) q h.1 l.2)
lays k (fin i p) h l = stem-lays (fin i p) k i p l.0 refl refl (λ x. x) (lays (k + 1) p h l.1)
lays k (canrun i m) h l = absurd h
lays k (at_loop i p q) h l = absurd h
lays k (at_par i o p q) h l = absurd h
