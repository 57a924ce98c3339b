-- A tree that has come to rest is read again from its marks, and they fit.
use Rattle.std.specs.Prelude.{◌≡◌, Bool, true, false, ◌||◌, List, [], ◌∷◌, ◌++◌, ℕ, ◌+◌, ◌≤◌, ◌<◌, eqb, if◌then◌else◌}
use Rattle.std.proofs.Math.Path.{refl, subst}
use Rattle.std.proofs.Common.{sym, ap, ◌∙◌, arith, eqb→eq, eq-eqb}
use Rattle.std.proofs.Math.Bool.{or-false}
use Rattle.std.proofs.Math.Option.{none, some}
use Rattle.std.proofs.Math.Dec.{eqb_refl, T}
use Rattle.rules.specs.Tree.{Par, Tree, act, and, at_loop, at_par, await, break, canrun, emit, every, fin, ifvar, loop, nop, or, par, seq, span_of}
use Rattle.rules.specs.Marks.{marked, misfits, par_misfit, rest_of, waits}
use Rattle.rules.specs.Step.{blocked}
use Rattle.theory.specs.Residue.{Left, whole, tidy, breaking, leaving, seq_l, seq_r, if_l, if_r, loop_in, par_both, par_l, par_r, ready, awaited, every_on, sent, calm-open}
use Rattle.theory.specs.Logic.{both_left, both_right, never, or_cases, or_left, or_right}
use Rattle.theory.specs.Program.{Calm, Program}

-- the places of a program are its preorder, from k on
unfoldable pub Placed : ℕ → Tree → Type 0
Placed k (nop i) = i ≡ k
Placed k (act i a v z) = i ≡ k
Placed k (await i s e) = i ≡ k
Placed k (emit i e y) = i ≡ k
Placed k (break i) = i ≡ k
Placed k (ifvar i v p q) = (i ≡ k) × Placed (k + 1) p × Placed (k + 1 + span_of p) q
Placed k (seq i p q) = (i ≡ k) × Placed (k + 1) p × Placed (k + 1 + span_of p) q
Placed k (loop i p) = (i ≡ k) × Placed (k + 1) p
Placed k (every i s e p) = (i ≡ k) × Placed (k + 1) p
Placed k (par i o p q) = (i ≡ k) × Placed (k + 1) p × Placed (k + 1 + span_of p) q
Placed k (fin i p) = (i ≡ k) × Placed (k + 1) p
Placed k (canrun i m) = Unit {0}
Placed k (at_loop i p q) = Unit {0}
Placed k (at_par i o p q) = Unit {0}

-- no @canrun on the spine
unfoldable pub NoRun : Tree → Type 0
NoRun (nop i) = Unit {0}
NoRun (act i a v z) = Unit {0}
NoRun (await i s e) = Unit {0}
NoRun (emit i e y) = Unit {0}
NoRun (break i) = Unit {0}
NoRun (ifvar i v p q) = Unit {0}
NoRun (seq i p q) = NoRun p
NoRun (loop i p) = Unit {0}
NoRun (every i s e p) = Unit {0}
NoRun (par i o p q) = Unit {0}
NoRun (fin i p) = Unit {0}
NoRun (canrun i m) = ⊥
NoRun (at_loop i p q) = NoRun p
NoRun (at_par i o p q) = NoRun p × NoRun q

unfoldable pub member : ℕ → List ℕ → Bool
member j [] = false
member j (i ∷ is) = eqb j i || member j is

pub member-append : (j : ℕ) (a b : List ℕ) → member j (a ++ b) ≡ (member j a || member j b)
unfolding member
member-append j [] b = refl
member-append j (i ∷ is) b = go (eqb j i) (member-append j is b)
  where
    go : (c : Bool) → member j (is ++ b) ≡ (member j is || member j b) → (c || member j (is ++ b)) ≡ ((c || member j is) || member j b)
    go true h = refl
    go false h = h

pub member-here : (i : ℕ) (l : List ℕ) → T (member i (i ∷ l))
unfolding member
member-here i l = or_left (eqb i i) (member i l) (eqb_refl i)

pub member-one : (j i : ℕ) → T (member j (i ∷ [])) → j ≡ i
unfolding member
member-one j i t = or_cases (eqb j i) false (eqb→eq j i) (λ h. absurd h) t

pub member-left : (j : ℕ) (a b : List ℕ) → T (member j a) → T (member j (a ++ b))
member-left j a b h = subst T (sym (member-append j a b)) (or_left (member j a) (member j b) h)

pub member_right : (j : ℕ) (a b : List ℕ) → T (member j b) → T (member j (a ++ b))
member_right j a b h = subst T (sym (member-append j a b)) (or_right (member j a) (member j b) h)

-- ---- where a tree's waiting places lie

-- j is one of the n places from lo on
pub record In (lo n j : ℕ) : Type 0 where
  pub above : lo ≤ j
  pub below : j < lo + n

only : (j i k n : ℕ) → i ≡ k → T (member j (i ∷ [])) → In k (1 + n) j
only j i k n e t = let h : j ≡ i = member-one j i t in record { above = omega arith; below = omega arith }

calm-waits : (c : Tree) → Calm c → waits c ≡ []
unfolding Calm waits
calm-waits (nop i) c = refl
calm-waits (act i a v z) c = refl
calm-waits (await i s e) c = absurd c
calm-waits (emit i e y) c = refl
calm-waits (break i) c = refl
calm-waits (ifvar i v p q) c = refl
calm-waits (seq i p q) c = calm-waits p c.0
calm-waits (loop i p) c = refl
calm-waits (every i s e p) c = absurd c
calm-waits (par i o p q) c = refl
calm-waits (fin i p) c = absurd c
calm-waits (canrun i m) c = refl
calm-waits (at_loop i p q) c = absurd c
calm-waits (at_par i o p q) c = absurd c

pub calm-none : (c : Tree) (j : ℕ) → Calm c → T (member j (waits c)) → ⊥
calm-none c j k t = unfold member in subst (λ l. T (member j l)) (calm-waits c k) t

whole_in : (k j : ℕ) (t : Tree) → Program t → Placed k t → T (member j (waits t)) → In k (span_of t) j
unfolding Program Placed waits span_of
whole_in k j (nop i) h p t = absurd (unfold member in t)
whole_in k j (act i a v z) h p t = absurd (unfold member in t)
whole_in k j (await i s e) h p t = only j i k 0 p t
whole_in k j (emit i e y) h p t = absurd (unfold member in t)
whole_in k j (break i) h p t = absurd (unfold member in t)
whole_in k j (ifvar i v p q) h l t = absurd (unfold member in t)
whole_in k j (seq i p q) h l t = let w = whole_in (k + 1) j p h.0 l.1 t in record { above = omega (arith, w.above); below = omega (arith, w.below) }
whole_in k j (loop i p) h l t = absurd (unfold member in t)
whole_in k j (every i s e p) h l t = only j i k (span_of p) l.0 t
whole_in k j (par i o p q) h l t = absurd (unfold member in t)
whole_in k j (fin i p) h l t = only j i k (span_of p) l.0 t
whole_in k j (canrun i m) h l t = absurd h
whole_in k j (at_loop i p q) h l t = absurd h
whole_in k j (at_par i o p q) h l t = absurd h

widen : {k n j : ℕ} (k' n' : ℕ) → In k n j → k' ≤ k → k + n ≤ k' + n' → In k' n' j
widen k' n' w a b = record { above = omega (arith, w.above); below = omega (arith, w.below) }

pub waits_in : (k j : ℕ) {t r : Tree} → Left t r → Program t → Placed k t → T (member j (waits r)) → In k (span_of t) j
unfolding Program Placed waits span_of
waits_in k j (whole {t = t}) h l m = whole_in k j t h l m
waits_in k j (tidy {c = c} x) h l m = absurd (calm-none c j x m)
waits_in k j breaking h l m = absurd (unfold member in m)
waits_in k j (leaving {c = c} x) h l m = absurd (calm-none c j x m)
waits_in k j (seq_l {p = p} {q = q} x) h l m = widen k (1 + (span_of p + span_of q)) (waits_in (k + 1) j x h.0 l.1 m) (omega arith) (omega arith)
waits_in k j (seq_r {p = p} {q = q} x) h l m = widen k (1 + (span_of p + span_of q)) (waits_in (k + 1 + span_of p) j x h.1 l.2 m) (omega arith) (omega arith)
waits_in k j (if_l {p = p} {q = q} x) h l m = widen k (1 + (span_of p + span_of q)) (waits_in (k + 1) j x h.0 l.1 m) (omega arith) (omega arith)
waits_in k j (if_r {p = p} {q = q} x) h l m = widen k (1 + (span_of p + span_of q)) (waits_in (k + 1 + span_of p) j x h.1 l.2 m) (omega arith) (omega arith)
waits_in k j (loop_in {p = p} x) h l m = widen k (1 + span_of p) (waits_in (k + 1) j x h l.1 m) (omega arith) (omega arith)
waits_in k j (par_both {p = p} {q = q} {r = r} {u = u} x y) h l m =
    or_cases (member j (waits r)) (member j (waits u))
    (λ a. widen k (1 + (span_of p + span_of q)) (waits_in (k + 1) j x h.0 l.1 a) (omega arith) (omega arith))
    (λ a. widen k (1 + (span_of p + span_of q)) (waits_in (k + 1 + span_of p) j y h.1 l.2 a) (omega arith) (omega arith))
    (subst T (member-append j (waits r) (waits u)) m)
waits_in k j (par_l {p = p} {q = q} x) h l m = widen k (1 + (span_of p + span_of q)) (waits_in (k + 1) j x h.0 l.1 m) (omega arith) (omega arith)
waits_in k j (par_r {p = p} {q = q} x) h l m = widen k (1 + (span_of p + span_of q)) (waits_in (k + 1 + span_of p) j x h.1 l.2 m) (omega arith) (omega arith)
waits_in k j ready h l m = absurd (unfold member in m)
waits_in k j awaited h l m = absurd (unfold member in m)
waits_in k j (every_on {c = c} x) h l m = absurd (calm-none c j x m)
waits_in k j sent h l m = absurd (unfold member in m)

-- ---- reading again

-- no marks in a program's places: nothing is left of it, and they fit
unfoldable pub Unmarked : List ℕ → ℕ → ℕ → Type 0
Unmarked m k n = (j : ℕ) → In k n j → marked m j ≡ false

pub record Clean (m : List ℕ) (t : Tree) : Type 0 where
  pub nothing : rest_of m t ≡ none
  pub fits : misfits m t ≡ []

-- the tree r is read, and the marks fit
pub record Reads (m : List ℕ) (t r : Tree) : Type 0 where
  pub is : rest_of m t ≡ some r
  pub fits : misfits m t ≡ []

unmarked-here : (m : List ℕ) (k i n : ℕ) (t : Tree) → i ≡ k → Unmarked m k (1 + n) → (if marked m i then some t else none) ≡ none
unfolding Unmarked
unmarked-here m k i n t e u = rw (u i (record { above = omega arith; below = omega arith }))

narrow : (m : List ℕ) (k n k' n' : ℕ) → k ≤ k' → k' + n' ≤ k + n → Unmarked m k n → Unmarked m k' n'
unfolding Unmarked
narrow m k n k' n' a b u j w = u j (record { above = omega (arith, w.above); below = omega (arith, w.below) })

none-none : (i : ℕ) (o : Par) → par_misfit i o false false ≡ []
none-none i and = refl
none-none i or = refl

both-both : (i : ℕ) (o : Par) → par_misfit i o true true ≡ []
both-both i and = refl
both-both i or = refl

module _ (m : List ℕ) where
  pub clean : (k : ℕ) (t : Tree) → Program t → Placed k t → Unmarked m k (span_of t) → Clean m t
  unfolding Program Placed span_of rest_of misfits
  clean k (nop i) h l u = record { nothing = refl; fits = refl }
  clean k (act i a v z) h l u = record { nothing = refl; fits = refl }
  clean k (await i s e) h l u = record { nothing = unmarked-here m k i 0 (await i s e) l u; fits = refl }
  clean k (emit i e y) h l u = record { nothing = refl; fits = refl }
  clean k (break i) h l u = record { nothing = refl; fits = refl }
  clean k (ifvar i v p q) h l u =
      let a = clean (k + 1) p h.0 l.1 (narrow m k (1 + (span_of p + span_of q)) (k + 1) (span_of p) (omega arith) (omega arith) u) in
      let b = clean (k + 1 + span_of p) q h.1 l.2 (narrow m k (1 + (span_of p + span_of q)) (k + 1 + span_of p) (span_of q) (omega arith) (omega arith) u) in
      record { nothing = rw (a.nothing, b.nothing); fits = rw (a.nothing, a.fits, b.fits) }
  clean k (seq i p q) h l u =
      let a = clean (k + 1) p h.0 l.1 (narrow m k (1 + (span_of p + span_of q)) (k + 1) (span_of p) (omega arith) (omega arith) u) in
      let b = clean (k + 1 + span_of p) q h.1 l.2 (narrow m k (1 + (span_of p + span_of q)) (k + 1 + span_of p) (span_of q) (omega arith) (omega arith) u) in
      record { nothing = rw (a.nothing, b.nothing); fits = rw (a.nothing, a.fits, b.fits) }
  clean k (loop i p) h l u =
      let a = clean (k + 1) p h l.1 (narrow m k (1 + span_of p) (k + 1) (span_of p) (omega arith) (omega arith) u) in
      record { nothing = rw a.nothing; fits = a.fits }
  clean k (every i s e p) h l u = record { nothing = unmarked-here m k i (span_of p) (every i s e p) l.0 u; fits = refl }
  clean k (par i o p q) h l u =
      let a = clean (k + 1) p h.0 l.1 (narrow m k (1 + (span_of p + span_of q)) (k + 1) (span_of p) (omega arith) (omega arith) u) in
      let b = clean (k + 1 + span_of p) q h.1 l.2 (narrow m k (1 + (span_of p + span_of q)) (k + 1 + span_of p) (span_of q) (omega arith) (omega arith) u) in
      record { nothing = rw (a.nothing, b.nothing); fits = rw (a.nothing, b.nothing, a.fits, b.fits, none-none i o) }
  clean k (fin i p) h l u = record { nothing = unmarked-here m k i (span_of p) (fin i p) l.0 u; fits = refl }
  clean k (canrun i x) h l u = absurd h
  clean k (at_loop i p q) h l u = absurd h
  clean k (at_par i o p q) h l u = absurd h

-- the marks of n places from k on are those of a list
unfoldable pub Agree : List ℕ → List ℕ → ℕ → ℕ → Type 0
Agree m ws k n = (j : ℕ) → In k n j → marked m j ≡ member j ws

agree-part : (m ws : List ℕ) (k n k' n' : ℕ) → k ≤ k' → k' + n' ≤ k + n → Agree m ws k n → Agree m ws k' n'
unfolding Agree
agree-part m ws k n k' n' a b u j w = u j (record { above = omega (arith, w.above); below = omega (arith, w.below) })

here : (m : List ℕ) (k i n : ℕ) (t : Tree) → i ≡ k → Agree m (i ∷ []) k (1 + n) → (if marked m i then some t else none) ≡ some t
unfolding Agree member
here m k i n t e u = rw (u i (record { above = omega arith; below = omega arith }), eq-eqb i i refl)

-- what lies elsewhere leaves a part unmarked
elsewhere : (m ws : List ℕ) (k n k' n' : ℕ) → Agree m ws k n → ((j : ℕ) → T (member j ws) → In k' n' j → ⊥) → k ≤ k' → k' + n' ≤ k + n → Unmarked m k' n'
unfolding Agree Unmarked
elsewhere m ws k n k' n' u f a b j w = u j (record { above = omega (arith, w.above); below = omega (arith, w.below) }) ∙ never (member j ws) (λ t. f j t w)

apart : {a n b c j : ℕ} → In a n j → In b c j → a + n ≤ b → ⊥
apart v w l = omega (arith, v.below, w.above)

agree_left : (m ws vs : List ℕ) (k n : ℕ) → Agree m (ws ++ vs) k n → ((j : ℕ) → T (member j vs) → In k n j → ⊥) → Agree m ws k n
unfolding Agree
agree_left m ws vs k n u f j w = u j w ∙ member-append j ws vs ∙ ap (λ b. member j ws || b) (never (member j vs) (λ t. f j t w)) ∙ or-false (member j ws)

agree_right : (m ws vs : List ℕ) (k n : ℕ) → Agree m (ws ++ vs) k n → ((j : ℕ) → T (member j ws) → In k n j → ⊥) → Agree m vs k n
unfolding Agree
agree_right m ws vs k n u f j w = u j w ∙ member-append j ws vs ∙ ap (λ b. b || member j vs) (never (member j ws) (λ t. f j t w))

-- where waiting places lie on one side, the other is clean
module _ (m ws : List ℕ) (k : ℕ) (p q : Tree) (u : Agree m ws k (1 + (span_of p + span_of q))) where
  right-clean : Program q → Placed (k + 1 + span_of p) q → ((j : ℕ) → T (member j ws) → In (k + 1) (span_of p) j) → Clean m q
  right-clean h l f = clean m (k + 1 + span_of p) q h l (elsewhere m ws k (1 + (span_of p + span_of q)) (k + 1 + span_of p) (span_of q) u (λ j t w. apart (f j t) w (omega arith)) (omega arith) (omega arith))

  left-clean : Program p → Placed (k + 1) p → ((j : ℕ) → T (member j ws) → In (k + 1 + span_of p) (span_of q) j) → Clean m p
  left-clean h l f = clean m (k + 1) p h l (elsewhere m ws k (1 + (span_of p + span_of q)) (k + 1) (span_of p) u (λ j t w. apart w (f j t) (omega arith)) (omega arith) (omega arith))

  left-part : Agree m ws (k + 1) (span_of p)
  left-part = agree-part m ws k (1 + (span_of p + span_of q)) (k + 1) (span_of p) (omega arith) (omega arith) u

  right-part : Agree m ws (k + 1 + span_of p) (span_of q)
  right-part = agree-part m ws k (1 + (span_of p + span_of q)) (k + 1 + span_of p) (span_of q) (omega arith) (omega arith) u

whole_again : (m : List ℕ) (k : ℕ) (t : Tree) → Program t → Placed k t → T (blocked 0 t) → Agree m (waits t) k (span_of t) → Reads m t t
unfolding Program Placed span_of rest_of blocked waits misfits
whole_again m k (nop i) h l b u = absurd b
whole_again m k (act i a v z) h l b u = absurd b
whole_again m k (await i s e) h l b u = record { is = here m k i 0 (await i s e) l u; fits = refl }
whole_again m k (emit i e y) h l b u = absurd b
whole_again m k (break i) h l b u = absurd b
whole_again m k (ifvar i v p q) h l b u = absurd b
whole_again m k (seq i p q) h l b u =
    let x = whole_again m (k + 1) p h.0 l.1 b (left-part m (waits p) k p q u) in
    let y = right-clean m (waits p) k p q u h.1 l.2 (λ j t. whole_in (k + 1) j p h.0 l.1 t) in
    record { is = rw x.is; fits = rw (x.is, y.nothing, x.fits, y.fits) }
whole_again m k (loop i p) h l b u = absurd b
whole_again m k (every i s e p) h l b u = record { is = here m k i (span_of p) (every i s e p) l.0 u; fits = refl }
whole_again m k (par i o p q) h l b u = absurd b
whole_again m k (fin i p) h l b u = record { is = here m k i (span_of p) (fin i p) l.0 u; fits = refl }
whole_again m k (canrun i x) h l b u = absurd h
whole_again m k (at_loop i p q) h l b u = absurd h
whole_again m k (at_par i o p q) h l b u = absurd h

-- a tree at rest is read again from marks that are its waiting places
pub again : (m : List ℕ) (k : ℕ) {t r : Tree} → Left t r → Program t → Placed k t → NoRun r → T (blocked 0 r) → Agree m (waits r) k (span_of t) → Reads m t r
unfolding Program Placed span_of rest_of blocked waits NoRun misfits
again m k (whole {t = t}) h l o b u = whole_again m k t h l b u
again m k (tidy {c = c} x) h l o b u = absurd (calm-open 0 c x b)
again m k breaking h l o b u = absurd b
again m k (leaving {c = c} x) h l o b u = absurd (calm-open 0 c x b)
again m k (seq_l {p = p} {q = q} {r = r} x) h l o b u =
    let y = again m (k + 1) x h.0 l.1 o b (left-part m (waits r) k p q u) in
    let z = right-clean m (waits r) k p q u h.1 l.2 (λ j t. waits_in (k + 1) j x h.0 l.1 t) in
    record { is = rw y.is; fits = rw (y.is, z.nothing, y.fits, z.fits) }
again m k (seq_r {p = p} {q = q} {r = r} x) h l o b u =
    let y = again m (k + 1 + span_of p) x h.1 l.2 o b (right-part m (waits r) k p q u) in
    let z = left-clean m (waits r) k p q u h.0 l.1 (λ j t. waits_in (k + 1 + span_of p) j x h.1 l.2 t) in
    record { is = rw (z.nothing, y.is); fits = rw (z.nothing, y.fits, z.fits) }
again m k (if_l {p = p} {q = q} {r = r} x) h l o b u =
    let y = again m (k + 1) x h.0 l.1 o b (left-part m (waits r) k p q u) in
    let z = right-clean m (waits r) k p q u h.1 l.2 (λ j t. waits_in (k + 1) j x h.0 l.1 t) in
    record { is = rw y.is; fits = rw (y.is, z.nothing, y.fits, z.fits) }
again m k (if_r {p = p} {q = q} {r = r} x) h l o b u =
    let y = again m (k + 1 + span_of p) x h.1 l.2 o b (right-part m (waits r) k p q u) in
    let z = left-clean m (waits r) k p q u h.0 l.1 (λ j t. waits_in (k + 1 + span_of p) j x h.1 l.2 t) in
    record { is = rw (z.nothing, y.is); fits = rw (z.nothing, y.fits, z.fits) }
again m k (loop_in {p = p} {r = r} x) h l o b u =
    let y = again m (k + 1) x h l.1 o b (agree-part m (waits r) k (1 + span_of p) (k + 1) (span_of p) (omega arith) (omega arith) u) in
    record { is = rw y.is; fits = y.fits }
again m k (par_both {i = i} {o = j} {p = p} {q = q} {r = r} {u = v} x y) h l o b u =
    let up = left-part m (waits r ++ waits v) k p q u in
    let uq = right-part m (waits r ++ waits v) k p q u in
    let a = again m (k + 1) x h.0 l.1 o.0 (both_left (blocked 0 r) (blocked 0 v) b) (agree_left m (waits r) (waits v) (k + 1) (span_of p) up (λ j t w. apart w (waits_in (k + 1 + span_of p) j y h.1 l.2 t) (omega arith))) in
    let c = again m (k + 1 + span_of p) y h.1 l.2 o.1 (both_right (blocked 0 r) (blocked 0 v) b) (agree_right m (waits r) (waits v) (k + 1 + span_of p) (span_of q) uq (λ j t w. apart (waits_in (k + 1) j x h.0 l.1 t) w (omega arith))) in
    record { is = rw (a.is, c.is); fits = rw (a.is, c.is, a.fits, c.fits, both-both i j) }
again m k (par_l {p = p} {q = q} {r = r} x) h l o b u =
    let y = again m (k + 1) x h.0 l.1 o b (left-part m (waits r) k p q u) in
    let z = right-clean m (waits r) k p q u h.1 l.2 (λ j t. waits_in (k + 1) j x h.0 l.1 t) in
    record { is = rw (y.is, z.nothing); fits = rw (y.fits, z.fits) }
again m k (par_r {p = p} {q = q} {r = r} x) h l o b u =
    let y = again m (k + 1 + span_of p) x h.1 l.2 o b (right-part m (waits r) k p q u) in
    let z = left-clean m (waits r) k p q u h.0 l.1 (λ j t. waits_in (k + 1 + span_of p) j x h.1 l.2 t) in
    record { is = rw (z.nothing, y.is); fits = rw (y.fits, z.fits) }
again m k ready h l o b u = absurd o
again m k awaited h l o b u = absurd b
again m k (every_on {c = c} x) h l o b u = absurd (calm-open 0 c x b)
again m k sent h l o b u = absurd o
