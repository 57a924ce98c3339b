-- At rest states are marks: marks that fit show the tree at rest, and a blocked tree shown is read off its states.
use Rattle.std.specs.Prelude.{◌≡◌, Bool, true, false, ◌&&◌, ◌||◌, List, [], ◌∷◌, ◌++◌, ℕ, eqb, ltb, T, get_or, if◌then◌else◌}
use Rattle.std.proofs.Math.Path.{refl}
use Rattle.std.proofs.Common.{sym, ap, subst, ◌∙◌, arith, eqb→eq, le-ltb}
use Rattle.std.proofs.Math.Bool.{or-false}
use Rattle.std.proofs.Math.Option.{Option, none, some}
use Rattle.std.proofs.Math.Dec as Dec'
use Rattle.rules.specs.Stages.{is_some}
use Rattle.rules.specs.Tree.{Par, Source, Tree, act, and, at_loop, at_par, await, break, canrun, emit, every, fin, ifvar, loop, nop, or, par, seq, span_of}
use Rattle.rules.specs.Marks.{at_rest, marked, misfit, misfits, or_nop, par_misfit, rest_if, rest_loop, rest_of, rest_par, rest_seq, waits}
use Rattle.rules.specs.Step.{blocked}
use Rattle.theory.specs.Logic.{clash, both_left, both_right, or_cases, never, T→true}
use Rattle.theory.specs.Program.{Calm}
use Rattle.theory.specs.Residue.{calm-open}
use Rattle.theory.specs.Again.{member, member-one, member-append}
use Rattle.theory.specs.Decode.{Waiting}
use Rattle.theory.specs.Marks.{parts}
use Rattle.theory.specs.WrittenMarks.{bit}
use Rattle.theory.specs.Sound.{Sound}
use Rattle.theory.specs.Frame.{Lies, own, left, right, lies, At, Blank, Same, Part, Leaf, Stem, Fork, Laid, blank-same, part_at, leaf-own, leaf-blank, stem-own, stem-blank, body-part, body-off, fork-own, fork-blank, left-part, right-part, left-off, right-off, left-right, right-left}
use Rattle.theory.specs.Shows.{Shows, await-waits, await-woken, emit-turn, if-left, if-right, seq-left, seq-right, loop-in, every-waits, every-woken, fin-waits, par-both, and_left, and_right, par-held, and-turn, shows_same}

-- the states of a whole program: live, or it has ended
pub data Stands (l : List ℕ) (p : Tree) : Tree → Type 0 where
  lives : {u : Tree} → Shows l p u → Stands l p u
  over : {i : ℕ} → Blank l p → Stands l p (nop i)

pub stands_same : {p u : Tree} {l l' : List ℕ} → Laid p → Same p l l' → Stands l p u → Stands l' p u
stands_same z s (lives a) = lives (shows_same z s a)
stands_same z s (over b) = over (blank-same s b)

-- ---- from marks to states

-- of each place a mark is 0, or 1 where a test allows it
abbrev pub Marked : (ℕ → Bool) → List ℕ → Tree → Type 0
Marked f m t = (j : ℕ) → At t j → T (eqb (get_or m j 0) 0 || (eqb (get_or m j 0) 1 && f j))

abbrev Rested : List ℕ → Tree → Option Tree → Type 0
Rested m t none = Blank m t
Rested m t (some u) = Shows m t u

module _ (f : ℕ → Bool) (m : List ℕ) where
  -- no mark where none is allowed
  unmarked : (i : ℕ) → T (eqb (get_or m i 0) 0 || (eqb (get_or m i 0) 1 && f i)) → f i ≡ false → get_or m i 0 ≡ 0
  unmarked i t e = or_cases (eqb (get_or m i 0) 0) (eqb (get_or m i 0) 1 && f i) (λ x. eqb→eq (get_or m i 0) 0 x) (λ x. absurd (subst T e (both_right (eqb (get_or m i 0) 1) (f i) x))) t

  not-one : (i : ℕ) → T (eqb (get_or m i 0) 0 || (eqb (get_or m i 0) 1 && f i)) → marked m i ≡ false → get_or m i 0 ≡ 0
  not-one i t e = or_cases (eqb (get_or m i 0) 0) (eqb (get_or m i 0) 1 && f i) (λ x. eqb→eq (get_or m i 0) 0 x) (λ x. absurd (subst T e (both_left (eqb (get_or m i 0) 1) (f i) x))) t

  is_one : (i : ℕ) → marked m i ≡ true → get_or m i 0 ≡ 1
  is_one i e = eqb→eq (get_or m i 0) 1 (subst T (sym e) tt)

  part-marked : {p t : Tree} → Part p t → Marked f m t → Marked f m p
  part-marked z g j h = g j (part_at z j h)

  -- a calm tree has no marks
  calm-blank : (t : Tree) → Calm t → Laid t → Waiting f t → Marked f m t → Blank m t
  unfolding Calm Laid Waiting
  calm-blank (nop i) c z w g = leaf-blank z (unmarked i (g i (leaf-own z)) w)
  calm-blank (act i a v k) c z w g = leaf-blank z (unmarked i (g i (leaf-own z)) w)
  calm-blank (await i s e) c z w g = absurd c
  calm-blank (emit i e y) c z w g = absurd c
  calm-blank (break i) c z w g = absurd c
  calm-blank (ifvar i v p q) c z w g =
      fork-blank z.0 (unmarked i (g i (fork-own z.0)) w.0) (calm-blank p c.0 z.1 w.1 (part-marked (left-part z.0) g)) (calm-blank q c.1 z.2 w.2 (part-marked (right-part z.0) g))
  calm-blank (seq i p q) c z w g =
      fork-blank z.0 (unmarked i (g i (fork-own z.0)) w.0) (calm-blank p c.0 z.1 w.1 (part-marked (left-part z.0) g)) (calm-blank q c.1 z.2 w.2 (part-marked (right-part z.0) g))
  calm-blank (loop i p) c z w g = absurd c
  calm-blank (every i s e p) c z w g = absurd c
  calm-blank (par i o p q) c z w g = absurd c
  calm-blank (fin i p) c z w g = absurd c
  calm-blank (canrun i k) c z w g = absurd c
  calm-blank (at_loop i p q) c z w g = absurd c
  calm-blank (at_par i o p q) c z w g = absurd c

  await-rested : {i e : ℕ} {s : Source} → Leaf (await i s e) i → Marked f m (await i s e) → (b : Bool) → marked m i ≡ b → Rested m (await i s e) (if b then some (await i s e) else none)
  await-rested {i} z g true h = await-waits (is_one i h)
  await-rested {i} z g false h = leaf-blank z (not-one i (g i (leaf-own z)) h)

  every-rested : {i e : ℕ} {s : Source} {p : Tree} → Stem (every i s e p) i p → Blank m p → Marked f m (every i s e p) → (b : Bool) → marked m i ≡ b → Rested m (every i s e p) (if b then some (every i s e p) else none)
  every-rested {i} z a g true h = every-waits (is_one i h) a
  every-rested {i} z a g false h = stem-blank z (not-one i (g i (stem-own z)) h) a

  fin-rested : {i : ℕ} {p : Tree} → Stem (fin i p) i p → Blank m p → Marked f m (fin i p) → (b : Bool) → marked m i ≡ b → Rested m (fin i p) (if b then some (fin i p) else none)
  fin-rested {i} z a g true h = fin-waits (is_one i h) a
  fin-rested {i} z a g false h = stem-blank z (not-one i (g i (stem-own z)) h) a

  if-rested : {i v : ℕ} {p q : Tree} → Fork (ifvar i v p q) i p q → get_or m i 0 ≡ 0 → (a b : Option Tree) → misfit i (is_some a && is_some b) ≡ [] → Rested m p a → Rested m q b → Rested m (ifvar i v p q) (rest_if a b)
  if-rested z e none none n a b = fork-blank z e a b
  if-rested z e none (some u) n a b = if-right e a b
  if-rested z e (some u) none n a b = if-left e a b
  if-rested z e (some u) (some v) n a b = clash (cc)

  seq-rested : {i : ℕ} {p q : Tree} → Fork (seq i p q) i p q → get_or m i 0 ≡ 0 → (a b : Option Tree) → misfit i (is_some a && is_some b) ≡ [] → Rested m p a → Rested m q b → Rested m (seq i p q) (rest_seq i a q b)
  seq-rested z e none none n a b = fork-blank z e a b
  seq-rested z e none (some u) n a b = seq-right e a b
  seq-rested z e (some u) none n a b = seq-left e a b
  seq-rested z e (some u) (some v) n a b = clash (cc)

  loop-rested : {i : ℕ} {p : Tree} → Stem (loop i p) i p → get_or m i 0 ≡ 0 → (a : Option Tree) → Rested m p a → Rested m (loop i p) (rest_loop i p a)
  loop-rested z e none a = stem-blank z e a
  loop-rested z e (some u) a = loop-in e a

  par-rested : {i : ℕ} (c : Par) {p q : Tree} → Fork (par i c p q) i p q → get_or m i 0 ≡ 0 → (a b : Option Tree) → par_misfit i c (is_some a) (is_some b) ≡ [] → Rested m p a → Rested m q b → Rested m (par i c p q) (rest_par i c a b)
  par-rested c z e none none n a b = fork-blank z e a b
  par-rested and z e none (some u) n a b = and_right e a b
  par-rested or z e none (some u) n a b = clash (cc)
  par-rested and z e (some u) none n a b = and_left e a b
  par-rested or z e (some u) none n a b = clash (cc)
  par-rested c z e (some u) (some v) n a b = par-both e a b

  rested : (t : Tree) → Sound t → Laid t → Waiting f t → Marked f m t → misfits m t ≡ [] → Rested m t (rest_of m t)
  unfolding Sound Laid Waiting misfits rest_of
  rested (nop i) k z w g n = leaf-blank z (unmarked i (g i (leaf-own z)) w)
  rested (act i a v c) k z w g n = leaf-blank z (unmarked i (g i (leaf-own z)) w)
  rested (await i s e) k z w g n = await-rested z g (marked m i) refl
  rested (emit i e y) k z w g n = leaf-blank z (unmarked i (g i (leaf-own z)) w)
  rested (break i) k z w g n = leaf-blank z (unmarked i (g i (leaf-own z)) w)
  rested (ifvar i v p q) k z w g n =
      let x = parts m (misfit i (is_some (rest_of m p) && is_some (rest_of m q))) p q n in
      if-rested z.0 (unmarked i (g i (fork-own z.0)) w.0) (rest_of m p) (rest_of m q) x.here (rested p k.0 z.1 w.1 (part-marked (left-part z.0) g) x.left) (rested q k.1 z.2 w.2 (part-marked (right-part z.0) g) x.right)
  rested (seq i p q) k z w g n =
      let x = parts m (misfit i (is_some (rest_of m p) && is_some (rest_of m q))) p q n in
      seq-rested z.0 (unmarked i (g i (fork-own z.0)) w.0) (rest_of m p) (rest_of m q) x.here (rested p k.0 z.1 w.1 (part-marked (left-part z.0) g) x.left) (rested q k.1 z.2 w.2 (part-marked (right-part z.0) g) x.right)
  rested (loop i p) k z w g n = loop-rested z.0 (unmarked i (g i (stem-own z.0)) w.0) (rest_of m p) (rested p k.1 z.1 w.1 (part-marked (body-part z.0) g) n)
  rested (every i s e p) k z w g n = every-rested z.0 (calm-blank p k.1 z.1 w.1 (part-marked (body-part z.0) g)) g (marked m i) refl
  rested (par i c p q) k z w g n =
      let x = parts m (par_misfit i c (is_some (rest_of m p)) (is_some (rest_of m q))) p q n in
      par-rested c z.0 (unmarked i (g i (fork-own z.0)) w.0) (rest_of m p) (rest_of m q) x.here (rested p k.0 z.1 w.1 (part-marked (left-part z.0) g) x.left) (rested q k.1 z.2 w.2 (part-marked (right-part z.0) g) x.right)
  rested (fin i p) k z w g n = fin-rested z.0 (calm-blank p k z.1 w.1 (part-marked (body-part z.0) g)) g (marked m i) refl
  rested (canrun i c) k z w g n = absurd k
  rested (at_loop i p q) k z w g n = absurd k
  rested (at_par i c p q) k z w g n = absurd k

  -- marks that fit show the tree at rest
  pub marks-stand : (t : Tree) → Sound t → Laid t → Waiting f t → Marked f m t → misfits m t ≡ [] → Stands m t (at_rest m t)
  unfolding at_rest
  marks-stand t k z w g n = go (rest_of m t) (rested t k z w g n)
    where
      go : (o : Option Tree) → Rested m t o → Stands m t (or_nop o)
      go none a = over a
      go (some u) a = lives a

-- ---- from states to marks

fork-cases {ℓ} : {A : Type ℓ} {t p q : Tree} {i : ℕ} → Fork t i p q → (j : ℕ) → At t j → (j ≡ i → A) → (At p j → A) → (At q j → A) → A
fork-cases {A = A} {p = p} {q = q} {i = i} z j h a b c = go (lies i (span_of p) (span_of q) j (record { above = omega (arith, h.above); below = omega (arith, h.below) }))
  where
    go : Lies i (span_of p) (span_of q) j → A
    go (own x) = a x
    go (left w) = b (record { above = omega (arith, w.above); below = omega (arith, w.below) })
    go (right w) = c (record { above = omega (arith, w.above); below = omega (arith, w.below) })

stem-cases {ℓ} : {A : Type ℓ} {t p : Tree} {i : ℕ} → Stem t i p → (j : ℕ) → At t j → (j ≡ i → A) → (At p j → A) → A
stem-cases {A = A} {p = p} {i = i} z j h a b = go (lies i (span_of p) 0 j (record { above = omega (arith, h.above); below = omega (arith, h.below) }))
  where
    go : Lies i (span_of p) 0 j → A
    go (own x) = a x
    go (left w) = b (record { above = omega (arith, w.above); below = omega (arith, w.below) })
    go (right w) = absurd (omega (arith, w.above, w.below))

no-low : (m : ℕ) → T (ltb m 0) → ⊥
no-low m h = subst T (le-ltb m 0 (omega arith)) h

-- a blocked tree waits at places of its own
waits-at : (a : Tree) {u : Tree} {l : List ℕ} → Sound a → Laid a → Shows l a u → T (blocked 0 u) → (j : ℕ) → T (member j (waits u)) → At a j
unfolding Sound Laid blocked waits
waits-at (await i s e) k z (await-waits h) c j t = rw (member-one j i t) (leaf-own z)
waits-at (await i s e) k z (await-woken h) c j t = absurd c
waits-at (emit i e y) k z (emit-turn {m = m} h) c j t = absurd (no-low m c)
waits-at (ifvar i v p q) k z (if-left h a b) c j t = part_at (left-part z.0) j (waits-at p k.0 z.1 a c j t)
waits-at (ifvar i v p q) k z (if-right h a b) c j t = part_at (right-part z.0) j (waits-at q k.1 z.2 b c j t)
waits-at (seq i p q) k z (seq-left h a b) c j t = part_at (left-part z.0) j (waits-at p k.0 z.1 a c j t)
waits-at (seq i p q) k z (seq-right h a b) c j t = part_at (right-part z.0) j (waits-at q k.1 z.2 b c j t)
waits-at (loop i p) k z (loop-in h a) c j t = part_at (body-part z.0) j (waits-at p k.1 z.1 a c j t)
waits-at (every i s e p) k z (every-waits h b) c j t = rw (member-one j i t) (stem-own z.0)
waits-at (every i s e p) k z (every-woken h b) c j t = absurd (calm-open 0 p k.1 c)
waits-at (par i o p q) k z (par-both {u = u} {v = v} h a b) c j t =
    or_cases (member j (waits u)) (member j (waits v))
    (λ x. part_at (left-part z.0) j (waits-at p k.0 z.1 a (both_left (blocked 0 u) (blocked 0 v) c) j x))
    (λ x. part_at (right-part z.0) j (waits-at q k.1 z.2 b (both_right (blocked 0 u) (blocked 0 v) c) j x))
    (subst T (member-append j (waits u) (waits v)) t)
waits-at (par i and p q) k z (and_left h a b) c j t = part_at (left-part z.0) j (waits-at p k.0 z.1 a c j t)
waits-at (par i and p q) k z (and_right h a b) c j t = part_at (right-part z.0) j (waits-at q k.1 z.2 b c j t)
waits-at (par i o p q) k z (par-held {m = m} {u = u} h a b) c j t = absurd (no-low m (both_right (blocked 0 u) (ltb m 0) c))
waits-at (par i and p q) k z (and-turn {m = m} h a b) c j t = absurd (no-low m c)
waits-at (fin i p) k z (fin-waits h b) c j t = rw (member-one j i t) (stem-own z.0)
waits-at (nop _) {u = u} {l = l} k z x6 c j t = elim x6 [ ]
waits-at (act _ _ _ _) {u = u} {l = l} k z x10 c j t = elim x10 [ ]
waits-at (break _) {u = u} {l = l} k z x8 c j t = elim x8 [ ]
waits-at (canrun _ _) {u = u} {l = l} k z _ c j t = elim k [ ]
waits-at (at_loop _ _ _) {u = u} {l = l} k z _ c j t = elim k [ ]
waits-at (at_par _ _ _ _) {u = u} {l = l} k z _ c j t = elim k [ ]

module _ (l : List ℕ) (j : ℕ) where
  -- the state at j is the mark that a list of places says
  abbrev MarkIs : List ℕ → Type 0
  MarkIs ws = get_or l j 0 ≡ bit (member j ws)

  off : (ws : List ℕ) → get_or l j 0 ≡ 0 → (T (member j ws) → ⊥) → MarkIs ws
  off ws e h = e ∙ ap bit (sym (never (member j ws) h))

  on : (i : ℕ) → get_or l i 0 ≡ 1 → j ≡ i → MarkIs (i ∷ [])
  unfolding member
  on i e x = rw (x, e, T→true (eqb i i) (Dec'.eqb_refl i))

  waiter : {t p : Tree} {i : ℕ} → Stem t i p → get_or l i 0 ≡ 1 → Blank l p → At t j → MarkIs (i ∷ [])
  waiter {i = i} z e b h = stem-cases z j h (on i e) (λ x. off (i ∷ []) (b.zero-at j x) (λ t. body-off z (rw (member-one j i t) at x)))

  -- one side lives
  module _ {t p q : Tree} {i : ℕ} (z : Fork t i p q) (e : get_or l i 0 ≡ 0) (h : At t j) (ws : List ℕ) where
    at_own : j ≡ i → get_or l j 0 ≡ 0
    at_own x = rw x e

    left-marks : Blank l q → (T (member j ws) → At p j) → (At p j → MarkIs ws) → MarkIs ws
    left-marks b f g = fork-cases z j h (λ x. off ws (at_own x) (λ t. left-off z (rw x at (f t)))) g (λ x. off ws (b.zero-at j x) (λ t. (left-right z).disjoint j (f t) x))

    right-marks : Blank l p → (T (member j ws) → At q j) → (At q j → MarkIs ws) → MarkIs ws
    right-marks b f g = fork-cases z j h (λ x. off ws (at_own x) (λ t. right-off z (rw x at (f t)))) (λ x. off ws (b.zero-at j x) (λ t. (right-left z).disjoint j (f t) x)) g

  -- both live
  both-marks : {t p q : Tree} {i : ℕ} (z : Fork t i p q) → get_or l i 0 ≡ 0 → At t j → (ws vs : List ℕ) → (T (member j ws) → At p j) → (T (member j vs) → At q j) → (At p j → MarkIs ws) → (At q j → MarkIs vs) → MarkIs (ws ++ vs)
  both-marks z e h ws vs f g a b =
      fork-cases z j h
      (λ x. off (ws ++ vs) (rw x e) (λ t. or_cases (member j ws) (member j vs) (λ y. left-off z (rw x at (f y))) (λ y. right-off z (rw x at (g y))) (subst T (member-append j ws vs) t)))
      (λ x. a x ∙ ap bit (sym (member-append j ws vs ∙ ap (λ (c : Bool). member j ws || c) (never (member j vs) (λ y. (left-right z).disjoint j x (g y))) ∙ or-false (member j ws))))
      (λ x. b x ∙ ap bit (sym (member-append j ws vs ∙ ap (λ (c : Bool). c || member j vs) (never (member j ws) (λ y. (left-right z).disjoint j (f y) x)))))

-- the states of a blocked tree are its marks
pub shows-marks : (a : Tree) {u : Tree} (l : List ℕ) → Sound a → Laid a → Shows l a u → T (blocked 0 u) → (j : ℕ) → At a j → get_or l j 0 ≡ bit (member j (waits u))
unfolding Sound Laid blocked waits
shows-marks (await i s e) l k z (await-waits h) c j x = on l j i h (omega (arith, x.above, x.below, z.own-place, z.own-span))
shows-marks (await i s e) l k z (await-woken h) c j x = absurd c
shows-marks (emit i e y) l k z (emit-turn {m = m} h) c j x = absurd (no-low m c)
shows-marks (ifvar i v p q) l k z (if-left {u = u} h a b) c j x = left-marks l j z.0 h x (waits u) b (waits-at p k.0 z.1 a c j) (shows-marks p l k.0 z.1 a c j)
shows-marks (ifvar i v p q) l k z (if-right {u = u} h a b) c j x = right-marks l j z.0 h x (waits u) a (waits-at q k.1 z.2 b c j) (shows-marks q l k.1 z.2 b c j)
shows-marks (seq i p q) l k z (seq-left {u = u} h a b) c j x = left-marks l j z.0 h x (waits u) b (waits-at p k.0 z.1 a c j) (shows-marks p l k.0 z.1 a c j)
shows-marks (seq i p q) l k z (seq-right {u = u} h a b) c j x = right-marks l j z.0 h x (waits u) a (waits-at q k.1 z.2 b c j) (shows-marks q l k.1 z.2 b c j)
shows-marks (loop i p) l k z (loop-in {u = u} h a) c j x =
    stem-cases z.0 j x (λ y. off l j (waits u) (rw y h) (λ t. body-off z.0 (rw y at (waits-at p k.1 z.1 a c j t)))) (shows-marks p l k.1 z.1 a c j)
shows-marks (every i s e p) l k z (every-waits h b) c j x = waiter l j z.0 h b x
shows-marks (every i s e p) l k z (every-woken h b) c j x = absurd (calm-open 0 p k.1 c)
shows-marks (par i o p q) l k z (par-both {u = u} {v = v} h a b) c j x =
    let cu = both_left (blocked 0 u) (blocked 0 v) c in
    let cv = both_right (blocked 0 u) (blocked 0 v) c in
    both-marks l j z.0 h x (waits u) (waits v) (waits-at p k.0 z.1 a cu j) (waits-at q k.1 z.2 b cv j) (shows-marks p l k.0 z.1 a cu j) (shows-marks q l k.1 z.2 b cv j)
shows-marks (par i and p q) l k z (and_left {u = u} h a b) c j x = left-marks l j z.0 h x (waits u) b (waits-at p k.0 z.1 a c j) (shows-marks p l k.0 z.1 a c j)
shows-marks (par i and p q) l k z (and_right {u = u} h a b) c j x = right-marks l j z.0 h x (waits u) a (waits-at q k.1 z.2 b c j) (shows-marks q l k.1 z.2 b c j)
shows-marks (par i o p q) l k z (par-held {m = m} {u = u} h a b) c j x = absurd (no-low m (both_right (blocked 0 u) (ltb m 0) c))
shows-marks (par i and p q) l k z (and-turn {m = m} h a b) c j x = absurd (no-low m c)
shows-marks (fin i p) l k z (fin-waits h b) c j x = waiter l j z.0 h b x
shows-marks (nop _) {u = u} l k z x7 c j x = elim x7 [ ]
shows-marks (act _ _ _ _) {u = u} l k z x11 c j x = elim x11 [ ]
shows-marks (break _) {u = u} l k z x9 c j x = elim x9 [ ]
shows-marks (canrun _ _) {u = u} l k z _ c j x = elim k [ ]
shows-marks (at_loop _ _ _) {u = u} l k z _ c j x = elim k [ ]
shows-marks (at_par _ _ _ _) {u = u} l k z _ c j x = elim k [ ]
