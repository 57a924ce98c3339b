-- Marks that stage 8 lets pass are the marks of the tree that is read from them.
use Rattle.std.specs.Prelude.{◌≡◌, refl, Bool, true, false, ◌&&◌, ◌||◌, List, [], ◌∷◌, ◌++◌, ℕ, suc, ◌+◌, ◌<◌, eqb, T, length, get_or, if◌then◌else◌}
use Rattle.std.proofs.Common.{sym, ap, subst, ◌∙◌, arith, eqb→eq, eqb-true}
use Rattle.std.proofs.Math.Option.{Option, none, some}
use Rattle.rules.specs.Stages.{first_refusal}
use Rattle.rules.specs.Limits.{Announced}
use Rattle.rules.specs.Tree.{Tree, act, at_loop, at_par, await, break, canrun, emit, every, fin, ifvar, loop, nop, par, seq, span_of}
use Rattle.rules.specs.Table.{program_of, records_of}
use Rattle.rules.specs.Check.{accepted, check}
use Rattle.rules.specs.Marks.{at_rest, marked, marks_of, marks_stages, or_nop, rest_of, waits}
use Rattle.theory.specs.Logic.{both_left, both_right, or_cases, T→true}
use Rattle.theory.specs.Program.{Program, Calm, Good}
use Rattle.theory.specs.Again.{Placed, member, member-here, member-left, member_right, In}
use Rattle.theory.specs.Marks.{spots, kept, waits_o, waits-rest}
use Rattle.theory.specs.Frame.{Lies, own, left, right, lies}
use Rattle.theory.specs.WrittenMarks.{bit, written, written-length}
use Rattle.theory.specs.Decode.{Waiting, markable}
use Rattle.theory.proofs.Accepted.{accepts, marks-pass}

one : (k j : ℕ) → In k 1 j → j ≡ k
one k j w = omega (arith, w.above, w.below)

module _ (f : ℕ → Bool) (j : ℕ) where
  off : (i k : ℕ) → i ≡ k → j ≡ k → f i ≡ false → f j ≡ false
  off i k e h g = ap f (h ∙ sym e) ∙ g

  two-off : (i k n m : ℕ) → i ≡ k → f i ≡ false → Lies k n m j → (In (k + 1) n j → f j ≡ false) → (In (k + 1 + n) m j → f j ≡ false) → f j ≡ false
  two-off i k n m e g (own h) a b = off i k e h g
  two-off i k n m e g (left w) a b = a w
  two-off i k n m e g (right w) a b = b w

  -- nothing in a calm tree may be marked
  calm-off : (k : ℕ) (t : Tree) → Calm t → Placed k t → Waiting f t → In k (span_of t) j → f j ≡ false
  unfolding Calm Placed Waiting span_of
  calm-off k (nop i) c l w r = off i k l (one k j r) w
  calm-off k (act i a v z) c l w r = off i k l (one k j r) w
  calm-off k (await i s e) c l w r = absurd c
  calm-off k (emit i e y) c l w r = absurd c
  calm-off k (break i) c l w r = absurd c
  calm-off k (ifvar i v p q) c l w r = two-off i k (span_of p) (span_of q) l.0 w.0 (lies k (span_of p) (span_of q) j r) (calm-off (k + 1) p c.0 l.1 w.1) (calm-off (k + 1 + span_of p) q c.1 l.2 w.2)
  calm-off k (seq i p q) c l w r = two-off i k (span_of p) (span_of q) l.0 w.0 (lies k (span_of p) (span_of q) j r) (calm-off (k + 1) p c.0 l.1 w.1) (calm-off (k + 1 + span_of p) q c.1 l.2 w.2)
  calm-off k (loop i p) c l w r = absurd c
  calm-off k (every i s e p) c l w r = absurd c
  calm-off k (par i o p q) c l w r = absurd c
  calm-off k (fin i p) c l w r = absurd c
  calm-off k (canrun i n) c l w r = absurd c
  calm-off k (at_loop i p q) c l w r = absurd c
  calm-off k (at_par i o p q) c l w r = absurd c

  here : (i k : ℕ) → i ≡ k → j ≡ k → T (member j (i ∷ []))
  here i k e h = subst (λ x. T (member j (x ∷ []))) (h ∙ sym e) (member-here j [])

  none_here {ℓ} : {A : Type ℓ} (i k : ℕ) → i ≡ k → j ≡ k → f i ≡ false → T (f j) → A
  none_here i k e h g t = absurd (subst T (off i k e h g) t)

  two-spots : (i k n m : ℕ) (a b : List ℕ) → i ≡ k → f i ≡ false → T (f j) → Lies k n m j → (In (k + 1) n j → T (member j a)) → (In (k + 1 + n) m j → T (member j b)) → T (member j (a ++ b))
  two-spots i k n m a b e g t (own h) x y = none_here i k e h g t
  two-spots i k n m a b e g t (left w) x y = member-left j a b (x w)
  two-spots i k n m a b e g t (right w) x y = member_right j a b (y w)

  body-spot : (i k n : ℕ) (a : List ℕ) → i ≡ k → f i ≡ false → T (f j) → Lies k n 0 j → (In (k + 1) n j → T (member j a)) → T (member j a)
  body-spot i k n a e g t (own h) x = none_here i k e h g t
  body-spot i k n a e g t (left w) x = x w
  body-spot i k n a e g t (right w) x = absurd (omega (arith, w.above, w.below))

  waiter : (i k : ℕ) (p : Tree) → i ≡ k → Calm p → Placed (k + 1) p → Waiting f p → T (f j) → Lies k (span_of p) 0 j → T (member j (i ∷ []))
  waiter i k p e c l w t (own h) = here i k e h
  waiter i k p e c l w t (left r) = absurd (subst T (calm-off (k + 1) p c l w r) t)
  waiter i k p e c l w t (right r) = absurd (omega (arith, r.above, r.below))

  wide : (k n : ℕ) → In k (1 + n) j → In k (1 + (n + 0)) j
  wide k n r = record { above = r.above; below = omega (arith, r.below) }

  -- a place that may be marked is an await, an every or a fin
  spot : (k : ℕ) (t : Tree) → Program t → Good t → Placed k t → Waiting f t → In k (span_of t) j → T (f j) → T (member j (spots t))
  unfolding Program Good Placed Waiting span_of spots
  spot k (nop i) h g l w r t = none_here i k l (one k j r) w t
  spot k (act i a v z) h g l w r t = none_here i k l (one k j r) w t
  spot k (await i s e) h g l w r t = here i k l (one k j r)
  spot k (emit i e y) h g l w r t = none_here i k l (one k j r) w t
  spot k (break i) h g l w r t = none_here i k l (one k j r) w t
  spot k (ifvar i v p q) h g l w r t = two-spots i k (span_of p) (span_of q) (spots p) (spots q) l.0 w.0 t (lies k (span_of p) (span_of q) j r) (λ x. spot (k + 1) p h.0 g.0 l.1 w.1 x t) (λ x. spot (k + 1 + span_of p) q h.1 g.1 l.2 w.2 x t)
  spot k (seq i p q) h g l w r t = two-spots i k (span_of p) (span_of q) (spots p) (spots q) l.0 w.0 t (lies k (span_of p) (span_of q) j r) (λ x. spot (k + 1) p h.0 g.0 l.1 w.1 x t) (λ x. spot (k + 1 + span_of p) q h.1 g.1 l.2 w.2 x t)
  spot k (loop i p) h g l w r t = body-spot i k (span_of p) (spots p) l.0 w.0 t (lies k (span_of p) 0 j (wide k (span_of p) r)) (λ x. spot (k + 1) p h g.0 l.1 w.1 x t)
  spot k (every i s e p) h g l w r t = waiter i k p l.0 g l.1 w.1 t (lies k (span_of p) 0 j (wide k (span_of p) r))
  spot k (par i o p q) h g l w r t = two-spots i k (span_of p) (span_of q) (spots p) (spots q) l.0 w.0 t (lies k (span_of p) (span_of q) j r) (λ x. spot (k + 1) p h.0 g.0 l.1 w.1 x t) (λ x. spot (k + 1 + span_of p) q h.1 g.1 l.2 w.2 x t)
  spot k (fin i p) h g l w r t = waiter i k p l.0 g l.1 w.1 t (lies k (span_of p) 0 j (wide k (span_of p) r))
  spot k (canrun i n) h g l w r t = absurd h
  spot k (at_loop i p q) h g l w r t = absurd h
  spot k (at_par i o p q) h g l w r t = absurd h

-- ---- the marks

member-kept : (m l : List ℕ) (j : ℕ) → member j (kept m l) ≡ (marked m j && member j l)
unfolding member kept
member-kept m [] j = go (marked m j)
  where
    go : (x : Bool) → false ≡ (x && false)
    go true = refl
    go false = refl
member-kept m (i ∷ is) j = go (eqb j i) refl (marked m i) refl (member-kept m is j)
  where
    same : (x y : Bool) → eqb j i ≡ true → marked m i ≡ x → marked m j ≡ x
    same x y e h = ap (marked m) (eqb-true j i e) ∙ h

    go : (x : Bool) → eqb j i ≡ x → (y : Bool) → marked m i ≡ y → member j (kept m is) ≡ (marked m j && member j is) →
        member j (if y then i ∷ kept m is else kept m is) ≡ (marked m j && (x || member j is))
    go true e true h k = rw (e, same true true e h)
    go true e false h k = k ∙ rw (same false true e h)
    go false e true h k = rw e k
    go false e false h k = k

waits-or_nop : (o : Option Tree) → waits (or_nop o) ≡ waits_o o
unfolding waits
waits-or_nop none = refl
waits-or_nop (some t) = refl

same_lists : (a b : List ℕ) → length a ≡ length b → ((j : ℕ) → j < length a → get_or a j 0 ≡ get_or b j 0) → a ≡ b
same_lists [] [] e h = refl
same_lists [] (y ∷ ys) e h = absurd (omega arith)
same_lists (x ∷ xs) [] e h = absurd (omega arith)
same_lists (x ∷ xs) (y ∷ ys) e h =
    let p : x ≡ y = h 0 (omega arith) in
    let q : xs ≡ ys = same_lists xs ys (omega arith) (λ j l. h (suc j) (omega arith)) in
    rw (p, q)

-- a mark is 0, or 1 at a place that may be marked
mark-is : (v : ℕ) (x s : Bool) → T (eqb v 0 || (eqb v 1 && x)) → (T x → T s) → bit (eqb v 1 && s) ≡ v
mark-is v x s t h =
    or_cases (eqb v 0) (eqb v 1 && x)
    (λ z. subst (λ u. bit (eqb u 1 && s) ≡ u) (sym (eqb→eq v 0 z)) refl)
    (λ y. subst (λ u. bit (eqb u 1 && s) ≡ u) (sym (eqb→eq v 1 (both_left (eqb v 1) x y))) (ap bit (T→true s (h (both_right (eqb v 1) x y)))))
    t

pub marks-back : (b : List ℕ) (a : Announced) → check b ≡ accepted a → (m : List ℕ) → first_refusal (marks_stages b m) ≡ none → marks_of (records_of b) (at_rest m (program_of b)) ≡ m
unfolding at_rest
marks-back b a c m f =
    let k = accepts b a c in
    let n : ℕ = records_of b in
    let t : Tree = program_of b in
    let g = marks-pass b m f in
    let all : length (marks_of n (or_nop (rest_of m t))) ≡ n = written-length n (or_nop (rest_of m t)) in
    let ws : waits (or_nop (rest_of m t)) ≡ kept m (spots t) = waits-or_nop (rest_of m t) ∙ waits-rest m t g.fits in
    same_lists (marks_of n (or_nop (rest_of m t))) m (all ∙ sym g.long)
    (λ j l.
    let i : j < n = omega (arith, all) in
    written n (or_nop (rest_of m t)) j i
    ∙ ap (λ (x : List ℕ). bit (member j x)) ws
    ∙ ap bit (member-kept m (spots t) j)
    ∙ mark-is (get_or m j 0) (markable b j) (member j (spots t)) (g.right j i)
    (λ x. spot (markable b) j 0 t k.program k.good k.placed k.waiting (record { above = omega arith; below = omega (arith, k.sized) }) x))
