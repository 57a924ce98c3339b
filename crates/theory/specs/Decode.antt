-- A table that passes stage 2 is a program in preorder, whose waiting nodes stand at kinds that may be marked.
use Rattle.std.specs.Prelude.{◌≡◌, Bool, false, not, ◌&&◌, ◌||◌, List, [], ◌∷◌, ltb, ℤ, get_or}
use Rattle.std.proofs.Math.Path.{refl}
use Rattle.std.proofs.Common.{sym, ap, ap₂, subst, arith, eqb→eq, ltb→lt}
use Prim.Native.Nat.{ℕ, zero, suc, ◌+◌, ◌≤◌, ◌<◌}
use Rattle.std.proofs.Math.Dec.{eqb, T}
use Rattle.rules.specs.Tree.{Tree, act, at_loop, at_par, await, break, canrun, emit, every, fin, ifvar, loop, nop, par, seq, span_of}
use Rattle.rules.specs.Table.{Children, Kind, kind_at, kinds, leaf, name_at, number_at, one, over19, row_at, second_at, shape_right, span_at, span_fits, tree_at, two, wrong}
use Rattle.rules.specs.Marks.{may_mark, waits}
use Rattle.theory.specs.Again.{Placed, member, member-one, member-append, calm-none}
use Rattle.theory.specs.Residue.{Left, whole, tidy, breaking, leaving, seq_l, seq_r, if_l, if_r, loop_in, par_both, par_l, par_r, ready, awaited, every_on, sent}
use Rattle.theory.specs.Logic.{both_left, both_right, or_cases, ◌also◌}
use Rattle.theory.specs.Program.{Program}

-- ---- a rule of the kinds table, at every kind

abbrev pub AllK : (ℕ → Kind → Type 0) → List Kind → Type 0
AllK P [] = Unit {0}
AllK P (r ∷ rs) = P 0 r × AllK (λ k. P (suc k)) rs

pub at : (P : ℕ → Kind → Type 0) (d : Kind) → ((k : ℕ) → P k d) → (l : List Kind) → AllK P l → (k : ℕ) → P k (get_or l k d)
at P d h [] a k = h k
at P d h (r ∷ rs) a zero = a.0
at P d h (r ∷ rs) a (suc k) = at (λ k. P (suc k)) d (λ k. h (suc k)) rs a.1 k

-- a test lets pass the places of the awaits, everys and fins of a program, and no other place
unfoldable pub Waiting : (ℕ → Bool) → Tree → Type 0
Waiting f (nop i) = f i ≡ false
Waiting f (act i a v k) = f i ≡ false
Waiting f (await i s e) = T (f i)
Waiting f (emit i e y) = f i ≡ false
Waiting f (break i) = f i ≡ false
Waiting f (ifvar i v p q) = (f i ≡ false) × Waiting f p × Waiting f q
Waiting f (seq i p q) = (f i ≡ false) × Waiting f p × Waiting f q
Waiting f (loop i p) = (f i ≡ false) × Waiting f p
Waiting f (every i s e p) = T (f i) × Waiting f p
Waiting f (par i o p q) = (f i ≡ false) × Waiting f p × Waiting f q
Waiting f (fin i p) = T (f i) × Waiting f p
Waiting f (canrun i m) = Unit {0}
Waiting f (at_loop i p q) = Unit {0}
Waiting f (at_par i o p q) = Unit {0}

-- what a kind makes of its children
pub record Made (f : ℕ → Bool) (n i : ℕ) (t : Tree) : Type 0 where
  pub sized : span_of t ≡ n
  pub program : Program t
  pub placed : Placed i t
  pub waiting : Waiting f t

abbrev Makes : (ℕ → Bool) → Bool → Children → Kind → Type 0
Makes f x leaf r = (i v : ℕ) (k : ℤ) → f i ≡ x → Made f 1 i (r.make i v k (nop i) (nop i))
Makes f x one r = (i v : ℕ) (k : ℤ) → f i ≡ x → (p : Tree) (m : ℕ) → Made f m (i + 1) p → Made f (1 + m) i (r.make i v k p (nop i))
Makes f x two r = (i v : ℕ) (k : ℤ) → f i ≡ x → (p q : Tree) (m n : ℕ) → Made f m (i + 1) p → Made f n (i + 1 + m) q → Made f (1 + m + n) i (r.make i v k p q)
Makes f x wrong r = Unit {0}

abbrev Right : (ℕ → Bool) → ℕ → Kind → Type 0
Right f k r = Makes f (may_mark k) r.children r

-- from kind 0 on, as in the kinds table
all_right : (f : ℕ → Bool) → AllK (Right f) kinds
unfolding span_of Program Placed Waiting
all_right f =
    (λ i v k e. record { sized = refl; program = tt; placed = refl; waiting = e }) also
    (λ i v k e. record { sized = refl; program = tt; placed = refl; waiting = e }) also
    (λ i v k e. record { sized = refl; program = tt; placed = refl; waiting = e }) also
    (λ i v k e. record { sized = refl; program = tt; placed = refl; waiting = e }) also
    (λ i v k e. record { sized = refl; program = tt; placed = refl; waiting = e }) also
    (λ i v k e. record { sized = refl; program = tt; placed = refl; waiting = e }) also
    (λ i v k e. record { sized = refl; program = tt; placed = refl; waiting = e }) also
    (λ i v k e. record { sized = refl; program = tt; placed = refl; waiting = e }) also
    (λ i v k e. record { sized = refl; program = tt; placed = refl; waiting = rw e tt }) also
    (λ i v k e. record { sized = refl; program = tt; placed = refl; waiting = rw e tt }) also
    (λ i v k e. record { sized = refl; program = tt; placed = refl; waiting = e }) also
    (λ i v k e. record { sized = refl; program = tt; placed = refl; waiting = e }) also
    (λ i v k e p q m n h g. record { sized = omega (arith, h.sized, g.sized); program = (h.program, g.program); placed = (refl, h.placed, rw h.sized g.placed); waiting = (e, h.waiting, g.waiting) }) also
    (λ i v k e p q m n h g. record { sized = omega (arith, h.sized, g.sized); program = (h.program, g.program); placed = (refl, h.placed, rw h.sized g.placed); waiting = (e, h.waiting, g.waiting) }) also
    (λ i v k e p m h. record { sized = omega (arith, h.sized); program = h.program; placed = (refl, h.placed); waiting = (e, h.waiting) }) also
    (λ i v k e p m h. record { sized = omega (arith, h.sized); program = h.program; placed = (refl, h.placed); waiting = (rw e tt, h.waiting) }) also
    (λ i v k e p m h. record { sized = omega (arith, h.sized); program = h.program; placed = (refl, h.placed); waiting = (rw e tt, h.waiting) }) also
    (λ i v k e p q m n h g. record { sized = omega (arith, h.sized, g.sized); program = (h.program, g.program); placed = (refl, h.placed, rw h.sized g.placed); waiting = (e, h.waiting, g.waiting) }) also
    (λ i v k e p q m n h g. record { sized = omega (arith, h.sized, g.sized); program = (h.program, g.program); placed = (refl, h.placed, rw h.sized g.placed); waiting = (e, h.waiting, g.waiting) }) also
    (λ i v k e p m h. record { sized = omega (arith, h.sized); program = h.program; placed = (refl, h.placed); waiting = (rw e tt, h.waiting) }) also
    tt

-- the kinds that may be marked, by place
abbrev pub markable : List ℕ → ℕ → Bool
markable b i = may_mark (kind_at b i)

row-right : (b : List ℕ) (i : ℕ) → Right (markable b) (kind_at b i) (row_at b i)
row-right b i = at (Right (markable b)) over19 (λ k. tt) kinds (all_right (markable b)) (kind_at b i)

-- ---- the tree of a table that passes stage 2

-- the node at place i of a row with so many children, over the trees that `below` gives at their places: so `tree_at` makes it
abbrev pub node_over : (ℕ → Tree) → List ℕ → ℕ → Kind → Children → Tree
node_over below b i r s = elim s [
  | leaf ↦ r.make i (name_at b i) (number_at b i) (nop i) (nop i)
  | one ↦ r.make i (name_at b i) (number_at b i) (below (i + 1)) (nop i)
  | two ↦ r.make i (name_at b i) (number_at b i) (below (i + 1)) (below (second_at b i))
  | wrong ↦ nop i
]

pub record Whole (b : List ℕ) (n i : ℕ) (t : Tree) : Type 0 where
  pub made : Made (markable b) (span_at b i) i t
  pub fits : i + span_at b i ≤ n

module _ (b : List ℕ) (n : ℕ) (right : (i : ℕ) → i < n → T (shape_right b n i)) where
  place : (s : Children) (r : Kind) (f i : ℕ) → i < n → n ≤ suc f + i → r.children ≡ s → Makes (markable b) (markable b i) s r → T (span_fits s b n i) →
      ((j : ℕ) → j < n → n ≤ f + j → Whole b n j (tree_at f b j)) →
      Whole b n i (node_over (tree_at f b) b i r s)
  place leaf r f i l m e k s again =
      let x : span_at b i ≡ 1 = eqb→eq (span_at b i) 1 s in
      record { made = rw x (k i (name_at b i) (number_at b i) refl); fits = omega arith }
  place one r f i l m e k s again =
      let x : i + 1 < n = ltb→lt (i + 1) n (both_left (ltb (i + 1) n) (eqb (span_at b i) (1 + span_at b (i + 1))) s) in
      let y : span_at b i ≡ 1 + span_at b (i + 1) = eqb→eq (span_at b i) (1 + span_at b (i + 1)) (both_right (ltb (i + 1) n) (eqb (span_at b i) (1 + span_at b (i + 1))) s) in
      let w = again (i + 1) x (omega arith) in
      record { made = rw y (k i (name_at b i) (number_at b i) refl (tree_at f b (i + 1)) (span_at b (i + 1)) w.made); fits = omega (arith, w.fits) }
  place two r f i l m e k s again =
      let y0 = both_right (ltb (i + 1) n && ltb (second_at b i) n) (eqb (span_at b i) (1 + span_at b (i + 1) + span_at b (second_at b i))) s in
      let x0 = both_left (ltb (i + 1) n && ltb (second_at b i) n) (eqb (span_at b i) (1 + span_at b (i + 1) + span_at b (second_at b i))) s in
      let x : i + 1 < n = ltb→lt (i + 1) n (both_left (ltb (i + 1) n) (ltb (second_at b i) n) x0) in
      let z : second_at b i < n = ltb→lt (second_at b i) n (both_right (ltb (i + 1) n) (ltb (second_at b i) n) x0) in
      let y : span_at b i ≡ 1 + span_at b (i + 1) + span_at b (second_at b i) = eqb→eq (span_at b i) (1 + span_at b (i + 1) + span_at b (second_at b i)) y0 in
      let w = again (i + 1) x (omega arith) in
      let v = again (second_at b i) z (omega arith) in
      record { made = rw y (k i (name_at b i) (number_at b i) refl (tree_at f b (i + 1)) (tree_at f b (second_at b i)) (span_at b (i + 1)) (span_at b (second_at b i)) w.made v.made); fits = omega (arith, w.fits, v.fits) }
  place wrong r f i l m e k s again = absurd s

  pub tree-whole : (f i : ℕ) → i < n → n ≤ f + i → Whole b n i (tree_at f b i)
  unfolding tree_at
  tree-whole zero i l m = absurd (omega arith)
  tree-whole (suc f) i l m =
      place (row_at b i).children (row_at b i) f i l m refl (row-right b i) (both_left (span_fits (row_at b i).children b n i) (not (eqb i 0) || eqb (span_at b 0) n) (right i l)) (λ j. tree-whole f j)

  -- the fuel does not matter where there is enough
  same_at : (s : Children) (r : Kind) (f g i : ℕ) → i < n → n ≤ suc f + i → n ≤ suc g + i → T (span_fits s b n i) →
      ((j : ℕ) → j < n → n ≤ f + j → n ≤ g + j → tree_at f b j ≡ tree_at g b j) →
      node_over (tree_at f b) b i r s ≡ node_over (tree_at g b) b i r s
  same_at leaf r f g i l m k s again = refl
  same_at one r f g i l m k s again =
      let x : i + 1 < n = ltb→lt (i + 1) n (both_left (ltb (i + 1) n) (eqb (span_at b i) (1 + span_at b (i + 1))) s) in
      ap (λ (p : Tree). r.make i (name_at b i) (number_at b i) p (nop i)) (again (i + 1) x (omega arith) (omega arith))
  same_at two r f g i l m k s again =
      let x0 = both_left (ltb (i + 1) n && ltb (second_at b i) n) (eqb (span_at b i) (1 + span_at b (i + 1) + span_at b (second_at b i))) s in
      let x : i + 1 < n = ltb→lt (i + 1) n (both_left (ltb (i + 1) n) (ltb (second_at b i) n) x0) in
      let z : second_at b i < n = ltb→lt (second_at b i) n (both_right (ltb (i + 1) n) (ltb (second_at b i) n) x0) in
      ap₂ (λ (p q : Tree). r.make i (name_at b i) (number_at b i) p q) (again (i + 1) x (omega arith) (omega arith)) (again (second_at b i) z (omega arith) (omega arith))
  same_at wrong r f g i l m k s again = refl

  pub tree-fuel : (f g i : ℕ) → i < n → n ≤ f + i → n ≤ g + i → tree_at f b i ≡ tree_at g b i
  unfolding tree_at
  tree-fuel zero g i l m k = absurd (omega arith)
  tree-fuel (suc f) zero i l m k = absurd (omega arith)
  tree-fuel (suc f) (suc g) i l m k =
      same_at (row_at b i).children (row_at b i) f g i l m k (both_left (span_fits (row_at b i).children b n i) (not (eqb i 0) || eqb (span_at b 0) n) (right i l)) (λ j. tree-fuel f g j)

-- ---- what waits stands where it may be marked

module _ (f : ℕ → Bool) (j : ℕ) where
  only : (i : ℕ) → T (f i) → T (member j (i ∷ [])) → T (f j)
  only i h t = subst (λ k. T (f k)) (sym (member-one j i t)) h

  whole-waiting : (t : Tree) → Program t → Waiting f t → T (member j (waits t)) → T (f j)
  unfolding Program Waiting waits
  whole-waiting (nop i) h w t = absurd (unfold member in t)
  whole-waiting (act i a v z) h w t = absurd (unfold member in t)
  whole-waiting (await i s e) h w t = only i w t
  whole-waiting (emit i e y) h w t = absurd (unfold member in t)
  whole-waiting (break i) h w t = absurd (unfold member in t)
  whole-waiting (ifvar i v p q) h w t = absurd (unfold member in t)
  whole-waiting (seq i p q) h w t = whole-waiting p h.0 w.1 t
  whole-waiting (loop i p) h w t = absurd (unfold member in t)
  whole-waiting (every i s e p) h w t = only i w.0 t
  whole-waiting (par i o p q) h w t = absurd (unfold member in t)
  whole-waiting (fin i p) h w t = only i w.0 t
  whole-waiting (canrun i m) h w t = absurd h
  whole-waiting (at_loop i p q) h w t = absurd h
  whole-waiting (at_par i o p q) h w t = absurd h

  pub left-waiting : {t r : Tree} → Left t r → Program t → Waiting f t → T (member j (waits r)) → T (f j)
  unfolding Program Waiting waits
  left-waiting (whole {t = t}) h w m = whole-waiting t h w m
  left-waiting (tidy {c = c} x) h w m = absurd (calm-none c j x m)
  left-waiting breaking h w m = absurd (unfold member in m)
  left-waiting (leaving {c = c} x) h w m = absurd (calm-none c j x m)
  left-waiting (seq_l x) h w m = left-waiting x h.0 w.1 m
  left-waiting (seq_r x) h w m = left-waiting x h.1 w.2 m
  left-waiting (if_l x) h w m = left-waiting x h.0 w.1 m
  left-waiting (if_r x) h w m = left-waiting x h.1 w.2 m
  left-waiting (loop_in x) h w m = left-waiting x h w.1 m
  left-waiting (par_both {r = r} {u = u} x y) h w m =
      or_cases (member j (waits r)) (member j (waits u)) (left-waiting x h.0 w.1) (left-waiting y h.1 w.2) (subst T (member-append j (waits r) (waits u)) m)
  left-waiting (par_l x) h w m = left-waiting x h.0 w.1 m
  left-waiting (par_r x) h w m = left-waiting x h.1 w.2 m
  left-waiting ready h w m = absurd (unfold member in m)
  left-waiting awaited h w m = absurd (unfold member in m)
  left-waiting (every_on {c = c} x) h w m = absurd (calm-none c j x m)
  left-waiting sent h w m = absurd (unfold member in m)
