-- The records of a table that passes stages 1 to 3 are those of its constructs, byte for byte.
-- Assumes nothing.
use mathlib.Core.Path.{◌≡◌, refl, sym, ap, ◌∙◌}
use mathlib.Core.List.{List, [], ◌∷◌, ◌++◌, append-nil}
use Prim.Native.Nat.{ℕ, zero, suc, ◌+◌, ◌*◌, ◌/◌, ◌%◌, ◌≤◌, ◌<◌}
use native.Mathlib.Omega.{arith}
use lib.Dec.{T}
use lib.IntN.{ℤ, pos}
use lib.ListN.{length, get_or, take, drop, length-append}
use lib.Seq.{take-add, drop-drop, drop-cons}
use mir.Facts.{of_z-to_z}
use mir.Syntax.{w32}
use Rattle.rules.specs.Number.{num32, bytes32}
use Rattle.rules.specs.Tree.{Tree, nop, act, await, emit, break, ifvar, seq, loop, every, par, fin, canrun, at_loop, at_par, head, head_of, span_of, input, internal, assign, increase, copy, subtract, compare, divide, output, and, or}
use Rattle.rules.specs.Table.{byte_at, kind_at, name_at, number_at, span_at, second_at, in_range, nought, in_kinds_table}
use Rattle.rules.specs.Remaining.{record_of, records_for}
use Rattle.theory.specs.Logic.{◌also◌}
use Rattle.table.specs.Kinds.{children_of}
use Rattle.table.specs.Places.{Place, tree_of, SpanFor, Node, a_nop, an_act, an_await, an_emit, a_break, an_if, a_seq, a_loop, an_every, a_par, a_fin}
use Rattle.table.proofs.Places.{span-for, span_pos, down-place, down-falls, next_place, next-falls}
use Rattle.table.proofs.Trees.{by_kind, node_at, tree-span}
use Rattle.marks.specs.Fitting.{Sound}
use Rattle.marks.proofs.Ranges.{name-range, number-range, nought-name, nought-number}
use Rattle.marks.proofs.Stores.{sums}

-- ---- lengths

pub records-length : (t : Tree) → length (records_for t) ≡ 8 * span_of t
unfolding records_for record_of span_of
records-length (nop i) = refl
records-length (act i a v k) = refl
records-length (await i s e) = refl
records-length (emit i e y) = refl
records-length (break i) = refl
records-length (ifvar i v p q) = simp length-append (omega (arith, records-length p, records-length q))
records-length (seq i p q) = simp length-append (omega (arith, records-length p, records-length q))
records-length (loop i p) = omega (arith, records-length p)
records-length (every i s e p) = omega (arith, records-length p)
records-length (par i o p q) = simp length-append (omega (arith, records-length p, records-length q))
records-length (fin i p) = omega (arith, records-length p)
records-length (canrun i m) = refl
records-length (at_loop i p q) = simp length-append (omega (arith, records-length p, records-length q))
records-length (at_par i o p q) = simp length-append (omega (arith, records-length p, records-length q))

-- ---- heads

module _ (b : List ℕ) (i : ℕ) (t : T (in_kinds_table b i)) where
  -- a number that must be 0, and a name too
  named : (k : ℕ) → kind_at b i ≡ k → T (in_range nought (number_at b i)) → head k (name_at b i) (pos 0) ≡ head (kind_at b i) (name_at b i) (number_at b i)
  named k e z = rw (e, nought-number (number_at b i) z)

  bare : (k : ℕ) → kind_at b i ≡ k → T (in_range nought (pos (name_at b i))) → T (in_range nought (number_at b i)) → head k 0 (pos 0) ≡ head (kind_at b i) (name_at b i) (number_at b i)
  bare k e n z = ap (λ v. head k v (pos 0)) (nought-name (name_at b i) n) ∙ named k e z

  -- a record is its node's, name and number included
  head_at : Place b i → head_of (tree_of b i) ≡ head (kind_at b i) (name_at b i) (number_at b i)
  unfolding head_of
  head_at p = go (node_at b i p)
    where
      go : {u : Tree} → Node b i u → head_of u ≡ head (kind_at b i) (name_at b i) (number_at b i)
      go (a_nop e) = bare 0 e (rw e at (name-range b i t)) (rw e at (number-range b i t))
      go (an_act assign e) = rw e
      go (an_act increase e) = rw e
      go (an_act copy e) = rw e
      go (an_act subtract e) = rw e
      go (an_act compare e) = rw e
      go (an_act divide e) = rw e
      go (an_act output e) = rw e
      go (an_await input e) = named 8 e (rw e at (number-range b i t))
      go (an_await internal e) = named 9 e (rw e at (number-range b i t))
      go (an_emit e) = rw e
      go (a_break e) = bare 11 e (rw e at (name-range b i t)) (rw e at (number-range b i t))
      go (an_if e) = named 12 e (rw e at (number-range b i t))
      go (a_seq e) = bare 13 e (rw e at (name-range b i t)) (rw e at (number-range b i t))
      go (a_loop e) = bare 14 e (rw e at (name-range b i t)) (rw e at (number-range b i t))
      go (an_every input e) = named 15 e (rw e at (number-range b i t))
      go (an_every internal e) = named 16 e (rw e at (number-range b i t))
      go (a_par and e) = bare 17 e (rw e at (name-range b i t)) (rw e at (number-range b i t))
      go (a_par or e) = bare 18 e (rw e at (name-range b i t)) (rw e at (number-range b i t))
      go (a_fin e) = bare 19 e (rw e at (name-range b i t)) (rw e at (number-range b i t))

-- ---- bytes

-- every element is a byte
abbrev pub Bytes : List ℕ → Type 0
Bytes b = (j : ℕ) → get_or b j 0 < 256

low_byte : (x y : ℕ) → x < 256 → (x + 256 * y) % 256 ≡ x
low_byte x y h = omega arith

high_byte : (x y : ℕ) → x < 256 → (x + 256 * y) / 256 ≡ y
high_byte x y h = omega arith

number-bytes : (x y z w : ℕ) → x < 256 → y < 256 → z < 256 → w < 256 → bytes32 (num32 x y z w) ≡ x ∷ y ∷ z ∷ w ∷ []
number-bytes x y z w hx hy hz hw =
    let n : ℕ = x + 256 * y + 256 * 256 * z + 256 * 256 * 256 * w in
    let e0 : n % 256 ≡ x = omega arith in
    let a1 : n / 256 ≡ y + 256 * (z + 256 * w) = omega arith in
    let e1 : n / 256 % 256 ≡ y = rw a1 (low_byte y (z + 256 * w) hy) in
    let a2 : n / 65536 ≡ z + 256 * w = omega arith in
    let e2 : n / 65536 % 256 ≡ z = rw a2 (low_byte z w hz) in
    let e3 : n / 16777216 ≡ w = omega arith in
    rw (of_z-to_z {w = w32} {n = n} (record { fits = omega arith }), e0, e1, e2, e3)

-- the bytes from n on, one by one
row : List ℕ → ℕ → ℕ → List ℕ
row l n zero = []
row l n (suc k) = get_or l n 0 ∷ row l (suc n) k

take_row : (l : List ℕ) (n k : ℕ) → n + k ≤ length l → take k (drop n l) ≡ row l n k
unfolding row
take_row l n zero h = refl
take_row l n (suc k) h = rw (drop-cons l n 0 (omega arith)) (ap (λ r. get_or l n 0 ∷ r) (take_row l (suc n) k (omega arith)))

eight-bytes : (l : List ℕ) (n : ℕ) → n + 8 ≤ length l →
    take 8 (drop n l) ≡ get_or l (n + 0) 0 ∷ get_or l (n + 1) 0 ∷ get_or l (n + 2) 0 ∷ get_or l (n + 3) 0 ∷ get_or l (n + 4) 0 ∷ get_or l (n + 5) 0 ∷ get_or l (n + 6) 0 ∷ get_or l (n + 7) 0 ∷ []
unfolding row
eight-bytes l n h =
    let z : n + 0 ≡ n = omega arith in
    let s = sums n in
    rw (z, s.one, s.two, s.three, s.four, s.five, s.six, s.seven) (take_row l n 8 h)

record_is : (t : Tree) (k v n : ℕ) (z : ℤ) → head_of t ≡ head k v z → span_of t ≡ n → record_of t ≡ k ∷ v ∷ n % 256 ∷ n / 256 ∷ bytes32 z
unfolding record_of
record_is t k v n z e f = ap (λ h. h.kind ∷ h.name ∷ span_of t % 256 ∷ span_of t / 256 ∷ bytes32 h.number) e ∙ ap (λ m. k ∷ v ∷ m % 256 ∷ m / 256 ∷ bytes32 z) f

-- so many records from place i on
abbrev part : List ℕ → ℕ → ℕ → List ℕ
part b i n = take (8 * n) (drop (8 * i) b)

part_join : (b : List ℕ) (i n k : ℕ) → part b i n ++ part b (i + n) k ≡ part b i (n + k)
part_join b i n k =
    let e : 8 * (i + n) ≡ 8 * i + 8 * n = omega arith in
    let f : 8 * (n + k) ≡ 8 * n + 8 * k = omega arith in
    rw (e, f, ← drop-drop (8 * n) (8 * i) b) (sym (take-add (8 * n) (8 * k) (drop (8 * i) b)))

module _ (b : List ℕ) (sound : Sound b) (bytes : Bytes b) where
  record-at : (i : ℕ) → Place b i → record_of (tree_of b i) ≡ part b i 1
  record-at i p =
      record_is (tree_of b i) (kind_at b i) (name_at b i) (span_at b i) (number_at b i) (head_at b i (sound.named i p.inside) p) (tree-span b i p)
      ∙ (rw (low_byte (byte_at b i 2) (byte_at b i 3) (bytes (8 * i + 2)), high_byte (byte_at b i 2) (byte_at b i 3) (bytes (8 * i + 2)), number-bytes (byte_at b i 4) (byte_at b i 5) (byte_at b i 6) (byte_at b i 7) (bytes (8 * i + 4)) (bytes (8 * i + 5)) (bytes (8 * i + 6)) (bytes (8 * i + 7)))
      (sym (eight-bytes b (8 * i) (omega (arith, p.inside)))))

  below_at : ℕ → ℕ → List ℕ
  below_at zero i = []
  below_at (suc zero) i = records_for (tree_of b (i + 1))
  below_at (suc (suc n)) i = records_for (tree_of b (i + 1)) ++ records_for (tree_of b (second_at b i))

  records-below : (i : ℕ) → Place b i → records_for (tree_of b i) ≡ record_of (tree_of b i) ++ below_at (children_of (kind_at b i)) i
  unfolding records_for record_of below_at children_of
  records-below i p = by_kind b i p (λ k t. records_for t ≡ record_of t ++ below_at (children_of k) i) (refl also refl also refl also refl also refl also refl also refl also refl also refl also refl also refl also refl also refl also refl also refl also refl also refl also refl also refl also refl also tt)

  below : (c i : ℕ) → SpanFor c b i → (1 ≤ c → records_for (tree_of b (i + 1)) ≡ part b (i + 1) (span_at b (i + 1))) → (2 ≤ c → records_for (tree_of b (second_at b i)) ≡ part b (second_at b i) (span_at b (second_at b i))) →
      part b i 1 ++ below_at c i ≡ part b i (span_at b i)
  unfolding below_at
  below zero i s l r = rw (s, append-nil)
  below (suc zero) i s l r = rw (l (omega arith), s.1) (part_join b i 1 (span_at b (i + 1)))
  below (suc (suc c)) i s l r =
      let e : 1 + span_at b (i + 1) + span_at b (second_at b i) ≡ 1 + (span_at b (i + 1) + span_at b (second_at b i)) = omega arith in
      rw (l (omega arith), r (omega arith), s.2, part_join b (i + 1) (span_at b (i + 1)) (span_at b (second_at b i)), e) (part_join b i 1 (span_at b (i + 1) + span_at b (second_at b i)))

  whole : (n i : ℕ) → Place b i → span_at b i ≤ n → records_for (tree_of b i) ≡ part b i (span_at b i)
  whole zero i p h = absurd (omega (arith, span_pos b i p))
  whole (suc n) i p h =
      rw (records-below i p, record-at i p)
      (below (children_of (kind_at b i)) i (span-for b i p)
      (λ g. whole n (i + 1) (down-place b i p g) (omega (arith, down-falls b i p g)))
      (λ g. whole n (second_at b i) (next_place b i p g) (omega (arith, next-falls b i p g))))

  -- as the code copies them
  pub whole-records : (i : ℕ) → Place b i → {n k : ℕ} → n ≡ span_at b i → k ≡ 8 * n → take k (drop (8 * i) b) ≡ records_for (tree_of b i)
  whole-records i p e q = rw (q, e) (sym (whole (span_at b i) i p (omega arith)))

pub whole-length : (b : List ℕ) (i : ℕ) → Place b i → length (records_for (tree_of b i)) ≡ 8 * span_at b i
whole-length b i p = omega (arith, records-length (tree_of b i), tree-span b i p)
