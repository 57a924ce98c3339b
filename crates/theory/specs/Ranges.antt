-- The names and numbers of a table that passes stages 2 and 3, as the tree has them.
use Rattle.std.specs.Prelude.{not, ◌&&◌, ◌||◌, List, leb, T, ℤ, pos}
use Prim.Native.Nat.{ℕ, zero, suc, ◌+◌, ◌≤◌, ◌<◌}
use Rattle.std.proofs.Common.{arith, leb→le}
use Rattle.std.proofs.Math.Dec.{eqb, ltb, ltb→lt}
use Rattle.rules.specs.Limits.{most_name}
use Rattle.rules.specs.Tree.{Act, Tree, act, assign, at_loop, at_par, await, break, canrun, compare, copy, divide, emit, every, fin, ifvar, increase, loop, nop, output, par, seq, subtract}
use Rattle.rules.specs.Table.{Children, Kind, Range, anything, in_kinds_table, in_range, kind_at, kinds, leaf, name_at, nought, number_at, one, one_to63, over19, row_at, second_at, shape_right, span_at, span_fits, tree_at, two, up_to63, wrong}
use Rattle.theory.specs.Logic.{both_left, both_right, ◌also◌}
use Rattle.theory.specs.Decode.{AllK, at, node_over}

-- what the kinds table allows: the number of a kind 1 to 7; then a name with its number, an event, an emit, a test
abbrev pub act_range : Act → Range
act_range assign = anything
act_range increase = anything
act_range copy = up_to63
act_range subtract = up_to63
act_range compare = up_to63
act_range divide = up_to63
act_range output = up_to63

abbrev pub RightAct : Act → ℕ → ℤ → Type 0
RightAct a v k = T (in_range one_to63 (pos v)) × T (in_range (act_range a) k)

abbrev pub RightEvent : ℕ → Type 0
RightEvent e = T (in_range one_to63 (pos e))

abbrev pub RightEmit : ℕ → ℤ → Type 0
RightEmit e y = RightEvent e × T (in_range nought y)

abbrev pub RightTest : ℕ → Type 0
RightTest v = T (in_range up_to63 (pos v))

-- names and numbers of a program are in their ranges
unfoldable pub Ranged : Tree → Type 0
Ranged (nop i) = Unit {0}
Ranged (act i a v k) = RightAct a v k
Ranged (await i s e) = RightEvent e
Ranged (emit i e y) = RightEmit e y
Ranged (break i) = Unit {0}
Ranged (ifvar i v p q) = RightTest v × Ranged p × Ranged q
Ranged (seq i p q) = Ranged p × Ranged q
Ranged (loop i p) = Ranged p
Ranged (every i s e p) = RightEvent e × Ranged p
Ranged (par i o p q) = Ranged p × Ranged q
Ranged (fin i p) = Ranged p
Ranged (canrun i m) = Unit {0}
Ranged (at_loop i p q) = Unit {0}
Ranged (at_par i o p q) = Unit {0}

pub from_one : (e : ℕ) → RightEvent e → 1 ≤ e
from_one e t = leb→le 1 e (both_left (leb 1 e) (leb e most_name) t)

-- a kind makes of parts in range a tree in range
abbrev Keeps : ℕ → Kind → Type 0
Keeps k r = (i v : ℕ) (z : ℤ) (p q : Tree) → T (in_range r.name (pos v)) → T (in_range r.number z) → Ranged p → Ranged q → Ranged (r.make i v z p q)

all-ranged : AllK Keeps kinds
unfolding Ranged
all-ranged =
    (λ i v z p q t s a b. tt) also
    (λ i v z p q t s a b. (t, s)) also
    (λ i v z p q t s a b. (t, s)) also
    (λ i v z p q t s a b. (t, s)) also
    (λ i v z p q t s a b. (t, s)) also
    (λ i v z p q t s a b. (t, s)) also
    (λ i v z p q t s a b. (t, s)) also
    (λ i v z p q t s a b. (t, s)) also
    (λ i v z p q t s a b. t) also
    (λ i v z p q t s a b. t) also
    (λ i v z p q t s a b. (t, s)) also
    (λ i v z p q t s a b. tt) also
    (λ i v z p q t s a b. (t, a, b)) also
    (λ i v z p q t s a b. (a, b)) also
    (λ i v z p q t s a b. a) also
    (λ i v z p q t s a b. (t, a)) also
    (λ i v z p q t s a b. (t, a)) also
    (λ i v z p q t s a b. (a, b)) also
    (λ i v z p q t s a b. (a, b)) also
    (λ i v z p q t s a b. a) also
    tt

row-ranged : (b : List ℕ) (i : ℕ) → Keeps (kind_at b i) (row_at b i)
unfolding Ranged
row-ranged b i = at Keeps over19 (λ k i v z p q t s x y. tt) kinds all-ranged (kind_at b i)

module _ (b : List ℕ) (n : ℕ) (shaped : (i : ℕ) → i < n → T (shape_right b n i)) (ranged : (i : ℕ) → i < n → T (in_kinds_table b i)) where
  place : (s : Children) (r : Kind) (f i : ℕ) → i < n → n ≤ suc f + i → Keeps (kind_at b i) r → T (in_range r.name (pos (name_at b i))) → T (in_range r.number (number_at b i)) → T (span_fits s b n i) → ((j : ℕ) → j < n → n ≤ f + j → Ranged (tree_at f b j)) →
      Ranged (node_over (tree_at f b) b i r s)
  unfolding Ranged
  place leaf r f i l m k t y s again = k i (name_at b i) (number_at b i) (nop i) (nop i) t y tt tt
  place one r f i l m k t y s again =
      let x : i + 1 < n = ltb→lt (i + 1) n (both_left (ltb (i + 1) n) (eqb (span_at b i) (1 + span_at b (i + 1))) s) in
      k i (name_at b i) (number_at b i) (tree_at f b (i + 1)) (nop i) t y (again (i + 1) x (omega arith)) tt
  place two r f i l m k t y s again =
      let h = both_left (ltb (i + 1) n && ltb (second_at b i) n) (eqb (span_at b i) (1 + span_at b (i + 1) + span_at b (second_at b i))) s in
      let x : i + 1 < n = ltb→lt (i + 1) n (both_left (ltb (i + 1) n) (ltb (second_at b i) n) h) in
      let z : second_at b i < n = ltb→lt (second_at b i) n (both_right (ltb (i + 1) n) (ltb (second_at b i) n) h) in
      k i (name_at b i) (number_at b i) (tree_at f b (i + 1)) (tree_at f b (second_at b i)) t y (again (i + 1) x (omega arith)) (again (second_at b i) z (omega arith))
  place wrong r f i l m k t y s again = tt

  pub tree-ranged : (f i : ℕ) → i < n → n ≤ f + i → Ranged (tree_at f b i)
  unfolding tree_at
  tree-ranged zero i l m = absurd (omega arith)
  tree-ranged (suc f) i l m =
      place (row_at b i).children (row_at b i) f i l m (row-ranged b i) (both_left (in_range (row_at b i).name (pos (name_at b i))) (in_range (row_at b i).number (number_at b i)) (ranged i l))
      (both_right (in_range (row_at b i).name (pos (name_at b i))) (in_range (row_at b i).number (number_at b i)) (ranged i l))
      (both_left (span_fits (row_at b i).children b n i) (not (eqb i 0) || eqb (span_at b 0) n) (shaped i l)) (λ j. tree-ranged f j)
