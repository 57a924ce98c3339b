-- The tree at a place: its node, over the trees at its children's places.
-- Assumes nothing.
use mathlib.Core.Path.{◌≡◌, refl, sym, ap, ap₂, subst, ◌∙◌}
use mathlib.Core.List.{List}
use Prim.Native.Nat.{ℕ, zero, suc, ◌+◌, ◌≤◌, ◌<◌}
use native.Mathlib.Omega.{arith}
use lib.IntN.{ℤ}
use Rattle.rules.specs.Tree.{Tree, nop, input, internal, assign, increase, copy, subtract, compare, divide, output, and, or, span_of}
use Rattle.rules.specs.Table.{Children, leaf, one, two, wrong, Kind, kind_at, name_at, number_at, span_at, second_at, row_at, tree_at, records_of}
use Rattle.theory.specs.Logic.{◌also◌}
use Rattle.theory.specs.Decode.{Whole, node_over, tree-whole, tree-fuel}
use Rattle.theory.specs.Program.{Program}
use Rattle.table.specs.Kinds.{row_of, arity, children_of}
use Rattle.table.specs.Places.{Place, tree_of, Node, a_nop, an_act, an_await, an_emit, a_break, an_if, a_seq, a_loop, an_every, a_par, a_fin}
use Rattle.table.proofs.Counting.{Each, each}
use Rattle.table.proofs.Places.{kind-most, down-place, next_place}

-- a row of the kinds table makes nothing of children that it does not have
abbrev Ignores : Children → Kind → Type 0
Ignores leaf r = (i v : ℕ) (k : ℤ) (p q : Tree) → r.make i v k (nop i) (nop i) ≡ r.make i v k p q
Ignores one r = (i v : ℕ) (k : ℤ) (p q : Tree) → r.make i v k p (nop i) ≡ r.make i v k p q
Ignores two r = Unit {0}
Ignores wrong r = ⊥

abbrev RowIgnores : ℕ → Type 0
RowIgnores k = Ignores (row_of k).children (row_of k)

row-ignores : (k : ℕ) → k < 20 → RowIgnores k
row-ignores =
    each RowIgnores 20 (
    (λ i v k p q. refl) also
    (λ i v k p q. refl) also
    (λ i v k p q. refl) also
    (λ i v k p q. refl) also
    (λ i v k p q. refl) also
    (λ i v k p q. refl) also
    (λ i v k p q. refl) also
    (λ i v k p q. refl) also
    (λ i v k p q. refl) also
    (λ i v k p q. refl) also
    (λ i v k p q. refl) also
    (λ i v k p q. refl) also
    tt also
    tt also
    (λ i v k p q. refl) also
    (λ i v k p q. refl) also
    (λ i v k p q. refl) also
    tt also
    tt also
    (λ i v k p q. refl) also
    tt
    )

-- one unrolling, with any fuel f for the children that gives the trees at their places
unroll : (s : Children) (r : Kind) (b : List ℕ) (f i : ℕ) → Ignores s r → (1 ≤ arity s → tree_at f b (i + 1) ≡ tree_of b (i + 1)) → (2 ≤ arity s → tree_at f b (second_at b i) ≡ tree_of b (second_at b i)) →
    node_over (tree_at f b) b i r s ≡ r.make i (name_at b i) (number_at b i) (tree_of b (i + 1)) (tree_of b (second_at b i))
unroll leaf r b f i g d n = g i (name_at b i) (number_at b i) (tree_of b (i + 1)) (tree_of b (second_at b i))
unroll one r b f i g d n =
    ap (λ (p : Tree). r.make i (name_at b i) (number_at b i) p (nop i)) (d (omega arith)) ∙ g i (name_at b i) (number_at b i) (tree_of b (i + 1)) (tree_of b (second_at b i))
unroll two r b f i g d n = ap₂ (λ (p q : Tree). r.make i (name_at b i) (number_at b i) p q) (d (omega arith)) (n (omega arith))
unroll wrong r b f i g d n = absurd g

module _ (b : List ℕ) (i : ℕ) (p : Place b i) where
  fuel : (f j : ℕ) → records_of b ≡ suc f → Place b j → 1 ≤ j → tree_at f b j ≡ tree_of b j
  unfolding tree_of
  fuel f j e q l = tree-fuel b (records_of b) p.shape f (records_of b) j q.inside (omega arith) (omega arith)

  -- the law of every walk
  pub tree-at : tree_of b i ≡ (row_at b i).make i (name_at b i) (number_at b i) (tree_of b (i + 1)) (tree_of b (second_at b i))
  unfolding tree_of tree_at children_of
  tree-at = go (records_of b) refl
    where
      go : (n : ℕ) → records_of b ≡ n → tree_at n b i ≡ (row_at b i).make i (name_at b i) (number_at b i) (tree_of b (i + 1)) (tree_of b (second_at b i))
      go zero e = absurd (omega (arith, p.inside))
      go (suc f) e =
          unroll (row_at b i).children (row_at b i) b f i (row-ignores (kind_at b i) (kind-most b i p))
          (λ h. fuel f (i + 1) e (down-place b i p h) (omega arith))
          (λ h. fuel f (second_at b i) e (next_place b i p h) (omega arith))

  -- at a kind that is known: at a numeral k the right side computes to the node
  pub tree-kind : (k : ℕ) → kind_at b i ≡ k → tree_of b i ≡ (row_of k).make i (name_at b i) (number_at b i) (tree_of b (i + 1)) (tree_of b (second_at b i))
  tree-kind k e = rw e at tree-at

  -- what holds of each kind and the node that it makes, from kind 0 on, holds here
  pub by_kind : (P : ℕ → Tree → Type 0) → Each (λ k. P k ((row_of k).make i (name_at b i) (number_at b i) (tree_of b (i + 1)) (tree_of b (second_at b i)))) 0 20 → P (kind_at b i) (tree_of b i)
  by_kind P a =
      subst (P (kind_at b i)) (sym tree-at)
      (each (λ k. P k ((row_of k).make i (name_at b i) (number_at b i) (tree_of b (i + 1)) (tree_of b (second_at b i)))) 20 a (kind_at b i) (kind-most b i p))

  -- by cases of the tree that stands here
  pub node_at : Node b i (tree_of b i)
  node_at =
      by_kind (λ k t. kind_at b i ≡ k → Node b i t) (
      a_nop also
      an_act assign also
      an_act increase also
      an_act copy also
      an_act subtract also
      an_act compare also
      an_act divide also
      an_act output also
      an_await input also
      an_await internal also
      an_emit also
      a_break also
      an_if also
      a_seq also
      a_loop also
      an_every input also
      an_every internal also
      a_par and also
      a_par or also
      a_fin also
      tt
      )
      refl

  whole : Whole b (records_of b) i (tree_of b i)
  unfolding tree_of
  whole = tree-whole b (records_of b) p.shape (records_of b) i p.inside (omega arith)

  pub tree-span : span_of (tree_of b i) ≡ span_at b i
  tree-span = whole.made.sized

  pub tree-program : Program (tree_of b i)
  tree-program = whole.made.program

  -- the places of the tree are those from i on, as many as the span says
  pub span-inside : i + span_at b i ≤ records_of b
  span-inside = whole.fits
