-- The tree at a place stands there, and its parts stand where the spans say.
-- Assumes nothing.
use mathlib.Core.Path.{◌≡◌, refl}
use mathlib.Core.List.{List}
use Prim.Native.Nat.{ℕ, zero, suc, ◌+◌, ◌≤◌}
use native.Mathlib.Omega.{arith}
use Rattle.rules.specs.Tree.{Tree, input, internal, and, or, span_of}
use Rattle.rules.specs.Table.{kind_at, span_at, second_at}
use Rattle.theory.specs.Frame.{place_of, Stem, Fork, Laid}
use Rattle.table.specs.Kinds.{children_of}
use Rattle.table.specs.Places.{Place, tree_of, Node, a_nop, an_act, an_await, an_emit, a_break, an_if, a_seq, a_loop, an_every, a_par, a_fin}
use Rattle.table.proofs.Places.{children-from, span_pos, down-place, down-falls, next_place, next-falls}
use Rattle.table.proofs.Trees.{node_at, tree-span}

module _ (b : List ℕ) where
  place-node : {i : ℕ} {x : Tree} → Node b i x → place_of x ≡ i
  unfolding place_of
  place-node (a_nop e) = refl
  place-node (an_act a e) = refl
  place-node (an_await s e) = refl
  place-node (an_emit e) = refl
  place-node (a_break e) = refl
  place-node (an_if e) = refl
  place-node (a_seq e) = refl
  place-node (a_loop e) = refl
  place-node (an_every s e) = refl
  place-node (a_par c e) = refl
  place-node (a_fin e) = refl

  pub place_at : (i : ℕ) → Place b i → place_of (tree_of b i) ≡ i
  place_at i p = place-node (node_at b i p)

  -- a construct over the trees at its children's places
  module _ (i : ℕ) (p : Place b i) where
    stem : (t : Tree) → place_of t ≡ i → span_of t ≡ 1 + span_of (tree_of b (i + 1)) → 1 ≤ children_of (kind_at b i) → Stem t i (tree_of b (i + 1))
    stem t e s c = record { own-place = e; own-span = s; body-place = place_at (i + 1) (down-place b i p c) }

    fork : (t : Tree) → place_of t ≡ i → span_of t ≡ 1 + (span_of (tree_of b (i + 1)) + span_of (tree_of b (second_at b i))) → 2 ≤ children_of (kind_at b i) → Fork t i (tree_of b (i + 1)) (tree_of b (second_at b i))
    fork t e s c =
        let one = down-place b i p (omega (arith, c)) in
        record { own-place = e; own-span = s; left-place = place_at (i + 1) one; right-place = omega (arith, place_at (second_at b i) (next_place b i p c), tree-span b (i + 1) one) }

    laid-node : {t : Tree} → Node b i t → (1 ≤ children_of (kind_at b i) → Laid (tree_of b (i + 1))) → (2 ≤ children_of (kind_at b i) → Laid (tree_of b (second_at b i))) → Laid t
    unfolding Laid span_of place_of children_of
    laid-node (a_nop e) down next = record { own-place = refl; own-span = refl }
    laid-node (an_act a e) down next = record { own-place = refl; own-span = refl }
    laid-node (an_await s e) down next = record { own-place = refl; own-span = refl }
    laid-node (an_emit e) down next = record { own-place = refl; own-span = refl }
    laid-node (a_break e) down next = record { own-place = refl; own-span = refl }
    laid-node (an_if e) down next = (fork _ refl refl (children-from 12 e tt), down (children-from 12 e tt), next (children-from 12 e tt))
    laid-node (a_seq e) down next = (fork _ refl refl (children-from 13 e tt), down (children-from 13 e tt), next (children-from 13 e tt))
    laid-node (a_loop e) down next = (stem _ refl refl (children-from 14 e tt), down (children-from 14 e tt))
    laid-node (an_every input e) down next = (stem _ refl refl (children-from 15 e tt), down (children-from 15 e tt))
    laid-node (an_every internal e) down next = (stem _ refl refl (children-from 16 e tt), down (children-from 16 e tt))
    laid-node (a_par and e) down next = (fork _ refl refl (children-from 17 e tt), down (children-from 17 e tt), next (children-from 17 e tt))
    laid-node (a_par or e) down next = (fork _ refl refl (children-from 18 e tt), down (children-from 18 e tt), next (children-from 18 e tt))
    laid-node (a_fin e) down next = (stem _ refl refl (children-from 19 e tt), down (children-from 19 e tt))

  laid_from : (f i : ℕ) → Place b i → span_at b i ≤ f → Laid (tree_of b i)
  laid_from zero i p h = absurd (omega (arith, span_pos b i p))
  laid_from (suc f) i p h =
      laid-node i p (node_at b i p)
      (λ c. laid_from f (i + 1) (down-place b i p c) (omega (arith, down-falls b i p c)))
      (λ c. laid_from f (second_at b i) (next_place b i p c) (omega (arith, next-falls b i p c)))

  pub laid-at : (i : ℕ) → Place b i → Laid (tree_of b i)
  laid-at i p = laid_from (span_at b i) i p (omega arith)
