-- The walks of the theory at the tree of a place: each is that of the node of its kind.
-- Assumes nothing.
use Rattle.std.proofs.Common.{◌≡◌, ℕ, ◌+◌, List, ap}
use Rattle.rules.specs.Tree.{Tree}
use Rattle.rules.specs.Table.{name_at, number_at, second_at}
use Rattle.rules.specs.Step.{wakes}
use Rattle.theory.specs.State.{settle, sweep, exec, awake}
use Rattle.table.specs.Named.{Stands, node_of}
use Rattle.table.specs.Places.{tree_of}
use Rattle.table.specs.declared.kind.Kind.{Kind}
use Rattle.table.specs.declared.kind.Source.{Source}
use Rattle.memory.specs.Arrays.{Arrays}
use Rattle.walks.specs.Walks.{array_ops, event_from}

module _ {b : List ℕ} {i : ℕ} {k : Kind} (s : Stands b i k) where
  abbrev node : Tree
  node = node_of k i (name_at b i) (number_at b i) (tree_of b (i + 1)) (tree_of b (second_at b i))

  pub settle_node : (m : Arrays) → settle array_ops (tree_of b i) m ≡ settle array_ops node m
  settle_node m = ap (λ (t : Tree). settle array_ops t m) s.tree

  pub sweep_node : (l : List ℕ) (m : Arrays) → sweep array_ops (tree_of b i) l m ≡ sweep array_ops node l m
  sweep_node l m = ap (λ (t : Tree). sweep array_ops t l m) s.tree

  pub exec_node : (n : ℕ) (l : List ℕ) (m : Arrays) → exec array_ops n (tree_of b i) l m ≡ exec array_ops n node l m
  exec_node n l m = ap (λ (t : Tree). exec array_ops n t l m) s.tree

  pub awake_node : (x : Source) (e : ℕ) (l : List ℕ) → awake (wakes (event_from x e)) (tree_of b i) l ≡ awake (wakes (event_from x e)) node l
  awake_node x e l = ap (λ (t : Tree). awake (wakes (event_from x e)) t l) s.tree
