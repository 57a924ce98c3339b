-- May break and may end of the tree at a place, by the kind of the record there.
-- Assumes nothing.
use mathlib.Core.Path.{◌≡◌, refl}
use mathlib.Core.Bool.{Bool, true, false, ◌&&◌, ◌||◌}
use mathlib.Core.List.{List}
use Prim.Native.Nat.{ℕ, ◌+◌}
use lib.IntN.{ℤ}
use Rattle.rules.specs.Tree.{Tree}
use Rattle.rules.specs.Table.{second_at}
use Rattle.rules.specs.Check.{may_break, may_end}
use Rattle.table.specs.Named.{Stands, node_of}
use Rattle.table.specs.Places.{tree_of}
use Rattle.table.specs.declared.kind.Source.TheVariants.{Input, Internal}
use Rattle.table.specs.declared.kind.Par.TheVariants.{And, Or}
use Rattle.table.specs.declared.kind.Kind.{Kind}
use Rattle.table.specs.declared.kind.Kind.TheVariants as kind

-- by the kind, from whether the children may break
abbrev pub breaks : Kind → Bool → Bool → Bool
breaks kind.Nothing x y = false
breaks (kind.Act a) x y = false
breaks (kind.Await s) x y = false
breaks kind.Emit x y = false
breaks kind.Break x y = true
breaks kind.If x y = x || y
breaks kind.Sequence x y = x || y
breaks kind.Loop x y = false
breaks (kind.Every s) x y = false
breaks (kind.Par o) x y = x || y
breaks kind.Fin x y = false

-- by the kind, from whether the children may end and whether the first may break
abbrev pub ends : Kind → Bool → Bool → Bool → Bool
ends kind.Nothing x y z = true
ends (kind.Act a) x y z = true
ends (kind.Await Input) x y z = false
ends (kind.Await Internal) x y z = true
ends kind.Emit x y z = true
ends kind.Break x y z = false
ends kind.If x y z = x || y
ends kind.Sequence x y z = x && y
ends kind.Loop x y z = z
ends (kind.Every s) x y z = false
ends (kind.Par And) x y z = x && y
ends (kind.Par Or) x y z = x || y
ends kind.Fin x y z = false

node_breaks : (k : Kind) (i v : ℕ) (n : ℤ) (p q : Tree) → may_break (node_of k i v n p q) ≡ breaks k (may_break p) (may_break q)
unfolding may_break
node_breaks kind.Nothing i v n p q = refl
node_breaks (kind.Act a) i v n p q = refl
node_breaks (kind.Await s) i v n p q = refl
node_breaks kind.Emit i v n p q = refl
node_breaks kind.Break i v n p q = refl
node_breaks kind.If i v n p q = refl
node_breaks kind.Sequence i v n p q = refl
node_breaks kind.Loop i v n p q = refl
node_breaks (kind.Every s) i v n p q = refl
node_breaks (kind.Par o) i v n p q = refl
node_breaks kind.Fin i v n p q = refl

node_ends : (k : Kind) (i v : ℕ) (n : ℤ) (p q : Tree) → may_end (node_of k i v n p q) ≡ ends k (may_end p) (may_end q) (may_break p)
unfolding may_end
node_ends kind.Nothing i v n p q = refl
node_ends (kind.Act a) i v n p q = refl
node_ends (kind.Await Input) i v n p q = refl
node_ends (kind.Await Internal) i v n p q = refl
node_ends kind.Emit i v n p q = refl
node_ends kind.Break i v n p q = refl
node_ends kind.If i v n p q = refl
node_ends kind.Sequence i v n p q = refl
node_ends kind.Loop i v n p q = refl
node_ends (kind.Every s) i v n p q = refl
node_ends (kind.Par And) i v n p q = refl
node_ends (kind.Par Or) i v n p q = refl
node_ends kind.Fin i v n p q = refl

module _ (b : List ℕ) (i : ℕ) (k : Kind) (s : Stands b i k) where
  pub breaks_at : may_break (tree_of b i) ≡ breaks k (may_break (tree_of b (i + 1))) (may_break (tree_of b (second_at b i)))
  breaks_at = rw s.tree (node_breaks k _ _ _ _ _)

  pub ends_at : may_end (tree_of b i) ≡ ends k (may_end (tree_of b (i + 1))) (may_end (tree_of b (second_at b i))) (may_break (tree_of b (i + 1)))
  ends_at = rw s.tree (node_ends k _ _ _ _ _)
