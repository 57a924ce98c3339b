-- What stands at a place by its kind's name, and the children of a place as places, over spans that fall.
-- Assumes nothing.
use mathlib.Core.Path.{◌≡◌, refl, sym, ap, ◌∙◌}
use mathlib.Core.List.{List}
use Prim.Native.Nat.{ℕ, ◌+◌, ◌≤◌, ◌<◌}
use native.Mathlib.Omega.{arith}
use lib.IntN.{ℤ}
use Rattle.rules.specs.Tree.{Tree}
use Rattle.rules.specs.Table.{kind_at, span_at, second_at, records_of}
use Rattle.table.specs.declared.kind.Source.TheVariants.{Input, Internal}
use Rattle.table.specs.declared.kind.Par.TheVariants.{And, Or}
use Rattle.table.specs.declared.kind.Kind.{Kind}
use Rattle.table.specs.declared.kind.Kind.TheVariants as kind
use Rattle.memory.specs.declared.act.Act.TheVariants.{Assign, Increase, Copy, Subtract, Compare, Divide, Output}
use Rattle.table.specs.Kinds.{row_of, children_of}
use Rattle.table.specs.Named.{kind_number, children, node_of, Stands}
use Rattle.table.specs.Places.{Place, Spot}
use Rattle.table.proofs.Places.{down-place, down-falls, next_place, next-falls}
use Rattle.table.proofs.Trees.{tree-kind}

-- ---- a kind's row by its name

pub named-children : (k : Kind) → children_of (kind_number k) ≡ children k
unfolding children_of
named-children kind.Nothing = refl
named-children (kind.Act Assign) = refl
named-children (kind.Act Increase) = refl
named-children (kind.Act Copy) = refl
named-children (kind.Act Subtract) = refl
named-children (kind.Act Compare) = refl
named-children (kind.Act Divide) = refl
named-children (kind.Act Output) = refl
named-children (kind.Await Input) = refl
named-children (kind.Await Internal) = refl
named-children kind.Emit = refl
named-children kind.Break = refl
named-children kind.If = refl
named-children kind.Sequence = refl
named-children kind.Loop = refl
named-children (kind.Every Input) = refl
named-children (kind.Every Internal) = refl
named-children (kind.Par And) = refl
named-children (kind.Par Or) = refl
named-children kind.Fin = refl

named-node : (k : Kind) (i v : ℕ) (z : ℤ) (p q : Tree) → (row_of (kind_number k)).make i v z p q ≡ node_of k i v z p q
named-node kind.Nothing i v z p q = refl
named-node (kind.Act Assign) i v z p q = refl
named-node (kind.Act Increase) i v z p q = refl
named-node (kind.Act Copy) i v z p q = refl
named-node (kind.Act Subtract) i v z p q = refl
named-node (kind.Act Compare) i v z p q = refl
named-node (kind.Act Divide) i v z p q = refl
named-node (kind.Act Output) i v z p q = refl
named-node (kind.Await Input) i v z p q = refl
named-node (kind.Await Internal) i v z p q = refl
named-node kind.Emit i v z p q = refl
named-node kind.Break i v z p q = refl
named-node kind.If i v z p q = refl
named-node kind.Sequence i v z p q = refl
named-node kind.Loop i v z p q = refl
named-node (kind.Every Input) i v z p q = refl
named-node (kind.Every Internal) i v z p q = refl
named-node (kind.Par And) i v z p q = refl
named-node (kind.Par Or) i v z p q = refl
named-node kind.Fin i v z p q = refl

pub stands_named : (b : List ℕ) (i : ℕ) → Place b i → (k : Kind) → kind_number k ≡ kind_at b i → Stands b i k
stands_named b i p k e = record {
  number = sym e;
  children = ap children_of (sym e) ∙ named-children k;
  tree = tree-kind b i p (kind_number k) (sym e) ∙ named-node k _ _ _ _ _;
}

-- ---- the children of a place

module _ (b : List ℕ) (i : ℕ) (p : Spot b i) where
  pub spot_first : 1 ≤ children_of (kind_at b i) → Spot b (i + 1)
  spot_first h = record { place = down-place b i p.place h; small = p.small }

  pub spot_second : 2 ≤ children_of (kind_at b i) → Spot b (second_at b i)
  spot_second h = record { place = next_place b i p.place h; small = p.small }

  pub first_inside : 1 ≤ children_of (kind_at b i) → i + 1 < records_of b
  first_inside h = (spot_first h).place.inside

  pub first_falls : 1 ≤ children_of (kind_at b i) → span_at b (i + 1) < span_at b i
  first_falls h = down-falls b i p.place h

  pub second_falls : 2 ≤ children_of (kind_at b i) → span_at b (second_at b i) < span_at b i
  second_falls h = omega (arith, next-falls b i p.place h)
