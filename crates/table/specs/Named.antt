-- The kinds by their names in code, and what stands at a place of each kind.
use Rattle.std.specs.Prelude.{◌≡◌, ℕ, ◌+◌, ◌≤◌, List, ℤ, Result, MatchResult}
use Rattle.rules.specs.Tree as Rules
use Rattle.rules.specs.Tree.{Tree, nop, act, await, emit, break, ifvar, seq, loop, every, par, fin, input, internal, and, or, act_kind, by_source, by_par}
use Rattle.rules.specs.Table.{kind_at, name_at, number_at, second_at}
use Rattle.memory.specs.Acts.{act_of}
use Rattle.table.specs.Kinds.{children_of}
use Rattle.table.specs.Places.{tree_of}
use Rattle.table.specs.declared.kind.Source as source
use Rattle.table.specs.declared.kind.Source.TheVariants.{Input, Internal}
use Rattle.table.specs.declared.kind.Par as par_code
use Rattle.table.specs.declared.kind.Par.TheVariants.{And, Or}
use Rattle.table.specs.declared.kind.Kind.{Kind}
use Rattle.table.specs.declared.kind.Kind.TheVariants as kind
use Rattle.table.specs.declared.kind.NoKind.{NoKind}

abbrev pub source_of : source.Source → Rules.Source
source_of Input = input
source_of Internal = internal

abbrev pub par_of : par_code.Par → Rules.Par
par_of And = and
par_of Or = or

abbrev pub kind_number : Kind → ℕ
kind_number kind.Nothing = 0
kind_number (kind.Act a) = act_kind (act_of a)
kind_number (kind.Await s) = by_source (source_of s) 8
kind_number kind.Emit = 10
kind_number kind.Break = 11
kind_number kind.If = 12
kind_number kind.Sequence = 13
kind_number kind.Loop = 14
kind_number (kind.Every s) = by_source (source_of s) 15
kind_number (kind.Par o) = by_par (par_of o) 17
kind_number kind.Fin = 19

abbrev pub children : Kind → ℕ
children kind.Nothing = 0
children (kind.Act a) = 0
children (kind.Await s) = 0
children kind.Emit = 0
children kind.Break = 0
children kind.If = 2
children kind.Sequence = 2
children kind.Loop = 1
children (kind.Every s) = 1
children (kind.Par o) = 2
children kind.Fin = 1

-- the kind of this number, or the number that no kind has
abbrev pub ReadsKind : ℕ → Result Kind NoKind → Type 0
ReadsKind n r = MatchResult r (λ k. kind_number k ≡ n) (λ e. (e.0 ≡ n) × (20 ≤ n))

-- the node of a kind, from place, name, number and children
abbrev pub node_of : Kind → ℕ → ℕ → ℤ → Tree → Tree → Tree
node_of kind.Nothing i v k p q = nop i
node_of (kind.Act a) i v k p q = act i (act_of a) v k
node_of (kind.Await s) i v k p q = await i (source_of s) v
node_of kind.Emit i v k p q = emit i v k
node_of kind.Break i v k p q = break i
node_of kind.If i v k p q = ifvar i v p q
node_of kind.Sequence i v k p q = seq i p q
node_of kind.Loop i v k p q = loop i p
node_of (kind.Every s) i v k p q = every i (source_of s) v p
node_of (kind.Par o) i v k p q = par i (par_of o) p q
node_of kind.Fin i v k p q = fin i p

-- a record of this kind stands at the place: its number, how many children, and the tree
pub record Stands (b : List ℕ) (i : ℕ) (k : Kind) : Type 0 where
  pub number : kind_at b i ≡ kind_number k
  pub children : children_of (kind_at b i) ≡ children k
  pub tree : tree_of b i ≡ node_of k i (name_at b i) (number_at b i) (tree_of b (i + 1)) (tree_of b (second_at b i))
