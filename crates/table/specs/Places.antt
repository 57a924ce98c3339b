-- A place of a table whose shape is right, and the tree that stands there.
use Rattle.std.specs.Prelude.{◌≡◌, List, ℕ, zero, suc, ◌+◌, ◌*◌, ◌<◌, ◌≤◌, T}
use Rattle.rules.specs.Limits.{most_records}
use Rattle.rules.specs.Tree.{Tree, Act, Source, Par, act_kind, by_source, by_par, nop, act, await, emit, break, ifvar, seq, loop, every, par, fin}
use Rattle.rules.specs.Table.{byte_at, kind_at, name_at, span_at, number_at, second_at, tree_at, records_of, shape_right}

-- the number of a record as its 32 bits
abbrev pub bits_at : List ℕ → ℕ → ℕ
bits_at b i = byte_at b i 4 + 256 * byte_at b i 5 + 256 * 256 * byte_at b i 6 + 256 * 256 * 256 * byte_at b i 7

-- stage 2 passes at every place
abbrev pub Shape : List ℕ → Type 0
Shape b = (j : ℕ) → j < records_of b → T (shape_right b (records_of b) j)

-- a place of such a table
pub record Place (b : List ℕ) (i : ℕ) : Type 0 where
  pub shape : Shape b
  pub inside : i < records_of b

-- a place of a table that is no longer than one may be
pub record Spot (b : List ℕ) (i : ℕ) : Type 0 where
  pub place : Place b i
  pub small : records_of b ≤ most_records

-- the tree at a place
unfoldable pub tree_of : List ℕ → ℕ → Tree
unfolding tree_at
tree_of b i = tree_at (records_of b) b i

-- what the span of a record with so many children says
abbrev pub SpanFor : ℕ → List ℕ → ℕ → Type 0
SpanFor zero b i = span_at b i ≡ 1
SpanFor (suc zero) b i = (i + 1 < records_of b) × (span_at b i ≡ 1 + span_at b (i + 1))
SpanFor (suc (suc n)) b i = (i + 1 < records_of b) × (second_at b i < records_of b) × (span_at b i ≡ 1 + span_at b (i + 1) + span_at b (second_at b i))

-- the node that the record at a place makes over the trees at its children's places
pub data Node (b : List ℕ) (i : ℕ) : Tree → Type 0 where
  a_nop : kind_at b i ≡ 0 → Node b i (nop i)
  an_act : (a : Act) → kind_at b i ≡ act_kind a → Node b i (act i a (name_at b i) (number_at b i))
  an_await : (s : Source) → kind_at b i ≡ by_source s 8 → Node b i (await i s (name_at b i))
  an_emit : kind_at b i ≡ 10 → Node b i (emit i (name_at b i) (number_at b i))
  a_break : kind_at b i ≡ 11 → Node b i (break i)
  an_if : kind_at b i ≡ 12 → Node b i (ifvar i (name_at b i) (tree_of b (i + 1)) (tree_of b (second_at b i)))
  a_seq : kind_at b i ≡ 13 → Node b i (seq i (tree_of b (i + 1)) (tree_of b (second_at b i)))
  a_loop : kind_at b i ≡ 14 → Node b i (loop i (tree_of b (i + 1)))
  an_every : (s : Source) → kind_at b i ≡ by_source s 15 → Node b i (every i s (name_at b i) (tree_of b (i + 1)))
  a_par : (o : Par) → kind_at b i ≡ by_par o 17 → Node b i (par i o (tree_of b (i + 1)) (tree_of b (second_at b i)))
  a_fin : kind_at b i ≡ 19 → Node b i (fin i (tree_of b (i + 1)))
