-- What a construct leaves, by what remains of its parts.
use Rattle.std.specs.Prelude.{◌≡◌, List, ◌++◌, ℕ, ◌+◌, ◌<◌, eqb, if◌then◌else◌}
use Rattle.std.proofs.Math.Option.{none, some}
use Rattle.rules.specs.Tree.{Tree, span_of, by_par}
use Rattle.rules.specs.Table.{span_at}
use Rattle.rules.specs.Marks.{rest_of}
use Rattle.rules.specs.Remaining.{records_for}
use Rattle.table.specs.Named.{par_of}
use Rattle.table.specs.Places.{tree_of}
use Rattle.table.specs.declared.kind.Kind as kind
use Rattle.table.specs.declared.kind.Kind.TheVariants as kind_case
use Rattle.marks.specs.Cursors.{tree}
use Rattle.marks.specs.Rest.{rest_span, rest_records, head_bytes}
use Rattle.marks.specs.declared.counted.Counted.{Counted}
use Rattle.marks.specs.declared.resting.Head.{Head}
use Rattle.marks.specs.declared.resting.Head.TheVariants.{Sequence, Loop, Par}
use Rattle.marks.specs.declared.resting.Rest.{Rest}
use Rattle.marks.specs.declared.resting.Rest.TheVariants.{Nothing, Whole, Only, Both}

-- the kind of a head's record
abbrev pub head_number : Head → ℕ
head_number Sequence = 13
head_number Loop = 20
head_number (Par o) = by_par (par_of o) 21

abbrev pub count_of : Counted → ℕ
count_of p = rest_span p.at.marks.now (tree p.at)

-- what remains of a construct whose first part has something left, by its kind and how many records remain of the other
abbrev pub with_first : kind.Kind → ℕ → Counted → Counted → Rest
with_first kind_case.Sequence r p q = Both Sequence p q
with_first kind_case.Loop r p q = Both Loop p q
with_first (kind_case.Par o) r p q = if eqb r 0 then Only p else Both (Par o) p q
with_first _ r p q = Only p

-- and of any, by how many records remain of its first part and the other
abbrev pub joined : kind.Kind → ℕ → ℕ → Counted → Counted → Rest
joined k l r p q = if eqb l 0 then Only q else with_first k r p q

-- a part of the construct at place i
pub record Part (b m : List ℕ) (i : ℕ) (p : Counted) : Type 0 where
  pub table : p.at.table.now ≡ b
  pub marks : p.at.marks.now ≡ m
  pub after : i < p.at.place
  pub falls : span_at p.at.table.now p.at.place < span_at b i

-- what a head has behind what remains of the first part: an and or an or what remains of the other, else the other whole
abbrev pub other_span : Head → List ℕ → Tree → ℕ
other_span Sequence m q = span_of q
other_span Loop m q = span_of q
other_span (Par o) m q = rest_span m q

abbrev pub other_records : Head → List ℕ → Tree → List ℕ
other_records Sequence m q = records_for q
other_records Loop m q = records_for q
other_records (Par o) m q = rest_records m q

-- a head over what remains of p, and what it has of q
pub record Over (h : Head) (m : List ℕ) (t p q : Tree) : Type 0 where
  pub span : rest_span m t ≡ 1 + (rest_span m p + other_span h m q)
  pub records : rest_records m t ≡ head_bytes (head_number h) (rest_span m t) ++ (rest_records m p ++ other_records h m q)

-- what r says of the construct at place i
abbrev pub Leaves : Rest → List ℕ → List ℕ → ℕ → Type 0
Leaves Nothing b m i = rest_of m (tree_of b i) ≡ none
Leaves Whole b m i = rest_of m (tree_of b i) ≡ some (tree_of b i)
Leaves (Only p) b m i = Part b m i p × (rest_of m (tree_of b i) ≡ rest_of m (tree_of b p.at.place))
Leaves (Both h p q) b m i = Part b m i p × Part b m i q × Over h m (tree_of b i) (tree_of b p.at.place) (tree_of b q.at.place)
