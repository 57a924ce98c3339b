-- The table of records, the kinds table, and the tree that a table is; stages 2 and 3 at one place.
use Rattle.std.specs.Prelude.{Bool, true, false, not, ◌&&◌, ◌||◌, List, [], ◌∷◌, ℕ, zero, suc, ◌+◌, ◌*◌, ◌/◌, eqb, ltb, leb, ℤ, pos, negsuc, length, get_or}
use Rattle.rules.specs.Stages.{within}
use Rattle.rules.specs.Limits.{record_bytes, most_name}
use Rattle.rules.specs.Number.{num32}
use Rattle.rules.specs.Tree.{Tree, nop, act, await, emit, break, ifvar, seq, loop, every, par, fin, input, internal, assign, increase, copy, subtract, compare, divide, output, and, or}

-- how many children
pub data Children : Type 0 where
  leaf one two wrong : Children

-- what a name or a number may be
pub data Range : Type 0 where
  nought anything up_to63 one_to63 : Range

pub record Kind : Type 0 where
  pub children : Children
  pub name : Range
  pub number : Range
  pub make : ℕ → ℕ → ℤ → Tree → Tree → Tree  -- from the place, the name, the number and the children

abbrev pub kind : Children → Range → Range → (ℕ → ℕ → ℤ → Tree → Tree → Tree) → Kind
kind c n k m = record { children = c; name = n; number = k; make = m }

-- the kinds table, from kind 0 on
abbrev pub kinds : List Kind
kinds =
    kind leaf nought nought (λ i v k p q. nop i) ∷
    kind leaf one_to63 anything (λ i v k p q. act i assign v k) ∷
    kind leaf one_to63 anything (λ i v k p q. act i increase v k) ∷
    kind leaf one_to63 up_to63 (λ i v k p q. act i copy v k) ∷
    kind leaf one_to63 up_to63 (λ i v k p q. act i subtract v k) ∷
    kind leaf one_to63 up_to63 (λ i v k p q. act i compare v k) ∷
    kind leaf one_to63 up_to63 (λ i v k p q. act i divide v k) ∷
    kind leaf one_to63 up_to63 (λ i v k p q. act i output v k) ∷
    kind leaf one_to63 nought (λ i v k p q. await i input v) ∷
    kind leaf one_to63 nought (λ i v k p q. await i internal v) ∷
    kind leaf one_to63 nought (λ i v k p q. emit i v k) ∷
    kind leaf nought nought (λ i v k p q. break i) ∷
    kind two up_to63 nought (λ i v k p q. ifvar i v p q) ∷
    kind two nought nought (λ i v k p q. seq i p q) ∷
    kind one nought nought (λ i v k p q. loop i p) ∷
    kind one one_to63 nought (λ i v k p q. every i input v p) ∷
    kind one one_to63 nought (λ i v k p q. every i internal v p) ∷
    kind two nought nought (λ i v k p q. par i and p q) ∷
    kind two nought nought (λ i v k p q. par i or p q) ∷
    kind one nought nought (λ i v k p q. fin i p) ∷
    []

abbrev pub over19 : Kind
over19 = kind wrong nought nought (λ i v k p q. nop i)

-- ---- the record at place i of a table of bytes

abbrev pub byte_at : List ℕ → ℕ → ℕ → ℕ
byte_at b i k = get_or b (record_bytes * i + k) 0

abbrev pub kind_at : List ℕ → ℕ → ℕ
kind_at b i = byte_at b i 0

abbrev pub name_at : List ℕ → ℕ → ℕ
name_at b i = byte_at b i 1

abbrev pub span_at : List ℕ → ℕ → ℕ
span_at b i = byte_at b i 2 + 256 * byte_at b i 3

-- also the value of an event in a list, and of an output
abbrev pub number_at : List ℕ → ℕ → ℤ
number_at b i = num32 (byte_at b i 4) (byte_at b i 5) (byte_at b i 6) (byte_at b i 7)

-- its row of the kinds table
abbrev pub row_at : List ℕ → ℕ → Kind
row_at b i = get_or kinds (kind_at b i) over19

-- the first child stands at the next place, the second after the first one's span
abbrev pub second_at : List ℕ → ℕ → ℕ
second_at b i = i + 1 + span_at b (i + 1)

-- ---- the tree

-- at place i, with fuel for its depth
unfoldable pub tree_at : ℕ → List ℕ → ℕ → Tree
tree_at zero b i = nop i
tree_at (suc f) b i = elim (row_at b i).children [
  | leaf ↦ (row_at b i).make i (name_at b i) (number_at b i) (nop i) (nop i)
  | one ↦ (row_at b i).make i (name_at b i) (number_at b i) (tree_at f b (i + 1)) (nop i)
  | two ↦ (row_at b i).make i (name_at b i) (number_at b i) (tree_at f b (i + 1)) (tree_at f b (second_at b i))
  | wrong ↦ nop i
]

abbrev pub records_of : List ℕ → ℕ
records_of b = length b / record_bytes

unfoldable pub program_of : List ℕ → Tree
unfolding tree_at
program_of b = tree_at (records_of b) b 0

-- ---- stage 2, at one place of a table of n records

abbrev pub span_fits : Children → List ℕ → ℕ → ℕ → Bool
span_fits leaf b n i = eqb (span_at b i) 1
span_fits one b n i = ltb (i + 1) n && eqb (span_at b i) (1 + span_at b (i + 1))
span_fits two b n i = ltb (i + 1) n && ltb (second_at b i) n && eqb (span_at b i) (1 + span_at b (i + 1) + span_at b (second_at b i))
span_fits wrong b n i = false

-- record 0 spans the table
abbrev pub shape_right : List ℕ → ℕ → ℕ → Bool
shape_right b n i = span_fits (row_at b i).children b n i && (not (eqb i 0) || eqb (span_at b 0) n)

-- ---- stage 3, at one place

abbrev pub in_range : Range → ℤ → Bool
in_range nought (pos n) = eqb n 0
in_range nought (negsuc n) = false
in_range anything z = true
in_range up_to63 (pos n) = leb n most_name
in_range up_to63 (negsuc n) = false
in_range one_to63 (pos n) = within 1 most_name n
in_range one_to63 (negsuc n) = false

abbrev pub in_kinds_table : List ℕ → ℕ → Bool
in_kinds_table b i = in_range (row_at b i).name (pos (name_at b i)) && in_range (row_at b i).number (number_at b i)
