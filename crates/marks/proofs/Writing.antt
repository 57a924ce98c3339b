-- Writing what remains of a construct: the room that each part has, and that the parts together are the whole.
-- Assumes nothing.
use mathlib.Core.Path.{◌≡◌, refl, sym, ap, ◌∙◌}
use mathlib.Core.Logic.{◌⊎◌, inl, inr}
use mathlib.Core.List.{List, [], ◌++◌}
use mathlib.Core.Option.{Option, none, some}
use Prim.Native.Nat.{ℕ, ◌+◌, ◌*◌}
use native.Mathlib.Omega.{arith}
use lib.ListN.{length}
use lib.Seq.{sets}
use Rattle.rules.specs.Tree.{Tree}
use Rattle.rules.specs.Marks.{rest_of}
use Rattle.rules.specs.Remaining.{records_for}
use Rattle.table.specs.Places.{tree_of}
use Rattle.marks.specs.declared.counted.Counted.{Counted}
use Rattle.marks.specs.declared.resting.Head.{Head}
use Rattle.marks.specs.declared.resting.Head.TheVariants as head
use Rattle.marks.specs.Rest.{span_o, records_o, rest_span, rest_records, head_bytes}
use Rattle.marks.specs.Leaving.{head_number, count_of, Part, other_records, Over}
use Rattle.marks.proofs.Stores.{stored-after}
use Rattle.marks.proofs.Copies.{records-length}

pub rest-length : (m : List ℕ) (t : Tree) → length (rest_records m t) ≡ 8 * rest_span m t
unfolding rest_records rest_span
rest-length m t = go (rest_of m t)
  where
    go : (o : Option Tree) → length (records_o o) ≡ 8 * span_o o
    go none = refl
    go (some u) = records-length u

-- ---- nothing, all, or what remains of one part

pub nothing-records : (m : List ℕ) (t : Tree) → rest_of m t ≡ none → rest_records m t ≡ []
unfolding rest_records
nothing-records m t e = rw e

pub all-records : (m : List ℕ) (t : Tree) → rest_of m t ≡ some t → rest_records m t ≡ records_for t
unfolding rest_records
all-records m t e = rw e

module _ {b m : List ℕ} {i : ℕ} {p : Counted} (part : Part b m i p) where
  part-records : rest_records p.at.marks.now (tree_of p.at.table.now p.at.place) ≡ rest_records m (tree_of b p.at.place)
  part-records = rw (part.table, part.marks)

  pub only-records : rest_of m (tree_of b i) ≡ rest_of m (tree_of b p.at.place) → rest_records p.at.marks.now (tree_of p.at.table.now p.at.place) ≡ rest_records m (tree_of b i)
  unfolding rest_records
  only-records e = part-records ∙ rw e

-- ---- a head over two parts

-- a head, a first part of so many records, and another part, one after the other
stored-parts : (out x y z : List ℕ) (at n : ℕ) {o1 o2 o3 : List ℕ} → length x ≡ 8 → length y ≡ 8 * n → o1 ≡ sets out (8 * at) x → o2 ≡ sets o1 (8 * (at + 1)) y → o3 ≡ sets o2 (8 * (at + 1 + n)) z →
    o3 ≡ sets out (8 * at) (x ++ (y ++ z))
stored-parts out x y z at n {o1} a c e f g =
    g ∙ (ap (λ l. sets l (8 * (at + 1 + n)) z) f ∙ (stored-after o1 (8 * (at + 1)) y z (omega arith) ∙ (ap (λ l. sets l (8 * (at + 1)) (y ++ z)) e ∙ stored-after out (8 * at) x (y ++ z) (omega arith))))

module _ {b m : List ℕ} {i : ℕ} {h : Head} {p q : Counted} (first : Part b m i p) (other : Part b m i q) (over : Over h m (tree_of b i) (tree_of b p.at.place) (tree_of b q.at.place)) where
  other_is : other_records h q.at.marks.now (tree_of q.at.table.now q.at.place) ≡ other_records h m (tree_of b q.at.place)
  other_is = rw (other.table, other.marks)

  pub parts-stored : (out : List ℕ) (at : ℕ) {o1 o2 o3 : List ℕ} {k s l : ℕ} → k ≡ head_number h → s ≡ rest_span m (tree_of b i) → l ≡ count_of p → o1 ≡ sets out (8 * at) (head_bytes k s) →
      o2 ≡ sets o1 (8 * (at + 1)) (rest_records p.at.marks.now (tree_of p.at.table.now p.at.place)) → o3 ≡ sets o2 (8 * (at + 1 + l)) (other_records h q.at.marks.now (tree_of q.at.table.now q.at.place)) →
      o3 ≡ sets out (8 * at) (rest_records m (tree_of b i))
  parts-stored out at {k = k} {s = s} {l = l} d e f u v w =
      stored-parts out (head_bytes k s) (rest_records p.at.marks.now (tree_of p.at.table.now p.at.place)) (other_records h q.at.marks.now (tree_of q.at.table.now q.at.place)) at l refl
      (rest-length p.at.marks.now (tree_of p.at.table.now p.at.place) ∙ ap (λ n. 8 * n) (sym f)) u v w
      ∙ (rw (d, e, part-records first, other_is) (ap (sets out (8 * at)) (sym over.records)))

-- the other part of a sequence or a loop
pub whole-is : {h : Head} → (h ≡ head.Sequence) ⊎ (h ≡ head.Loop) → (m : List ℕ) (t : Tree) → other_records h m t ≡ records_for t
whole-is (inl e) m t = rw e
whole-is (inr e) m t = rw e
