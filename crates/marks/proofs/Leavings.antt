-- What remains of a construct, by its kind.
-- Assumes nothing.
use Rattle.std.specs.Prelude.{if◌then◌else◌}
use mathlib.Core.Path.{◌≡◌, refl, ap, ◌∙◌}
use mathlib.Core.Logic.{◌⊎◌, inl, inr}
use mathlib.Core.List.{List}
use mathlib.Core.Option.{Option, none, some}
use Prim.Native.Nat.{ℕ, ◌+◌, ◌<◌}
use native.Mathlib.Omega.{arith}
use lib.IntN.{ℤ}
use Rattle.rules.specs.Tree.{Tree, ifvar, seq, loop, par, at_loop, at_par, span_of, head_of}
use Rattle.rules.specs.Table.{name_at, number_at, span_at, second_at}
use Rattle.rules.specs.Marks.{marked, rest_of}
use Rattle.rules.specs.Remaining.{record_of, records_for}
use Rattle.table.specs.declared.kind.Par.{Par}
use Rattle.table.specs.declared.kind.Par.TheVariants.{And, Or}
use Rattle.table.specs.declared.kind.Kind.{Kind}
use Rattle.table.specs.declared.kind.Kind.TheVariants as kind
use Rattle.table.specs.Named.{par_of, node_of, Stands}
use Rattle.table.specs.Places.{Place, tree_of}
use Rattle.table.proofs.Trees.{tree-span, span-inside}
use Rattle.marks.specs.Fitting.{Sound}
use Rattle.marks.specs.declared.counted.Counted.{Counted}
use Rattle.marks.specs.declared.resting.Head.{Head}
use Rattle.marks.specs.declared.resting.Head.TheVariants as head
use Rattle.marks.specs.declared.resting.Rest.{Rest}
use Rattle.marks.specs.Rest.{span_o, rest_span, rest_records}
use Rattle.marks.specs.Leaving.{count_of, joined, Part, other_span, Over, Leaves}
use Rattle.marks.proofs.Spans.{something, rest-fits}
use Rattle.marks.proofs.Sorts.{Waits, TwoParts, Leaf}

-- ---- a construct that waits, and a leaf

module _ (b m : List ℕ) (i : ℕ) {k : Kind} (s : Stands b i k) where
  pub rest-waits : Waits k → rest_of m (tree_of b i) ≡ (if marked m i then some (tree_of b i) else none)
  unfolding rest_of
  rest-waits w = rw s.tree (go w)
    where
      go : Waits k → rest_of m (node_of k i (name_at b i) (number_at b i) (tree_of b (i + 1)) (tree_of b (second_at b i))) ≡ (if marked m i then some (node_of k i (name_at b i) (number_at b i) (tree_of b (i + 1)) (tree_of b (second_at b i))) else none)
      go (inl e) = rw e.1
      go (inr (inl e)) = rw e.1
      go (inr (inr e)) = rw e

pub rest-leaf : (m : List ℕ) (k : Kind) → Leaf k → (i v : ℕ) (z : ℤ) (p q : Tree) → rest_of m (node_of k i v z p q) ≡ none
unfolding rest_of
rest-leaf m kind.Nothing l i v z p q = refl
rest-leaf m (kind.Act a) l i v z p q = refl
rest-leaf m (kind.Await s) l i v z p q = absurd (l.no_await s refl)
rest-leaf m kind.Emit l i v z p q = refl
rest-leaf m kind.Break l i v z p q = refl
rest-leaf m kind.If l i v z p q = absurd (l.no_if refl)
rest-leaf m kind.Sequence l i v z p q = absurd (l.no_sequence refl)
rest-leaf m kind.Loop l i v z p q = absurd (l.no_loop refl)
rest-leaf m (kind.Every s) l i v z p q = absurd (l.no_every s refl)
rest-leaf m (kind.Par o) l i v z p q = absurd (l.no_par o refl)
rest-leaf m kind.Fin l i v z p q = absurd (l.no_fin refl)

pub leaf-rests : (b m : List ℕ) (i : ℕ) {k : Kind} → Stands b i k → Leaf k → rest_of m (tree_of b i) ≡ none
leaf-rests b m i {k} s l = rw s.tree (rest-leaf m k l i (name_at b i) (number_at b i) (tree_of b (i + 1)) (tree_of b (second_at b i)))

-- ---- a construct over both parts

module _ (m : List ℕ) (i : ℕ) {t p q u : Tree} (e : rest_of m p ≡ some u) where
  over-sequence : rest_of m t ≡ some (seq i u q) → Over head.Sequence m t p q
  unfolding rest_span rest_records span_of records_for record_of head_of
  over-sequence f = record { span = rw (f, e); records = rw (f, e) }

  over-loop : rest_of m t ≡ some (at_loop i u q) → Over head.Loop m t p q
  unfolding rest_span rest_records span_of records_for record_of head_of
  over-loop f = record { span = rw (f, e); records = rw (f, e) }

  over-par : (o : Par) {w : Tree} → rest_of m q ≡ some w → rest_of m t ≡ some (at_par i (par_of o) u w) → Over (head.Par o) m t p q
  unfolding rest_span rest_records span_of records_for record_of head_of
  over-par And g f = record { span = rw (f, e, g); records = rw (f, e, g) }
  over-par Or g f = record { span = rw (f, e, g); records = rw (f, e, g) }

-- ---- a construct of two parts, by what remains of each

module _ (b m : List ℕ) (i : ℕ) (p q : Counted) (first : Part b m i p) (other : Part b m i q) where
  abbrev P : Tree
  P = tree_of b p.at.place

  abbrev Q : Tree
  Q = tree_of b q.at.place

  count-first : count_of p ≡ span_o (rest_of m P)
  unfolding rest_span
  count-first = rw (first.table, first.marks)

  count-other : count_of q ≡ span_o (rest_of m Q)
  unfolding rest_span
  count-other = rw (other.table, other.marks)

  leaves-if : (v : ℕ) → tree_of b i ≡ ifvar i v P Q → Leaves (joined kind.If (count_of p) (count_of q) p q) b m i
  unfolding rest_of
  leaves-if v e = rw count-first (go (rest_of m P) refl)
    where
      go : (a : Option Tree) → rest_of m P ≡ a → Leaves (joined kind.If (span_o a) (count_of q) p q) b m i
      go none f = (other, ap (rest_of m) e ∙ rw f)
      go (some u) f = rw (something u) (first, ap (rest_of m) e ∙ rw f)

  leaves-sequence : tree_of b i ≡ seq i P Q → Leaves (joined kind.Sequence (count_of p) (count_of q) p q) b m i
  unfolding rest_of
  leaves-sequence e = rw count-first (go (rest_of m P) refl)
    where
      go : (a : Option Tree) → rest_of m P ≡ a → Leaves (joined kind.Sequence (span_o a) (count_of q) p q) b m i
      go none f = (other, ap (rest_of m) e ∙ rw f)
      go (some u) f = rw (something u) (first, other, over-sequence m i f (ap (rest_of m) e ∙ rw f))

  leaves-loop : tree_of b i ≡ loop i P → Q ≡ P → Leaves (joined kind.Loop (count_of p) (count_of q) p q) b m i
  unfolding rest_of
  leaves-loop e g = rw count-first (go (rest_of m P) refl)
    where
      go : (a : Option Tree) → rest_of m P ≡ a → Leaves (joined kind.Loop (span_o a) (count_of q) p q) b m i
      go none f = (other, ap (rest_of m) e ∙ rw (g, f))
      go (some u) f = rw (something u) (first, other, rw g (over-loop m i f (ap (rest_of m) e ∙ rw f)))

  leaves-par : (o : Par) → tree_of b i ≡ par i (par_of o) P Q → Leaves (joined (kind.Par o) (count_of p) (count_of q) p q) b m i
  unfolding rest_of
  leaves-par o e = rw (count-first, count-other) (go (rest_of m P) (rest_of m Q) refl refl)
    where
      go : (a c : Option Tree) → rest_of m P ≡ a → rest_of m Q ≡ c → Leaves (joined (kind.Par o) (span_o a) (span_o c) p q) b m i
      go none c f g = (other, ap (rest_of m) e ∙ rw f)
      go (some u) none f g = rw (something u) (first, ap (rest_of m) e ∙ rw (f, g))
      go (some u) (some w) f g = rw (something u, something w) (first, other, over-par m i f o g (ap (rest_of m) e ∙ rw (f, g)))

  module _ {k : Kind} (s : Stands b i k) (a : p.at.place ≡ i + 1) {r : Rest} (j : r ≡ joined k (count_of p) (count_of q) p q) where
    pub leaves-two : TwoParts k → q.at.place ≡ second_at b i → Leaves r b m i
    leaves-two w c = rw j (go w)
      where
        go : TwoParts k → Leaves (joined k (count_of p) (count_of q) p q) b m i
        go (inl e) = rw e (leaves-if (name_at b i) (s.tree ∙ rw (e, a, c)))
        go (inr (inl e)) = rw e (leaves-sequence (s.tree ∙ rw (e, a, c)))
        go (inr (inr e)) = rw e.1 (leaves-par e.0 (s.tree ∙ rw (e.1, a, c)))

    pub leaves-body : k ≡ kind.Loop → q.at.place ≡ p.at.place → Leaves r b m i
    leaves-body e c = rw (j, e) (leaves-loop (s.tree ∙ rw (e, a)) (ap (tree_of b) c))

-- ---- how many records that makes

pub nothing-span : (m : List ℕ) (t : Tree) → rest_of m t ≡ none → 0 ≡ rest_span m t
unfolding rest_span
nothing-span m t e = rw e

pub all-span : (b m : List ℕ) (i : ℕ) → Place b i → rest_of m (tree_of b i) ≡ some (tree_of b i) → rest_span m (tree_of b i) ≡ span_at b i
unfolding rest_span
all-span b m i p e = rw e (tree-span b i p)

module _ {b m : List ℕ} {i : ℕ} {p : Counted} (part : Part b m i p) where
  part-span : rest_span m (tree_of b p.at.place) ≡ count_of p
  part-span = rw (part.table, part.marks)

  pub only-span : rest_of m (tree_of b i) ≡ rest_of m (tree_of b p.at.place) → rest_span m (tree_of b i) ≡ count_of p
  unfolding rest_span
  only-span e = rw e part-span

pub both-span : {b m : List ℕ} {i : ℕ} {h : Head} {p q : Counted} → Part b m i p → Part b m i q → Over h m (tree_of b i) (tree_of b p.at.place) (tree_of b q.at.place) →
    rest_span m (tree_of b i) ≡ 1 + (count_of p + other_span h q.at.marks.now (tree_of q.at.table.now q.at.place))
both-span first other over = over.span ∙ rw (part-span first, other.table, other.marks)

-- the other part of a sequence or a loop
pub par-span : {h : Head} {o : Par} → h ≡ head.Par o → (m : List ℕ) (t : Tree) → other_span h m t ≡ rest_span m t
par-span e m t = rw e

pub whole-span : {h : Head} → (h ≡ head.Sequence) ⊎ (h ≡ head.Loop) → (m b : List ℕ) (i : ℕ) → Place b i → other_span h m (tree_of b i) ≡ span_at b i
whole-span (inl e) m b i p = rw e (tree-span b i p)
whole-span (inr e) m b i p = rw e (tree-span b i p)

pub fits-count : (b m : List ℕ) (i : ℕ) → Place b i → Sound b → {n : ℕ} → n ≡ rest_span m (tree_of b i) → n < 65536
fits-count b m i p s e = rw e (rest-fits m (tree_of b i) (omega (arith, tree-span b i p, span-inside b i p, s.few)))
