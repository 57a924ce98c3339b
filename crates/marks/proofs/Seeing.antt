-- What the marks say of a construct, by its kind; whether it fits; and stage 8 whole.
-- Assumes nothing.
use Rattle.std.specs.Prelude.{if◌then◌else◌, None, Some}
use Rattle.std.specs.Prelude as code
use mathlib.Core.Path.{◌≡◌, refl, ap, ◌∙◌}
use mathlib.Core.Bool.{Bool, true, false, not, ◌||◌}
use mathlib.Core.Logic.{inl, inr}
use mathlib.Core.List.{List, [], ◌∷◌, ◌++◌}
use mathlib.Core.Option.{Option, none, some}
use Prim.Native.Nat.{ℕ, ◌+◌}
use lib.IntN.{ℤ}
use lib.ListN.{length}
use borrow.Author.Tests.{eq-eqb, ne_eqb}
use Rattle.rules.specs.Stages.{is_some, failing, refusal, or_else, first_refusal}
use Rattle.rules.specs.Tree.{Tree, Par, or}
use Rattle.rules.specs.Table.{name_at, number_at, second_at, records_of, program_of}
use Rattle.rules.specs.Marks.{marked, mark_right, marks_stages, rest_seq, rest_if, rest_loop, rest_par, rest_of, misfit, par_misfit, misfits}
use Rattle.theory.proofs.Accepted.{marks-pass}
use Rattle.table.specs.declared.kind.Par.TheVariants.{And, Or}
use Rattle.table.specs.declared.kind.Kind.{Kind}
use Rattle.table.specs.declared.kind.Kind.TheVariants as kind
use Rattle.table.specs.Named.{node_of, Stands}
use Rattle.table.specs.Places.{tree_of}
use Rattle.table.specs.Found.{first_of, or_next}
use Rattle.table.proofs.Finding.{first-append}
use Rattle.marks.specs.Fitting.{seen_of, join_seen, refused_at}
use Rattle.marks.specs.declared.fitting.Seen.{Seen}
use Rattle.marks.proofs.Sorts.{Waits, TwoParts, Leaf}

-- ---- one construct

-- no child has marks, or some child has
either-marked : (a b : Option Tree) → is_some (rest_if a b) ≡ (is_some a || is_some b)
either-marked none b = refl
either-marked (some p) b = refl

seq-marked : (i : ℕ) (q : Tree) (a b : Option Tree) → is_some (rest_seq i a q b) ≡ (is_some a || is_some b)
seq-marked i q none b = refl
seq-marked i q (some p) b = refl

par-marked : (i : ℕ) (o : Par) (a b : Option Tree) → is_some (rest_par i o a b) ≡ (is_some a || is_some b)
par-marked i o none b = refl
par-marked i o (some p) none = refl
par-marked i o (some p) (some q) = refl

loop-marked : (i : ℕ) (p : Tree) (a : Option Tree) → is_some (rest_loop i p a) ≡ is_some a
loop-marked i p none = refl
loop-marked i p (some r) = refl

self-marked : (x : Bool) (t : Tree) → is_some (if x then some t else none) ≡ x
self-marked true t = refl
self-marked false t = refl

-- the lowest of the construct itself, its left and its right
first-here : (i : ℕ) (x : Bool) (l : List ℕ) → first_of (misfit i x ++ l) ≡ (if x then Some i else first_of l)
first-here i true l = refl
first-here i false l = refl

or-here : (i : ℕ) (x y : Bool) (l : List ℕ) → first_of (par_misfit i or x y ++ l) ≡ (if (if x then not y else y) then Some i else first_of l)
or-here i true y l = first-here i (not y) l
or-here i false y l = first-here i y l

-- a construct without marks, or with, that fits
abbrev pub fine : Bool → Seen
fine x = record { marked = x; misfit = None }

node-waits : (m : List ℕ) (i v : ℕ) (z : ℤ) (p q : Tree) {k : Kind} → Waits k → seen_of m (node_of k i v z p q) ≡ fine (marked m i)
unfolding seen_of rest_of misfits
node-waits m i v z p q (inl e) = rw (e.1, self-marked (marked m i))
node-waits m i v z p q (inr (inl e)) = rw (e.1, self-marked (marked m i))
node-waits m i v z p q (inr (inr e)) = rw (e, self-marked (marked m i))

node-two : (m : List ℕ) (i v : ℕ) (z : ℤ) (p q : Tree) {k : Kind} → TwoParts k → seen_of m (node_of k i v z p q) ≡ join_seen k i (seen_of m p) (seen_of m q)
unfolding seen_of rest_of misfits
node-two m i v z p q (inl e) = rw (e, either-marked, first-here, first-append)
node-two m i v z p q (inr (inl e)) = rw (e, seq-marked, first-here, first-append)
node-two m i v z p q (inr (inr (And, e))) = rw (e, par-marked, first-append (misfits m p))
node-two m i v z p q (inr (inr (Or, e))) = rw (e, par-marked, or-here, first-append)

node-leaf : (m : List ℕ) (i v : ℕ) (z : ℤ) (p q : Tree) (k : Kind) → Leaf k → seen_of m (node_of k i v z p q) ≡ fine false
unfolding seen_of rest_of misfits
node-leaf m i v z p q kind.Nothing l = refl
node-leaf m i v z p q (kind.Act a) l = refl
node-leaf m i v z p q (kind.Await s) l = absurd (l.no_await s refl)
node-leaf m i v z p q kind.Emit l = refl
node-leaf m i v z p q kind.Break l = refl
node-leaf m i v z p q kind.If l = absurd (l.no_if refl)
node-leaf m i v z p q kind.Sequence l = absurd (l.no_sequence refl)
node-leaf m i v z p q kind.Loop l = absurd (l.no_loop refl)
node-leaf m i v z p q (kind.Every s) l = absurd (l.no_every s refl)
node-leaf m i v z p q (kind.Par o) l = absurd (l.no_par o refl)
node-leaf m i v z p q kind.Fin l = absurd (l.no_fin refl)

module _ (b m : List ℕ) (i : ℕ) {k : Kind} (s : Stands b i k) where
  pub sees-waiting : Waits k → seen_of m (tree_of b i) ≡ fine (marked m i)
  sees-waiting w = rw s.tree (node-waits m i (name_at b i) (number_at b i) (tree_of b (i + 1)) (tree_of b (second_at b i)) w)

  pub sees-leaf : Leaf k → seen_of m (tree_of b i) ≡ fine false
  sees-leaf l = rw s.tree (node-leaf m i (name_at b i) (number_at b i) (tree_of b (i + 1)) (tree_of b (second_at b i)) k l)

  pub sees-loop : k ≡ kind.Loop → seen_of m (tree_of b i) ≡ seen_of m (tree_of b (i + 1))
  unfolding seen_of rest_of misfits
  sees-loop e = rw (s.tree, e, loop-marked)

  pub sees-two : TwoParts k → seen_of m (tree_of b i) ≡ join_seen k i (seen_of m (tree_of b (i + 1))) (seen_of m (tree_of b (second_at b i)))
  sees-two w = rw s.tree (node-two m i (name_at b i) (number_at b i) (tree_of b (i + 1)) (tree_of b (second_at b i)) w)

-- ---- stage 8

pub refuses-length : (b m : List ℕ) → (length m ≡ records_of b → ⊥) → some (refusal 8 0) ≡ first_refusal (marks_stages b m)
unfolding first_refusal marks_stages
refuses-length b m h = rw (ne_eqb (length m) (records_of b) h)

first-of-two : (a c : List ℕ) → refused_at (or_next (first_of a) (first_of c)) ≡ or_else a 8 (or_else c 8 none)
first-of-two [] [] = refl
first-of-two [] (j ∷ js) = refl
first-of-two (i ∷ is) c = refl

module _ (b m : List ℕ) (h : length m ≡ records_of b) where
  -- the lowest mark that is wrong, else the lowest construct that does not fit
  refuses-marks : refused_at (or_next (first_of (failing (mark_right b m) 0 (records_of b))) (seen_of m (tree_of b 0)).misfit) ≡ first_refusal (marks_stages b m)
  unfolding first_refusal marks_stages seen_of tree_of program_of
  refuses-marks = rw (eq-eqb (length m) (records_of b) h) (first-of-two (failing (mark_right b m) 0 (records_of b)) (misfits m (program_of b)))

  pub refuses-mark : (f : code.Option ℕ) → f ≡ first_of (failing (mark_right b m) 0 (records_of b)) → (f ≡ None → ⊥) → refused_at f ≡ first_refusal (marks_stages b m)
  refuses-mark None e n = absurd (n refl)
  refuses-mark (Some j) e n = ap (λ g. refused_at (or_next g (seen_of m (tree_of b 0)).misfit)) e ∙ refuses-marks

  pub refuses-misfit : None ≡ first_of (failing (mark_right b m) 0 (records_of b)) → {s : Seen} → s ≡ seen_of m (tree_of b 0) → refused_at s.misfit ≡ first_refusal (marks_stages b m)
  refuses-misfit e u = ap (λ z. refused_at z.misfit) u ∙ (ap (λ g. refused_at (or_next g (seen_of m (tree_of b 0)).misfit)) e ∙ refuses-marks)

-- what stage 8 lets pass is one mark for each record
pub sized : (b m : List ℕ) → first_refusal (marks_stages b m) ≡ none → length m ≡ records_of b
sized b m h = (marks-pass b m h).long
