-- The query's walk over the records, past an every or a fin as a whole: it hears what the places of the tree listen for.
-- Assumes nothing.
use Rattle.std.specs.Prelude.{if◌then◌else◌}
use mathlib.Core.Path.{◌≡◌, refl, sym, ap, ap₂, ◌∙◌}
use mathlib.Core.Bool.{Bool, true, false, ◌||◌}
use mathlib.Core.Logic.{◌⊎◌, inl, inr}
use mathlib.Core.List.{List}
use Prim.Native.Nat.{ℕ, ◌+◌, ◌≤◌, ◌<◌}
use native.Mathlib.Omega.{arith}
use lib.Bits.{bit_or}
use lib.Dec.{eqb, ltb}
use Rattle.rules.specs.Tree.{Tree, input, internal, assign, increase, copy, subtract, compare, divide, output, and, or}
use Rattle.rules.specs.Table.{kind_at, span_at, second_at, records_of}
use Rattle.memory.specs.declared.act.Act.TheVariants.{Assign, Increase, Copy, Subtract, Compare, Divide, Output}
use Rattle.table.specs.declared.kind.Source.{Source}
use Rattle.table.specs.declared.kind.Source.TheVariants.{Input, Internal}
use Rattle.table.specs.declared.kind.Par.TheVariants.{And, Or}
use Rattle.table.specs.declared.kind.Kind.{Kind}
use Rattle.table.specs.declared.kind.Kind.TheVariants as kind
use Rattle.table.specs.Named.{kind_number, Stands}
use Rattle.table.specs.Kinds.{children_of}
use Rattle.table.specs.Places.{Place, tree_of, SpanFor, Node, a_nop, an_act, an_await, an_emit, a_break, an_if, a_seq, a_loop, an_every, a_par, a_fin}
use Rattle.table.proofs.Places.{span-for, span_pos, root-span}
use Rattle.table.proofs.Trees.{node_at}
use Rattle.marks.specs.Awaited.{event_set, heard_by, hears_at, heard_at, next_at}
use Rattle.marks.proofs.EventSets.{same_set, no-events, both-sets}
use Rattle.marks.proofs.Hearing.{listens, or-none}

-- constructs side by side from place i to the end of the table
pub data Onward (b : List ℕ) : ℕ → Type 0 where
  ended : {i : ℕ} → records_of b ≤ i → Onward b i
  going : {i j : ℕ} → Place b i → j ≡ i + span_at b i → Onward b j → Onward b i

-- one of them listens
unfoldable pub some_on : (b m : List ℕ) (e : ℕ) {i : ℕ} → Onward b i → Bool
unfolding listens tree_of
some_on b m e (ended h) = false
some_on b m e {i} (going p q o) = listens m (heard_by e) (tree_of b i) || some_on b m e o

or_assoc : (x y z : Bool) → ((x || y) || z) ≡ (x || (y || z))
or_assoc true y z = refl
or_assoc false y z = refl

-- ---- one record

-- a tree at place i and what stands behind it: its record by itself, and what stands at the next place of the walk
record Goes (b m : List ℕ) (i : ℕ) (t : Tree) {j : ℕ} (o : Onward b j) : Type 0 where
  at : ℕ
  here : at ≡ next_at b i
  on : Onward b at
  same : (e : ℕ) → (listens m (heard_by e) t || some_on b m e o) ≡ (hears_at b m i e || some_on b m e on)

module _ (b m : List ℕ) (i : ℕ) (p : Place b i) {j : ℕ} (q : j ≡ i + span_at b i) (o : Onward b j) where
  -- nothing inside
  whole : {t : Tree} → next_at b i ≡ i + span_at b i → ((e : ℕ) → listens m (heard_by e) t ≡ hears_at b m i e) → Goes b m i t o
  whole n h = record { at = j; here = q ∙ sym n; on = o; same = λ e. ap (λ x. x || some_on b m e o) (h e) }

  leaf : span_at b i ≡ 1 → i + 1 ≡ i + span_at b i
  leaf e = omega arith

  module _ {t : Tree} (n : next_at b i ≡ i + 1) (quiet : (e : ℕ) → hears_at b m i e ≡ false) where
    one : SpanFor 1 b i → ((e : ℕ) → listens m (heard_by e) t ≡ listens m (heard_by e) (tree_of b (i + 1))) → Goes b m i t o
    unfolding some_on
    one s h = record {
      at = i + 1;
      here = sym n;
      on = going {j = j} (record { shape = p.shape; inside = s.0 }) (omega (arith, s.1)) o;
      same = λ e. rw (quiet e) (ap (λ x. x || some_on b m e o) (h e));
    }

    two : SpanFor 2 b i → ((e : ℕ) → listens m (heard_by e) t ≡ (listens m (heard_by e) (tree_of b (i + 1)) || listens m (heard_by e) (tree_of b (second_at b i)))) → Goes b m i t o
    unfolding some_on
    two s h = record {
      at = i + 1;
      here = sym n;
      on = going (record { shape = p.shape; inside = s.0 }) refl (going {j = j} (record { shape = p.shape; inside = s.1 }) (omega (arith, s.2)) o);
      same = λ e.
          rw (quiet e)
          (ap (λ x. x || some_on b m e o) (h e) ∙ or_assoc (listens m (heard_by e) (tree_of b (i + 1))) (listens m (heard_by e) (tree_of b (second_at b i))) (some_on b m e o));
    }

  goes : Goes b m i (tree_of b i) o
  unfolding listens some_on next_at children_of
  goes = go (node_at b i p) (span-for b i p)
    where
      go : {t : Tree} → Node b i t → SpanFor (children_of (kind_at b i)) b i → Goes b m i t o
      go (a_nop h) s = whole (rw h (leaf (rw h at s))) (λ e. rw h)
      go (an_act assign h) s = whole (rw h (leaf (rw h at s))) (λ e. rw h)
      go (an_act increase h) s = whole (rw h (leaf (rw h at s))) (λ e. rw h)
      go (an_act copy h) s = whole (rw h (leaf (rw h at s))) (λ e. rw h)
      go (an_act subtract h) s = whole (rw h (leaf (rw h at s))) (λ e. rw h)
      go (an_act compare h) s = whole (rw h (leaf (rw h at s))) (λ e. rw h)
      go (an_act divide h) s = whole (rw h (leaf (rw h at s))) (λ e. rw h)
      go (an_act output h) s = whole (rw h (leaf (rw h at s))) (λ e. rw h)
      go (an_await input h) s = whole (rw h (leaf (rw h at s))) (λ e. rw h)
      go (an_await internal h) s = whole (rw h (leaf (rw h at s))) (λ e. rw h)
      go (an_emit h) s = whole (rw h (leaf (rw h at s))) (λ e. rw h)
      go (a_break h) s = whole (rw h (leaf (rw h at s))) (λ e. rw h)
      go (an_if h) s = two (rw h refl) (λ e. rw h) (rw h at s) (λ e. refl)
      go (a_seq h) s = two (rw h refl) (λ e. rw h) (rw h at s) (λ e. refl)
      go (a_loop h) s = one (rw h refl) (λ e. rw h) (rw h at s) (λ e. refl)
      go (an_every input h) s = whole (rw h refl) (λ e. rw h)
      go (an_every internal h) s = whole (rw h refl) (λ e. rw h)
      go (a_par and h) s = two (rw h refl) (λ e. rw h) (rw h at s) (λ e. refl)
      go (a_par or h) s = two (rw h refl) (λ e. rw h) (rw h at s) (λ e. refl)
      go (a_fin h) s = whole (rw h refl) (λ e. rw h)

-- behind an every or a fin
pub next-over : (b : List ℕ) (i : ℕ) {k : Kind} → Stands b i k → ((s : Source) × (k ≡ kind.Every s)) ⊎ (k ≡ kind.Fin) → {n : ℕ} → n ≡ span_at b i → i + n ≡ next_at b i
unfolding next_at children_of
next-over b i s (inl (Input, e)) q = rw (s.number, e, q)
next-over b i s (inl (Internal, e)) q = rw (s.number, e, q)
next-over b i s (inr e) q = rw (s.number, e, q)

next-kind : (b : List ℕ) (i : ℕ) (k : Kind) → kind_at b i ≡ kind_number k → ((s : Source) → k ≡ kind.Every s → ⊥) → (k ≡ kind.Fin → ⊥) → i + 1 ≡ next_at b i
unfolding next_at children_of
next-kind b i kind.Nothing e n f = rw e
next-kind b i (kind.Act Assign) e n f = rw e
next-kind b i (kind.Act Increase) e n f = rw e
next-kind b i (kind.Act Copy) e n f = rw e
next-kind b i (kind.Act Subtract) e n f = rw e
next-kind b i (kind.Act Compare) e n f = rw e
next-kind b i (kind.Act Divide) e n f = rw e
next-kind b i (kind.Act Output) e n f = rw e
next-kind b i (kind.Await Input) e n f = rw e
next-kind b i (kind.Await Internal) e n f = rw e
next-kind b i kind.Emit e n f = rw e
next-kind b i kind.Break e n f = rw e
next-kind b i kind.If e n f = rw e
next-kind b i kind.Sequence e n f = rw e
next-kind b i kind.Loop e n f = rw e
next-kind b i (kind.Every s) e n f = absurd (n s refl)
next-kind b i (kind.Par And) e n f = rw e
next-kind b i (kind.Par Or) e n f = rw e
next-kind b i kind.Fin e n f = absurd (f refl)

pub next_one : (b : List ℕ) (i : ℕ) {k : Kind} → Stands b i k → ((s : Source) → k ≡ kind.Every s → ⊥) → (k ≡ kind.Fin → ⊥) → i + 1 ≡ next_at b i
next_one b i {k} s n f = next-kind b i k s.number n f

pub next-after : (b : List ℕ) (i : ℕ) → Place b i → {j : ℕ} → j ≡ next_at b i → i < j
unfolding next_at
next-after b i p {j} q = go (ltb (kind_at b i) 15) (eqb (children_of (kind_at b i)) 1) q
  where
    go : (x y : Bool) → j ≡ (if x then i + 1 else (if y then i + span_at b i else i + 1)) → i < j
    go true y q = omega arith
    go false true q = omega (arith, span_pos b i p)
    go false false q = omega arith

-- ---- the whole walk

-- the walk has come to place i: what it has heard, and what is left, are what the program listens for
pub record Walked (b m : List ℕ) (i set : ℕ) : Type 0 where
  pub so_far : ℕ → Bool
  pub set_is : set ≡ event_set so_far
  pub at : ℕ
  pub here : at ≡ i
  pub on : Onward b at
  pub all : (e : ℕ) → listens m (heard_by e) (tree_of b 0) ≡ (so_far e || some_on b m e on)

pub walk_start : (b m : List ℕ) → Place b 0 → Walked b m 0 0
unfolding some_on
walk_start b m p = record {
  so_far = λ e. false;
  set_is = sym no-events;
  at = 0;
  here = refl;
  on = going {j = records_of b} p (omega (arith, root-span b p)) (ended {i = records_of b} (omega arith));
  all = λ e. or-none (listens m (heard_by e) (tree_of b 0));
}

module _ (b m : List ℕ) {i set : ℕ} (w : Walked b m i set) where
  pub walk_more : i < records_of b → {x j : ℕ} → x ≡ heard_at b m i → j ≡ next_at b i → Walked b m j (bit_or set x)
  unfolding some_on heard_at
  walk_more l {x} {j} u v = go w.on w.here w.all
    where
      go : {at : ℕ} (on : Onward b at) → at ≡ i → ((e : ℕ) → listens m (heard_by e) (tree_of b 0) ≡ (w.so_far e || some_on b m e on)) → Walked b m j (bit_or set x)
      go (ended h) q all = absurd (omega arith)
      go {at} (going p f o) q all =
          let g = goes b m at p f o in
          record {
            so_far = λ e. w.so_far e || hears_at b m at e;
            set_is = ap₂ bit_or w.set_is (u ∙ ap (heard_at b m) (sym q)) ∙ both-sets w.so_far (hears_at b m at);
            at = g.at;
            here = g.here ∙ (ap (next_at b) q ∙ sym v);
            on = g.on;
            all = λ e. all e ∙ (ap (λ y. w.so_far e || y) (g.same e) ∙ sym (or_assoc (w.so_far e) (hears_at b m at e) (some_on b m e g.on)));
          }

  pub walk_end : records_of b ≤ i → set ≡ event_set (λ e. listens m (heard_by e) (tree_of b 0))
  unfolding some_on
  walk_end l = w.set_is ∙ go w.on w.here w.all
    where
      go : {at : ℕ} (on : Onward b at) → at ≡ i → ((e : ℕ) → listens m (heard_by e) (tree_of b 0) ≡ (w.so_far e || some_on b m e on)) → event_set w.so_far ≡ event_set (λ e. listens m (heard_by e) (tree_of b 0))
      go (ended h) q all = same_set w.so_far (λ e. listens m (heard_by e) (tree_of b 0)) (λ e. or-none (w.so_far e) ∙ sym (all e))
      go (going p f o) q all = absurd (omega (arith, p.inside))
