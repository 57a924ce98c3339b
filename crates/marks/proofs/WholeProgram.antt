-- What remains of a program is its tree at rest.
-- Assumes nothing.
use mathlib.Core.Path.{◌≡◌, refl, sym, ap, ◌∙◌}
use mathlib.Core.List.{List}
use mathlib.Core.Option.{Option, none, some}
use Prim.Native.Nat.{ℕ, ◌*◌, ◌≤◌, max}
use native.Mathlib.Omega.{arith}
use lib.ListN.{length}
use lib.Seq.{sets}
use borrow.Author.Tests.{eqb-false}
use Rattle.rules.specs.Tree.{Tree, nop, span_of, head_of}
use Rattle.rules.specs.Table.{program_of}
use Rattle.rules.specs.Marks.{rest_of, or_nop, at_rest}
use Rattle.rules.specs.Calls.{onto}
use Rattle.rules.specs.Remaining.{record_of, records_for}
use Rattle.table.specs.Places.{tree_of}
use Rattle.marks.specs.Rest.{span_o, records_o, rest_span, rest_records, head_bytes}
use Rattle.marks.proofs.Spans.{something}
use Rattle.marks.proofs.Stores.{stored-front}
use Rattle.marks.proofs.Copies.{records-length}

none_left : (o : Option Tree) → span_o o ≡ 0 → or_nop o ≡ nop 0
none_left none e = refl
none_left (some t) e = absurd (eqb-false (span_of t) 0 (something t) e)

some-span : (o : Option Tree) → (span_o o ≡ 0 → ⊥) → span_o o ≡ span_of (or_nop o)
some-span none e = absurd (e refl)
some-span (some t) e = refl

some-records : (o : Option Tree) → (span_o o ≡ 0 → ⊥) → records_o o ≡ records_for (or_nop o)
some-records none e = absurd (e refl)
some-records (some t) e = refl

most-span : (o : Option Tree) → max (span_o o) 1 ≡ span_of (or_nop o)
unfolding span_of
most-span none = refl
most-span (some t) = omega (arith, eqb-false (span_of t) 0 (something t))

-- the count of the whole program, as the code finds it
module _ (b m : List ℕ) {s : ℕ} (q : s ≡ rest_span m (tree_of b 0)) where
  span_rest : s ≡ span_o (rest_of m (program_of b))
  unfolding rest_span tree_of program_of
  span_rest = q

  pub most-rest : max s 1 ≡ span_of (at_rest m (program_of b))
  unfolding at_rest
  most-rest = rw span_rest (most-span (rest_of m (program_of b)))

  module _ (e : s ≡ 0) where
    nothing_left : at_rest m (program_of b) ≡ nop 0
    unfolding at_rest
    nothing_left = none_left (rest_of m (program_of b)) (sym span_rest ∙ e)

    pub span-nothing : 1 ≡ span_of (at_rest m (program_of b))
    unfolding span_of
    span-nothing = sym (ap span_of nothing_left)

    pub wrote_nothing : (out : List ℕ) {o1 : List ℕ} → 8 * span_of (at_rest m (program_of b)) ≤ length out → o1 ≡ sets out (8 * 0) (head_bytes 0 1) → o1 ≡ onto (records_for (at_rest m (program_of b))) out
    unfolding records_for record_of head_of span_of
    wrote_nothing out h u = u ∙ (stored-front out (head_bytes 0 1) refl (omega (arith, span-nothing)) ∙ ap (λ t. onto (records_for t) out) (sym nothing_left))

  module _ (e : s ≡ 0 → ⊥) where
    pub span-something : s ≡ span_of (at_rest m (program_of b))
    unfolding at_rest
    span-something = span_rest ∙ some-span (rest_of m (program_of b)) (λ z. e (span_rest ∙ z))

    records-something : rest_records m (tree_of b 0) ≡ records_for (at_rest m (program_of b))
    unfolding rest_records at_rest tree_of program_of
    records-something = some-records (rest_of m (program_of b)) (λ z. e (span_rest ∙ z))

    pub wrote-something : (out : List ℕ) {o1 : List ℕ} → 8 * span_of (at_rest m (program_of b)) ≤ length out → o1 ≡ sets out (8 * 0) (rest_records m (tree_of b 0)) → o1 ≡ onto (records_for (at_rest m (program_of b))) out
    wrote-something out h u =
        u ∙ (ap (sets out 0) records-something ∙ stored-front out (records_for (at_rest m (program_of b))) refl (omega (arith, records-length (at_rest m (program_of b)))))
