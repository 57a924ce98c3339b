-- The construct's span; what is written from here on is written from the construct on.
use Rattle.std.proofs.Common.{◌≡◌, ◌≤◌, ◌+◌, ◌*◌, ℕ, List, length}
use Rattle.std.proofs.lemmas.List.Edits.{sets}
use Rattle.rules.specs.Table.{span_at}
use Rattle.marks.specs.Cursors.{tree}
use Rattle.marks.specs.Rest.{rest_span, rest_records}
use Rattle.marks.proofs.remaining.+write_rest.Given as goal

abbrev pub decreases-write_rest : goal.decreases-write_rest
decreases-write_rest l = span_at l.part.at.table.now l.part.at.place

abbrev pub decreases-loop-out : goal.decreases-loop-out
decreases-loop-out l = span_at l.part.at.table.now l.part.at.place

abbrev pub invariant-loop-out : goal.invariant-loop-out
invariant-loop-out l = record {
  smaller : span_at l.part.at.table.now l.part.at.place ≤ span_at l.fn.part.at.table.now l.fn.part.at.place;
  room : 8 * (l.at + rest_span l.part.at.marks.now (tree l.part.at)) ≤ length l.out;
  stores : (o : List ℕ) → o ≡ sets l.out (8 * l.at) (rest_records l.part.at.marks.now (tree l.part.at)) → o ≡ sets l.initial.out (8 * l.fn.at) (rest_records l.fn.part.at.marks.now (tree l.fn.part.at));
}
