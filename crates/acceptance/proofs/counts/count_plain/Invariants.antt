-- What is counted from here on is counted from the row's place on.
use Rattle.std.proofs.Common.{Option}
use Rattle.acceptance.specs.Visits.{around_of}
use Rattle.acceptance.specs.Rows.{Ends, Counts}
use Rattle.acceptance.specs.declared.counts.Tally.{Tally}
use Rattle.acceptance.proofs.counts.count_plain.Given as goal

abbrev pub invariant-loop-place : goal.invariant-loop-place
invariant-loop-place l = record {
  row : Ends l.table l.row.end l.place;
  counts : (o : Option Tally) → Counts o l.table (around_of l.around) l.row.end l.place l.tally → Counts o l.table (around_of l.around) l.row.end l.row.place l.fn.tally;
}
