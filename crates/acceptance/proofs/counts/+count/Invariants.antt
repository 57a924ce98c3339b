-- The measure is the span of the row; of the loop, the places that are left. What is counted from here on is counted from the row's place on.
use Rattle.std.proofs.Common.{◌-◌, ◌≤◌, Option}
use Rattle.acceptance.specs.Visits.{around_of}
use Rattle.acceptance.specs.Rows.{Ends, Counts}
use Rattle.acceptance.specs.declared.counts.Tally.{Tally}
use Rattle.acceptance.proofs.counts.+count.Given as goal

abbrev pub decreases-count : goal.decreases-count
decreases-count l = l.row.end - l.row.place

abbrev pub decreases-loop-place : goal.decreases-loop-place
decreases-loop-place l = l.row.end - l.place

abbrev pub invariant-loop-place : goal.invariant-loop-place
invariant-loop-place l = record {
  row : Ends l.table l.row.end l.place;
  behind : l.row.place ≤ l.place;
  counts : (o : Option Tally) → Counts o l.table (around_of l.around) l.row.end l.place l.tally → Counts o l.table (around_of l.around) l.row.end l.row.place l.fn.tally;
}
