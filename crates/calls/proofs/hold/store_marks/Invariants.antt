-- `store_marks` copies the states of the records: the loop has copied those before the place.
use Rattle.std.proofs.Common.{◌≡◌}
use Rattle.calls.proofs.Copying.{copied}
use Rattle.calls.proofs.hold.store_marks.Given as goal

abbrev pub invariant-loop-place : goal.invariant-loop-place
invariant-loop-place l = l.marks ≡ copied l.place l.states l.fn.marks
