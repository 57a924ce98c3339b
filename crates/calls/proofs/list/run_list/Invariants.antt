-- After the events before the place what runs stands for what was taken, and what is left is what the rules have left.
use Rattle.std.proofs.Common.{◌≡◌, None}
use Rattle.calls.specs.Answers.{lent}
use Rattle.calls.proofs.Listing.{Going}
use Rattle.calls.proofs.list.run_list.Given as goal

abbrev pub invariant-loop-place : goal.invariant-loop-place
invariant-loop-place l = record { going : Going l.table (lent l.fn.marks l.fn.vars l.fn.out) l.events l.place l.run l.out l.emitted l.highest; taken : l.taken ≡ l.place; stopped : l.stopped ≡ None }
