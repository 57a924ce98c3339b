-- The failing places from 0 on begin as those from this place on do.
use Rattle.std.proofs.Common.{◌≡◌, ◌-◌, ℕ, Bool}
use Rattle.rules.specs.Stages.{failing}
use Rattle.rules.specs.Table.{records_of}
use Rattle.table.specs.Found.{first_of}
use Rattle.acceptance.specs.Firsts.{TestsRecords}
use Rattle.acceptance.proofs.walks.first_record.Given as goal

abbrev pub invariant-loop-place : goal.invariant-loop-place
invariant-loop-place g l =
    goal.F-IsAlwaysCallable g l.right
    × ((ok : ℕ → Bool) → TestsRecords (goal.F-post g l.right) l.table ok → first_of (failing ok 0 (records_of l.table)) ≡ first_of (failing ok l.place (records_of l.table - l.place)))
