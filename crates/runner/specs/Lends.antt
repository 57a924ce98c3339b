-- What a run lends to the calls, in the rules' words.
use Rattle.std.specs.Prelude.{take, Result}
use Rattle.rules.specs.Table.{records_of}
use Rattle.rules.specs.Calls.{Lent, Outcome}
use Rattle.table.specs.declared.refusal.Refusal.{Refusal}
use Rattle.calls.specs.declared.Done.{Done}
use Rattle.calls.specs.Answers.{Uncounted, lent}
use Rattle.runner.specs.declared.run.Run.{Run}

-- one mark for each record
abbrev pub lends : Run → Lent
lends r = lent (take (records_of r.program.table.now) r.marks) r.vars r.room

-- the call's answer, and what it left stands in the run
abbrev pub Called : Outcome → Result Done Refusal → Run → Type 0
Called o result r = Uncounted o result (lends r).marks (lends r).vars (lends r).room
