-- The first event that is not right, else a broken last record.
use Rattle.std.proofs.Common.{arith}
use Rattle.calls.proofs.Passing.{wrong-event, broken-last, none-bad}
use Rattle.calls.proofs.stages.first_bad.Goals as goal

pub returns-in-Some-clause-first : goal.returns-in-Some-clause-first
returns-in-Some-clause-first c = wrong-event c.args.events.now (omega arith) c.first_wrong.result c.first_wrong.ensures c.in-Some.is

pub returns-then-events-ne0-clause-first : goal.returns-then-events-ne0-clause-first
returns-then-events-ne0-clause-first c = broken-last c.args.events.now (omega arith) c.first_wrong.result c.first_wrong.ensures c.in_default.is c.if-events-ne0.true

pub returns-clause-first : goal.returns-clause-first
returns-clause-first c = none-bad c.args.events.now (omega arith) c.first_wrong.result c.first_wrong.ensures c.in_default.is c.if-events-ne0.false
