-- A reaction that is refused leaves the totals; any other is counted as one.
use Rattle.std.proofs.Common.{w32, to_z-of_z}
use Rattle.std.proofs.lemmas.Result.{err_from_is_err_and}
use Rattle.calls.specs.Answers.{sent_of}
use Rattle.landarbeso.proofs.Counting.{reaction-refused, reaction-counted}
use Rattle.landarbeso.proofs.react.Goals as goal

pub returns-in_err-done : goal.returns-in_err-done
returns-in_err-done c =
    let p = err_from_is_err_and c.from_residual.result c.from_residual.ensures.1 in
    rw (p.1, p.2) (reaction-refused c.args.table.now c.args.marks.now c.args.vars.now c.args.out.now (sent_of c.args.event c.args.value) c.args.totals.now (rw (to_z-of_z {w = w32} c.ranges.value) at c.in_err-done.ensures))

pub returns : goal.returns
returns c =
    reaction-counted c.args.table.now c.args.marks.now c.args.vars.now c.args.out.now (sent_of c.args.event c.args.value) c.args.totals.now
    (rw (to_z-of_z {w = w32} c.ranges.value) at c.in_ok-done.ensures) c.count.ensures
