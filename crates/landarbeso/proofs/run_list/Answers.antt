-- A list that is refused leaves the totals; of any other the events that were taken are counted.
use Rattle.std.proofs.lemmas.Result.{err_from_is_err_and}
use Rattle.landarbeso.proofs.Counting.{list-refused, list-counted}
use Rattle.landarbeso.proofs.run_list.Goals as goal

pub returns-in_err-listed : goal.returns-in_err-listed
returns-in_err-listed c =
    let p = err_from_is_err_and c.from_residual.result c.from_residual.ensures.1 in
    rw (p.1, p.2) (list-refused c.args.table.now c.args.marks.now c.args.vars.now c.args.out.now c.args.events.now c.args.totals.now c.in_err-listed.ensures)

pub returns : goal.returns
returns c = list-counted c.args.table.now c.args.marks.now c.args.vars.now c.args.out.now c.args.events.now c.args.totals.now c.in_ok-listed.ensures c.count.ensures
