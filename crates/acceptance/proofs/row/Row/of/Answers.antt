-- A program is the row of one construct.
use Rattle.table.specs.Places.{Place}
use Rattle.acceptance.proofs.Rows.{whole-row}
use Rattle.acceptance.proofs.row.Row.of.Goals as goal

pub returns-clause-row : goal.returns-clause-row
returns-clause-row c =
    let whole : Place c.args.program.table.now 0 = rw (← c.requires) c.args.program.stands.place in
    whole-row c.args.program.table.now whole
