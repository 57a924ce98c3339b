-- How many records remain, by what remains.
use Rattle.std.proofs.Common.{◌≡◌, ◌+◌, sym, ◌∙◌, arith}
use Rattle.table.specs.Places.{tree_of}
use Rattle.marks.specs.Rest.{rest_span}
use Rattle.marks.proofs.Leavings.{nothing-span, all-span, only-span, both-span, fits-count}
use Rattle.marks.proofs.resting.count_at.Goals as goal

pub returns-in-Nothing-clause-records : goal.returns-in-Nothing-clause-records
returns-in-Nothing-clause-records c = nothing-span _ _ c.in-Nothing.ensures

pub returns-in-Whole-clause-records : goal.returns-in-Whole-clause-records
returns-in-Whole-clause-records c = c.span.ensures.span ∙ sym (all-span _ _ _ c.args.at.stands.place c.in-Whole.ensures)

pub returns-in-Only-clause-records : goal.returns-in-Only-clause-records
returns-in-Only-clause-records c = c.count.ensures.records ∙ sym (only-span c.in-Only.ensures.0 c.in-Only.ensures.1)

pub returns-in-Both : goal.returns-in-Both
returns-in-Both c =
    let e = c.in-Both.ensures in
    let n : 1 + c.count-in-Both.result + c.other_count.result ≡ rest_span c.args.at.marks.now (tree_of c.args.at.table.now c.args.at.place) =
    omega (arith, both-span e.0 e.1 e.2, c.count-in-Both.ensures.records, c.other_count.ensures.count) in
    record { records = n; two_bytes = fits-count _ _ _ c.args.at.stands.place c.requires.sound n }
