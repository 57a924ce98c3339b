-- The verdict of stages 2 and 3.
use Rattle.std.proofs.Common.{refl, rules}
use Rattle.std.proofs.lemmas.Result.{err_from_is_err_and}
use Rattle.rules.specs.Table.{records_of, shape_right}
use Rattle.acceptance.specs.Records.{record_fits}
use Rattle.acceptance.proofs.Refusals.{refuses, none-found, err-by, ok-by, refused-2, refused-3, passed-3, passed-both, shaped, all-shaped, is-none}
use Rattle.acceptance.proofs.check_records.Goals as goal

pub returns-then-is_none-clause-passed : goal.returns-then-is_none-clause-passed
returns-then-is_none-clause-passed c =
    let e3 = c.first_record.ensures.found (record_fits c.args.table.now) (λ r x q h. rw (← q) (search rules)) in
    passed-both c.args.table.now c.spans_table.ensures c.if-spans_table.true e3 (is-none _ c.if-is_none.ensures) refl c.requires

pub returns-then-is_none-clause-shape : goal.returns-then-is_none-clause-shape
returns-then-is_none-clause-shape c =
    let e3 = c.first_record.ensures.found (record_fits c.args.table.now) (λ r x q h. rw (← q) (search rules)) in
    all-shaped c.args.table.now c.spans_table.ensures c.if-spans_table.true e3 (is-none _ c.if-is_none.ensures)

pub returns-in_err-passed-clause-refused : goal.returns-in_err-passed-clause-refused
returns-in_err-passed-clause-refused c =
    let e2 = c.first_record-shape.ensures.found (shape_right c.args.table.now (records_of c.args.table.now)) (λ r x q h. rw (← q) (search rules)) in
    let p = err_from_is_err_and c.from_residual.result c.from_residual.ensures.1 in
    rw (p.1, p.2) (refuses _ c.passed.ensures (λ p d. refused-2 c.args.table.now refl c.requires e2 d) c.in_err-passed.was)

pub returns-clause-refused : goal.returns-clause-refused
returns-clause-refused c =
    let e2 = c.first_record-shape.ensures.found (shape_right c.args.table.now (records_of c.args.table.now)) (λ r x q h. rw (← q) (search rules)) in
    let e3 = c.first_record-ranges.ensures.found (record_fits c.args.table.now) (λ r x q h. rw (← q) (search rules)) in
    err-by _ c.passed-2.ensures (λ p d. refused-3 c.args.table.now refl c.requires e2 (none-found _ c.passed.ensures c.in_ok-passed.was) e3 d)

pub returns-clause-passed : goal.returns-clause-passed
returns-clause-passed c =
    let e2 = c.first_record-shape.ensures.found (shape_right c.args.table.now (records_of c.args.table.now)) (λ r x q h. rw (← q) (search rules)) in
    let e3 = c.first_record-ranges.ensures.found (record_fits c.args.table.now) (λ r x q h. rw (← q) (search rules)) in
    ok-by _ c.passed-2.ensures (λ d. passed-3 c.args.table.now refl c.requires e2 (none-found _ c.passed.ensures c.in_ok-passed.was) e3 d)

pub returns-clause-shape : goal.returns-clause-shape
returns-clause-shape c =
    let e2 = c.first_record-shape.ensures.found (shape_right c.args.table.now (records_of c.args.table.now)) (λ r x q h. rw (← q) (search rules)) in
    ok-by _ c.passed-2.ensures (λ d. shaped c.args.table.now e2 (none-found _ c.passed.ensures c.in_ok-passed.was))
