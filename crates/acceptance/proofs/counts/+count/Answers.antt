-- A row is gone through record by record.
use Rattle.std.proofs.Common.{◌∙◌, refl, None, arith}
use Rattle.acceptance.specs.Visits.{around_of}
use Rattle.acceptance.proofs.Rows.{row-next, row-after, row-fits}
use Rattle.acceptance.proofs.Counting.{counts-end, counts-fail, counts-next, counts-stop, counts-under, same-children, same-many, same-place, same-passes, same-span, same-tally, same-row, counts-by, given-none, given-some}
use Rattle.acceptance.proofs.counts.+count.Goals as goal

pub returns-then-not-passes : goal.returns-then-not-passes
returns-then-not-passes t c =
    let v = c.new-visit in
    let no = same-passes v.result v.ensures.construct v.ensures.around c.passes.ensures c.if-not-passes.true in
    c.loop-place.invariant.counts None (counts-fail c.args.row.table.now (around_of c.args.row.around) c.args.row.end c.loop-place.place (omega arith) c.loop-place.tally no)

pub count-requires : goal.count-requires
count-requires t c =
    (omega (arith, c.below.ensures.place, c.below.ensures.end, c.loop-place.invariant.behind, row-fits c.loop-place.invariant.row (omega arith), same-place c.new-visit.result c.new-visit.ensures.construct c.new-visit.ensures.around, same-span c.new-visit.result c.new-visit.ensures.construct c.new-visit.ensures.around refl), c.below.ensures.row)

pub returns-then-not-count : goal.returns-then-not-count
returns-then-not-count t c =
    let v = c.new-visit in
    let b = c.below.ensures in
    let yes = same-passes v.result v.ensures.construct v.ensures.around c.passes.ensures c.if-not-passes.false in
    let one = same-children v.result v.ensures.construct v.ensures.around (c.children.ensures) ∙ c.if-children-eq1.true in
    let row = same-row v.result v.ensures.construct v.ensures.around c.below.result c.loop-place.tally b.table b.place b.end b.around c.add.ensures c.count.ensures in
    c.loop-place.invariant.counts _ (counts-stop c.args.row.table.now (around_of c.args.row.around) c.args.row.end c.loop-place.place (omega arith) c.loop-place.tally yes one row (given-none _ c.if-not-count.true) refl)

pub loop-place-preserved-then-children-eq1 : goal.loop-place-preserved-then-children-eq1
loop-place-preserved-then-children-eq1 t c =
    let v = c.new-visit in
    let b = c.below.ensures in
    let yes = same-passes v.result v.ensures.construct v.ensures.around c.passes.ensures c.if-not-passes.false in
    let one = same-children v.result v.ensures.construct v.ensures.around (c.children.ensures) ∙ c.if-children-eq1.true in
    let row = same-row v.result v.ensures.construct v.ensures.around c.below.result c.loop-place.tally b.table b.place b.end b.around c.add.ensures c.count.ensures in
    let span = same-span v.result v.ensures.construct v.ensures.around c.span-place.ensures in
    record {
      row = rw span (row-after c.loop-place.invariant.row (omega arith));
      behind = omega (arith, c.loop-place.invariant.behind);
      counts = rw span (λ o h. c.loop-place.invariant.counts o (counts-under c.args.row.table.now (around_of c.args.row.around) c.args.row.end c.loop-place.place (omega arith) c.loop-place.tally yes one row (given-some _ c.if-not-count.false) h));
    }

pub loop-place-preserved : goal.loop-place-preserved
loop-place-preserved t c =
    let v = c.new-visit in
    let yes = same-passes v.result v.ensures.construct v.ensures.around c.passes.ensures c.if-not-passes.false in
    let more = same-many v.result v.ensures.construct v.ensures.around c.children.ensures c.if-children-eq1.false in
    record {
      row = row-next c.loop-place.invariant.row (omega arith) more;
      behind = omega (arith, c.loop-place.invariant.behind);
      counts = λ o h. c.loop-place.invariant.counts o (counts-next c.args.row.table.now (around_of c.args.row.around) c.args.row.end c.loop-place.place (omega arith) c.loop-place.tally yes more (counts-by refl refl refl refl (same-tally v.result v.ensures.construct v.ensures.around c.loop-place.tally c.add.ensures) h));
    }

pub returns : goal.returns
returns t c = c.loop-place.invariant.counts _ (counts-end c.args.row.table.now (around_of c.args.row.around) c.args.row.end c.loop-place.place (omega arith) c.loop-place.tally)
