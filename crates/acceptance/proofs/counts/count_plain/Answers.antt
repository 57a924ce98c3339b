-- A row under an every or a fin is gone through record by record.
use Rattle.std.proofs.Common.{refl, None, arith}
use Rattle.acceptance.specs.Visits.{around_of}
use Rattle.acceptance.proofs.Rows.{row-next}
use Rattle.acceptance.proofs.Counting.{counts-end, counts-fail, counts-next, same-many, same-passes, same-tally, counts-by}
use Rattle.acceptance.proofs.Confined.{confined-many}
use Rattle.acceptance.proofs.counts.count_plain.Goals as goal

pub returns-then-not-passes : goal.returns-then-not-passes
returns-then-not-passes c =
    let v = c.new-visit in
    let no = same-passes v.result v.ensures.construct v.ensures.around c.passes.ensures c.if-not-passes.true in
    c.loop-place.invariant.counts None (counts-fail c.args.row.table.now (around_of c.args.row.around) c.args.row.end c.loop-place.place (omega arith) c.loop-place.tally no)

pub loop-place-preserved : goal.loop-place-preserved
loop-place-preserved c =
    let v = c.new-visit in
    let yes = same-passes v.result v.ensures.construct v.ensures.around c.passes.ensures c.if-not-passes.false in
    let more = same-many v.result v.ensures.construct v.ensures.around refl (confined-many v.result v.ensures.around c.requires.confined c.passes.ensures c.if-not-passes.false) in
    record {
      row = row-next c.loop-place.invariant.row (omega arith) more;
      counts = λ o h. c.loop-place.invariant.counts o (counts-next c.args.row.table.now (around_of c.args.row.around) c.args.row.end c.loop-place.place (omega arith) c.loop-place.tally yes more (counts-by refl refl refl refl (same-tally v.result v.ensures.construct v.ensures.around c.loop-place.tally c.add.ensures) h));
    }

pub returns : goal.returns
returns c = c.loop-place.invariant.counts _ (counts-end c.args.row.table.now (around_of c.args.row.around) c.args.row.end c.loop-place.place (omega arith) c.loop-place.tally)
