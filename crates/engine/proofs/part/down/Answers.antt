-- From part to part, and the places are written down.
use Rattle.std.proofs.Common.{◌∙◌}
use Rattle.engine.proofs.Parts.{way_on}
use Rattle.engine.proofs.part.down.Goals as goal

pub loop-at-preserved : goal.loop-at-preserved
loop-at-preserved c =
    let i = c.loop-at.invariant in
    let p = c.push.ensures in
    record {
      table = c.in-Some.ensures.table ∙ i.table;
      path_table = p.table ∙ i.path_table;
      end = p.end;
      way = way_on _ _ _ c.loop-at.path.places _ _ _ _ _ p.steps p.end p.kept i.way i.end (rw i.table at c.in-Some.ensures.step);
    }
