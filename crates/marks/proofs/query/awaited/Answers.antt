-- The walk begins, goes on and ends.
use Rattle.std.proofs.Common.{◌∙◌, arith}
use Rattle.marks.proofs.Seeing.{sized}
use Rattle.marks.proofs.Hearing.{set_rest}
use Rattle.marks.proofs.Onward.{walk_start, walk_more, walk_end, next-after}
use Rattle.marks.proofs.query.awaited.Goals as goal

pub loop-place-init : goal.loop-place-init
loop-place-init c = walk_start _ _ c.requires.sound.root

pub invariant_of-at : goal.invariant_of-at
invariant_of-at c = record { stands = record { place = record { shape = c.requires.sound.root.shape; inside = omega arith }; sized = sized _ _ c.requires.passes } }

pub loop-place-smaller : goal.loop-place-smaller
loop-place-smaller c =
    omega (arith, next-after c.args.table.now c.loop-place.place (record { shape = c.requires.sound.root.shape; inside = omega arith }) c.next_at-place.ensures)

pub loop-place-preserved : goal.loop-place-preserved
loop-place-preserved c = walk_more _ _ c.loop-place.invariant (omega arith) c.heard_at-set.ensures c.next_at-place.ensures

pub returns : goal.returns
returns c = walk_end _ _ c.loop-place.invariant (omega arith) ∙ set_rest _ _ c.requires.passes
