-- The part at the end of the way runs, then what stands above it; where nothing runs, or the part is blocked, so is the program.
use Rattle.std.proofs.Common.{◌∙◌, sym}
use Rattle.table.specs.Places.{Spot}
use Rattle.engine.proofs.Parts.{way-path, none_runs}
use Rattle.engine.proofs.Climbing.{path-still, onward-blocked, onward-climbs}
use Rattle.engine.proofs.round.run_part.Goals as goal

pub returns-then-reach-clause-left : goal.returns-then-reach-clause-left
returns-then-reach-clause-left c =
    let root : Spot c.args.program.table.now 0 = rw c.requires.root at c.args.program.stands in
    rw c.requires.root (sym (onward-blocked _ _ _ _ (none_runs c.args.program.table.now c.args.run.now.states _ _ root.place c.requires.runs c.if-reach.true)))

pub returns-then-blocked-clause-left : goal.returns-then-blocked-clause-left
returns-then-blocked-clause-left c =
    let table = c.down.ensures.table ∙ c.new-path.ensures.table in
    let way = way-path c.args.program.table.now c.args.run.now.states _ _ _ c.requires.runs (rw c.new-path.ensures.table at c.down.ensures.way) in
    let still = rw (c.end-part.ensures.table, c.end-part.ensures.place, table, c.turn_of-n.ensures) at (sym c.blocked.ensures ∙ c.if-blocked.true) in
    rw c.requires.root (sym (onward-blocked _ _ _ _ (path-still c.args.program.table.now _ _ _ way still)))

pub returns-clause-left : goal.returns-clause-left
returns-clause-left c =
    let root : Spot c.args.program.table.now 0 = rw c.requires.root at c.args.program.stands in
    let table = c.down.ensures.table ∙ c.new-path.ensures.table in
    let way = way-path c.args.program.table.now c.args.run.now.states _ _ _ c.requires.runs (rw c.new-path.ensures.table at c.down.ensures.way) in
    let part = rw (c.end-part.ensures.table, c.end-part.ensures.place, table, c.turn_of-n.ensures) at c.resume-how.ensures in
    let all = rw (table, c.turn_of-n.ensures) at c.climb.ensures in
    rw c.requires.root (onward-climbs _ _ root _ _ (all _ _ way part) c.pending.ensures.event)
