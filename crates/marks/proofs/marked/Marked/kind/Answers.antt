-- The kind that is read stands here.
use Rattle.table.proofs.Spots.{stands_named}
use Rattle.marks.proofs.marked.Marked.kind.Goals as goal

pub returns : goal.returns
returns c = stands_named _ _ c.args.self.stands.place c.in-Ok.kind c.in-Ok.ensures
