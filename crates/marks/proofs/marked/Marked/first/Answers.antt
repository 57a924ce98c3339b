-- The first child is a place of the same table, with the same marks.
use Rattle.table.proofs.Places.{down-place, down-falls}
use Rattle.marks.proofs.marked.Marked.first.Goals as goal

pub invariant_of-result : goal.invariant_of-result
invariant_of-result c = record { stands = record { place = down-place _ _ c.args.self.stands.place c.requires; sized = c.args.self.stands.sized } }

pub returns-clause-smaller : goal.returns-clause-smaller
returns-clause-smaller c = down-falls _ _ c.args.self.stands.place c.requires
