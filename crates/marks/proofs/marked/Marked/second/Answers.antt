-- The second child is a place of the same table, with the same marks.
use Rattle.std.proofs.Common.{arith}
use Rattle.table.proofs.Places.{down-place, next_place, next-falls}
use Rattle.marks.proofs.marked.Marked.second.Goals as goal

pub second_at-requires : goal.second_at-requires
second_at-requires c = (down-place _ _ c.args.self.stands.place (omega (arith, c.requires))).inside

pub invariant_of-result : goal.invariant_of-result
invariant_of-result c = record { stands = rw c.second_at.ensures (record { place = next_place _ _ c.args.self.stands.place c.requires; sized = c.args.self.stands.sized }) }

pub returns-clause-smaller : goal.returns-clause-smaller
returns-clause-smaller c = rw c.second_at.ensures (omega (arith, next-falls _ _ c.args.self.stands.place c.requires))
