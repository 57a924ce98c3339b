-- By a number that is not 0: the search alone is near its limit here.
use Rattle.std.proofs.Common.{◌∙◌, to_z-of_z, w32}
use borrow.Author.Rules.{sfits_of}
use Rattle.memory.proofs.Wrap.{quotient_wraps}
use Rattle.memory.proofs.number.quotient.Goals as goal

pub returns-else-b-eq0 : goal.returns-else-b-eq0
returns-else-b-eq0 c =
    to_z-of_z {w = w32} (sfits_of c.wrapping_div.type_inv) ∙ c.wrapping_div.ensures
    ∙ rw (to_z-of_z c.ranges.a, to_z-of_z c.ranges.b) (quotient_wraps c.args.a c.args.b c.ranges.a c.if-b-eq0.false)
