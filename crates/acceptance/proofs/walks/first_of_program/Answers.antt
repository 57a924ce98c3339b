-- The walk from the program on is that of the rules.
use Rattle.std.proofs.Common.{◌∙◌, ap}
use Rattle.rules.specs.Check.{hits}
use Rattle.table.specs.Found.{first_of}
use Rattle.acceptance.proofs.walks.first_of_program.Goals as goal

pub returns-clause-found : goal.returns-clause-found
returns-clause-found g c = λ f h. c.first_within.ensures.found f h ∙ ap (λ vs. first_of (hits f vs)) c.of.ensures.walk
