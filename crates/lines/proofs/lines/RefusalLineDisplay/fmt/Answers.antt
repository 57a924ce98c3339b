use Rattle.std.proofs.Common.{rules}
use Rattle.std.proofs.Output.{has_written_of_eq}
use Rattle.lines.proofs.Printing.{refusal-text}
use Rattle.lines.proofs.lines.RefusalLineDisplay.fmt.Goals as goal

pub returns-clause-writes : goal.returns-clause-writes
returns-clause-writes g c plain ok =
    has_written_of_eq _ _ _ _ _ (refusal-text c.args.self.now.number c.args.self.now.place (search rules) (search rules)) (c.writeln.ensures.writes plain ok)
