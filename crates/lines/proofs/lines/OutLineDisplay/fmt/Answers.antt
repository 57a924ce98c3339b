use Rattle.std.proofs.Common.{rules, w32, to_z-of_z}
use Rattle.std.proofs.Output.{has_written_of_eq}
use mir.Val.{SFits}
use Rattle.lines.proofs.Printing.{output-text}
use Rattle.lines.proofs.lines.OutLineDisplay.fmt.Goals as goal

pub returns-clause-writes : goal.returns-clause-writes
returns-clause-writes g c plain ok =
    let value : SFits w32 c.args.self.now.0.value = search rules in
    has_written_of_eq _ _ _ _ _ (output-text c.args.self.now.0.name c.args.self.now.0.value (search rules) value)
    (rw (to_z-of_z value) at (c.writeln.ensures.writes plain ok))
