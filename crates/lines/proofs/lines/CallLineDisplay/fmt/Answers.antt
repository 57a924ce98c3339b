use Rattle.std.proofs.Common.{rules, w32, to_z-of_z, append_assoc}
use Rattle.std.proofs.Output.{has_written_of_eq}
use mir.Val.{SFits}
use Rattle.lines.proofs.Printing.{call-text}
use Rattle.lines.proofs.lines.CallLineDisplay.fmt.Goals as goal

pub returns-clause-writes : goal.returns-clause-writes
returns-clause-writes g c plain ok =
    let value : SFits w32 c.args.self.now.value = search rules in
    has_written_of_eq _ _ _ _ _
    (simp (append_assoc, to_z-of_z value, c.state-state.ensures) (call-text c.args.self.now value (search rules) (search rules) (search rules) (search rules) (search rules)))
    (c.writeln.ensures.writes plain ok)
