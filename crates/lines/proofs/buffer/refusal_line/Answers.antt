-- Three words, one behind the other, from the buffer's first byte on.
use Rattle.std.proofs.Common.{rules, arith}
use Rattle.rules.specs.Stages.{refusal}
use Rattle.lines.specs.Lines.{refusal_line}
use Rattle.lines.specs.Writes.{Puts}
use Rattle.lines.proofs.Texts.{◌then◌}
use Rattle.lines.proofs.buffer.refusal_line.Goals as goal
use Rattle.lines.proofs.buffer.refusal_line.Goals.{After-number-2}

written : (c : After-number-2) → Puts (refusal_line (refusal c.args.number c.args.place)) c.args.buffer.now 0 c.number-2.new.self.buffer.now c.number-2.new.self.length
unfolding refusal_line
written c =
    rw (c.of-front.ensures.as_it_was, c.of-front.ensures.nothing, c.from.ensures, c.from-2.ensures) at
    (c.text.ensures.puts then c.number.ensures.puts.is then c.number-2.ensures.puts.is)

pub returns : goal.returns
returns c =
    let w = written (goal.at.returns c).After-number-2 in
    record { is = record { bytes = search (rules, w.bytes); end = w.end }; within = omega arith }
