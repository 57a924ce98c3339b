-- Three words, one behind the other, from the buffer's first byte on.
use Rattle.std.proofs.Common.{rules, arith, to_z-of_z}
use Rattle.lines.specs.Lines.{out_line}
use Rattle.lines.specs.Writes.{Puts, output_of}
use Rattle.lines.proofs.Texts.{◌then◌}
use Rattle.lines.proofs.buffer.out_line.Goals as goal
use Rattle.lines.proofs.buffer.out_line.Goals.{After-value}

written : (c : After-value) → Puts (out_line (output_of c.args.name c.args.value)) c.args.buffer.now 0 c.value.new.self.buffer.now c.value.new.self.length
unfolding out_line
written c =
    rw (c.of-front.ensures.as_it_was, c.of-front.ensures.nothing, c.from.ensures, to_z-of_z c.ranges.value) at
    (c.text.ensures.puts then c.number.ensures.puts.is then c.value.ensures.puts.is)

pub returns : goal.returns
returns c =
    let w = written (goal.at.returns c).After-value in
    record { is = record { bytes = search (rules, w.bytes); end = w.end }; within = omega arith }
