-- Seven words, one behind the other, from the buffer's first byte on.
use Rattle.std.proofs.Common.{rules, arith, to_z-of_z}
use Rattle.lines.specs.Lines.{call_line}
use Rattle.lines.specs.Writes.{Puts, sent_of, answer_of}
use Rattle.lines.proofs.Texts.{◌then◌}
use Rattle.lines.proofs.buffer.call_line.Goals as goal
use Rattle.lines.proofs.buffer.call_line.Goals.{After-state}

written : (c : After-state) → Puts (call_line (sent_of c.args.event c.args.value) (answer_of c.args.steps c.args.emitted c.args.highest c.args.outputs c.args.finished)) c.args.buffer.now 0 c.state.new.self.buffer.now c.state.new.self.length
unfolding call_line
written c =
    rw (c.of-front.ensures.as_it_was, c.of-front.ensures.nothing, c.from.ensures, to_z-of_z c.ranges.value, c.from-2.ensures) at
    (c.number.ensures.puts.is
    then c.value.ensures.puts.is
    then c.number-2.ensures.puts.is
    then c.number-3.ensures.puts.is
    then c.number-4.ensures.puts.is
    then c.number-5.ensures.puts.is
    then c.state.ensures.puts.is)

pub returns : goal.returns
returns c =
    let w = written (goal.at.returns c).After-state in
    record { is = record { bytes = search (rules, w.bytes); end = w.end }; within = omega arith }
