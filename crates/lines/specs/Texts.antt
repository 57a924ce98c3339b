-- The bytes that each line of the code prints: those of the rules' words that it holds.
use Rattle.std.specs.Prelude.{List, ℕ}
use Rattle.rules.specs.Stages.{Refusal, refusal}
use Rattle.rules.specs.Memory.{Output}
use Rattle.rules.specs.Calls.{Answer, Sent}
use Rattle.lines.specs.Lines.{call_line, out_line, refusal_line}
use Rattle.lines.specs.declared.lines.CallLine.{CallLine}
use Rattle.lines.specs.declared.lines.OutLine.{OutLine}
use Rattle.lines.specs.declared.lines.RefusalLine.{RefusalLine}

abbrev pub sent_of : CallLine → Sent
sent_of l = record { event = l.event; value = l.value }

abbrev pub answer_of : CallLine → Answer
answer_of l = record { finished = l.finished; steps = l.steps; emitted = l.emitted; highest = l.highest; outputs = l.outputs }

abbrev pub output_of : OutLine → Output
output_of l = record { name = l.0.name; value = l.0.value }

abbrev pub refusal_of : RefusalLine → Refusal
refusal_of l = refusal l.number l.place

abbrev pub text_of_call : CallLine → List ℕ
text_of_call l = call_line (sent_of l) (answer_of l)

abbrev pub text_of_output : OutLine → List ℕ
text_of_output l = out_line (output_of l)

abbrev pub text_of_refusal : RefusalLine → List ℕ
text_of_refusal l = refusal_line (refusal_of l)
