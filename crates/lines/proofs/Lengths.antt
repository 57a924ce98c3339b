-- No line is longer than 128 bytes.
-- Assumes nothing.
use Rattle.std.proofs.Common.{ℕ, ◌^◌, ◌<◌, ◌≤◌, w32, Bool, true, false, length, arith, length-append}
use mir.Val.{SFits}
use Rattle.lines.specs.Lines.{decimal, state, call_line, out_line, refusal_line}
pub use Rattle.lines.specs.Writes.{most_line}
use Rattle.lines.specs.Texts.{text_of_call, text_of_output, text_of_refusal}
use Rattle.lines.specs.declared.lines.CallLine.{CallLine}
use Rattle.lines.specs.declared.lines.OutLine.{OutLine}
use Rattle.lines.specs.declared.lines.RefusalLine.{RefusalLine}
use Rattle.lines.proofs.Digits.{few-digits, few-signed}

-- twenty digits
twenty-digits : (n : ℕ) → n < 2 ^ 64 → length (decimal n) ≤ 20
twenty-digits n h = few-digits 19 n (omega arith)

pub short-state : (b : Bool) → length (state b) ≤ 8
short-state true = omega arith
short-state false = omega arith

pub call-within : (l : CallLine) → SFits w32 l.value → l.event < 2 ^ 64 → l.steps < 2 ^ 64 → l.emitted < 2 ^ 64 → l.highest < 2 ^ 64 → l.outputs < 2 ^ 64
    → length (text_of_call l) ≤ most_line
unfolding call_line
call-within l value event steps emitted highest outputs = simp length-append (omega (
  arith,
  few-signed l.value value,
  twenty-digits l.event event,
  twenty-digits l.steps steps,
  twenty-digits l.emitted emitted,
  twenty-digits l.highest highest,
  twenty-digits l.outputs outputs,
  short-state l.finished,
))

pub output-within : (l : OutLine) → SFits w32 l.0.value → l.0.name < 2 ^ 64 → length (text_of_output l) ≤ most_line
unfolding out_line
output-within l value name = simp length-append (omega (arith, few-signed l.0.value value, twenty-digits l.0.name name))

pub refusal-within : (l : RefusalLine) → l.number < 2 ^ 64 → l.place < 2 ^ 64 → length (text_of_refusal l) ≤ most_line
unfolding refusal_line
refusal-within l number place = simp length-append (omega (arith, twenty-digits l.number number, twenty-digits l.place place))
