-- The word, and the end of the line behind it.
use Rattle.std.proofs.Common.{◌≡◌, ℕ, ◌≤◌, Bool, List, length, length-append, ◌∙◌, arith}
use Rattle.lines.specs.Lines.{ascii, state}
use Rattle.lines.proofs.Texts.{◌then◌, puts-is}
use Rattle.lines.proofs.Lengths.{short-state}
use Rattle.lines.proofs.buffer.Front.state.Goals as goal

short-word : (b : Bool) (word : List ℕ) → word ≡ state b → length word ≤ 8
short-word b word e = rw e (short-state b)

pub text-requires : goal.text-requires
text-requires c = omega (arith, short-word _ _ c.state.ensures, c.as_bytes.ensures.len)

pub byte-requires : goal.byte-requires
byte-requires c = omega (arith, short-word _ _ c.state.ensures, c.as_bytes.ensures.len)

pub returns-clause-puts : goal.returns-clause-puts
returns-clause-puts c =
    let both = puts-is (c.as_bytes.ensures.value ∙ c.state.ensures) c.text.ensures.puts then c.byte.ensures.puts in
    record { is = both; within = omega (arith, both.end, length-append (state c.args.finished) (ascii "\n"), short-state c.args.finished) }
