-- The digits, and a byte behind them.
use Rattle.std.proofs.Common.{[], ◌∷◌, arith, length-append}
use Rattle.lines.specs.Lines.{decimal}
use Rattle.lines.proofs.Texts.{◌then◌}
use Rattle.lines.proofs.Digits.{few-digits}
use Rattle.lines.proofs.buffer.Front.number.Goals as goal

pub decimal-requires : goal.decimal-requires
decimal-requires c = omega (arith, few-digits 19 c.args.n (omega arith))

pub byte-requires : goal.byte-requires
byte-requires c = omega (arith, few-digits 19 c.args.n (omega arith))

pub returns-clause-puts : goal.returns-clause-puts
returns-clause-puts c =
    let both = c.decimal.ensures.puts then c.byte.ensures.puts in
    record { is = both; within = omega (arith, both.end, length-append (decimal c.args.n) (c.args.after ∷ []), few-digits 19 c.args.n (omega arith)) }
