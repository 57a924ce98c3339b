-- The last digit is put behind those of a tenth.
use Rattle.std.proofs.Common.{[], ◌∷◌, ◌++◌, ◌/◌, sym, ap, ◌∙◌, arith}
use Rattle.lines.specs.Lines.{decimal}
use Rattle.lines.proofs.Texts.{◌then◌, puts-is}
use Rattle.lines.proofs.Digits.{one-digit, more-digits, one-length, more-length}
use Rattle.lines.proofs.buffer.Front.+decimal.Goals as goal

pub byte-requires : goal.byte-requires
byte-requires t c = omega (arith, one-length c.args.n c.if-n-lt10.true)

pub returns-then-n-lt10-clause-puts : goal.returns-then-n-lt10-clause-puts
returns-then-n-lt10-clause-puts t c = puts-is (ap (λ d. d ∷ []) c.digit.ensures ∙ sym (one-digit c.args.n c.if-n-lt10.true)) c.byte.ensures.puts

pub decimal-requires : goal.decimal-requires
decimal-requires t c = (omega arith, omega (arith, more-length c.args.n c.if-n-lt10.false))

pub byte-requires-else-n-lt10 : goal.byte-requires-else-n-lt10
byte-requires-else-n-lt10 t c = omega (arith, more-length c.args.n c.if-n-lt10.false)

pub returns-else-n-lt10-clause-puts : goal.returns-else-n-lt10-clause-puts
returns-else-n-lt10-clause-puts t c =
    puts-is (ap (λ d. decimal (c.args.n / 10) ++ (d ∷ [])) c.digit-else-n-lt10.ensures ∙ sym (more-digits c.args.n c.if-n-lt10.false))
    (c.decimal.ensures.puts then c.byte-else-n-lt10.ensures.puts)
