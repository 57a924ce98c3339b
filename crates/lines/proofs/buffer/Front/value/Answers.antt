-- The number, and a byte behind it.
use Rattle.std.proofs.Common.{[], ◌∷◌, ap, arith, length-append, to_z-of_z}
use Rattle.lines.specs.Lines.{signed_decimal}
use Rattle.lines.proofs.Texts.{◌then◌, puts-is}
use Rattle.lines.proofs.Digits.{few-signed}
use Rattle.lines.proofs.buffer.Front.value.Goals as goal

pub signed-requires : goal.signed-requires
signed-requires c = rw (to_z-of_z c.ranges.value) (omega (arith, few-signed c.args.value c.ranges.value))

pub byte-requires : goal.byte-requires
byte-requires c = omega (arith, rw (to_z-of_z c.ranges.value) at c.signed.ensures.puts.end, few-signed c.args.value c.ranges.value)

pub returns-clause-puts : goal.returns-clause-puts
returns-clause-puts c =
    let both = puts-is (ap signed_decimal (to_z-of_z c.ranges.value)) c.signed.ensures.puts then c.byte.ensures.puts in
    record { is = both; within = omega (arith, both.end, length-append (signed_decimal c.args.value) (c.args.after ∷ []), few-signed c.args.value c.ranges.value) }
