-- A negative number is its sign and its magnitude.
use Rattle.std.proofs.Common.{◌≡◌, ◌++◌, length, ap, ◌∙◌, arith, to_z-of_z}
use Rattle.std.specs.Int.RustNames.{unsigned_abs}
use Rattle.lines.specs.Lines.{ascii, decimal, signed_decimal}
use Rattle.lines.proofs.Texts.{◌then◌, puts-is}
use Rattle.lines.proofs.Digits.{plain-magnitude, minus-magnitude}
use Rattle.lines.proofs.buffer.Front.signed.Goals as goal
use Rattle.lines.proofs.buffer.Front.signed.Goals.{Then-z-lt0, Else-z-lt0}

has-minus : (c : Then-z-lt0) → ascii "-" ++ decimal c.from-magnitude.result ≡ signed_decimal c.args.z
has-minus c =
    let size : c.from-magnitude.result ≡ unsigned_abs c.args.z = c.from-magnitude.ensures ∙ rw (to_z-of_z c.ranges.z) at c.unsigned_abs.ensures.value in
    ap (λ m. ascii "-" ++ decimal m) size ∙ minus-magnitude c.args.z (rw (to_z-of_z c.ranges.z) at c.if-z-lt0.true)

is_plain : (c : Else-z-lt0) → decimal c.from-magnitude.result ≡ signed_decimal c.args.z
is_plain c =
    let size : c.from-magnitude.result ≡ unsigned_abs c.args.z = c.from-magnitude.ensures ∙ rw (to_z-of_z c.ranges.z) at c.unsigned_abs.ensures.value in
    ap decimal size ∙ plain-magnitude c.args.z (rw (to_z-of_z c.ranges.z) at c.if-z-lt0.false)

pub byte-requires : goal.byte-requires
byte-requires c = omega (arith, ap length (has-minus (goal.at.byte-requires c).Then-z-lt0))

pub decimal-requires : goal.decimal-requires
decimal-requires c = omega (arith, ap length (has-minus (goal.at.decimal-requires c).Then-z-lt0))

pub returns-then-z-lt0-clause-puts : goal.returns-then-z-lt0-clause-puts
returns-then-z-lt0-clause-puts c = puts-is (has-minus (goal.at.returns-then-z-lt0-clause-puts c).Then-z-lt0) (c.byte.ensures.puts then c.decimal.ensures.puts)

pub decimal-requires-else-z-lt0 : goal.decimal-requires-else-z-lt0
decimal-requires-else-z-lt0 c = omega (arith, ap length (is_plain (goal.at.decimal-requires-else-z-lt0 c).Else-z-lt0))

pub returns-else-z-lt0-clause-puts : goal.returns-else-z-lt0-clause-puts
returns-else-z-lt0-clause-puts c = puts-is (is_plain (goal.at.returns-else-z-lt0-clause-puts c).Else-z-lt0) c.decimal-else-z-lt0.ensures.puts
