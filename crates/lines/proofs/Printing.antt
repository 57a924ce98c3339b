-- What the library prints of the pieces of a line, one behind the other, is the line by the rules.
-- Assumes nothing.
use Rattle.std.proofs.Common.{◌≡◌, ℕ, ◌^◌, ◌<◌, ℤ, w32, [], ◌∷◌, ◌++◌, append_assoc}
use Rattle.std.specs.Fmt as printed
use mir.Val.{SFits}
use Rattle.rules.specs.Stages.{refusal}
use Rattle.lines.specs.Lines.{ascii, state, call_line, out_line, refusal_line}
use Rattle.lines.specs.Texts.{text_of_call}
use Rattle.lines.specs.declared.lines.CallLine.{CallLine}
use Rattle.lines.proofs.Digits.{printed-decimal, printed-signed}

pub output-text : (o : ℕ) (z : ℤ) → o < 2 ^ 64 → SFits w32 z
    → ascii "out " ++ (printed.decimal o ++ 32 ∷ (printed.signed_decimal z ++ 10 ∷ [])) ≡ out_line (record { name = o; value = z })
unfolding out_line
output-text o z h f = rw (printed-decimal o h, printed-signed z f) (simp append_assoc)

pub refusal-text : (k i : ℕ) → k < 2 ^ 64 → i < 2 ^ 64
    → ascii "refused " ++ (printed.decimal k ++ 32 ∷ (printed.decimal i ++ 10 ∷ [])) ≡ refusal_line (refusal k i)
unfolding refusal_line
refusal-text k i h g = rw (printed-decimal k h, printed-decimal i g) (simp append_assoc)

pub call-text : (l : CallLine) → SFits w32 l.value → l.event < 2 ^ 64 → l.steps < 2 ^ 64 → l.emitted < 2 ^ 64 → l.highest < 2 ^ 64 → l.outputs < 2 ^ 64
    → printed.decimal l.event ++ 32 ∷ (printed.signed_decimal l.value ++ 32 ∷ (printed.decimal l.steps ++ 32 ∷ (printed.decimal l.emitted
    ++ 32 ∷ (printed.decimal l.highest ++ 32 ∷ (printed.decimal l.outputs ++ 32 ∷ (state l.finished ++ 10 ∷ []))))))
    ≡ text_of_call l
unfolding call_line
call-text l value event steps emitted highest outputs =
    rw (printed-decimal l.event event, printed-signed l.value value, printed-decimal l.steps steps, printed-decimal l.emitted emitted, printed-decimal l.highest highest, printed-decimal l.outputs outputs)
    (simp append_assoc)
