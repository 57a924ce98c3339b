-- The text is copied.
use Rattle.std.proofs.Common.{◌∙◌, sym, refl, arith}
use Rattle.std.proofs.lemmas.Slice.{put_mid-paste}
use lib.Seq.{sets-eq, take-length}
use Rattle.lines.proofs.buffer.Front.text.Goals as goal

pub returns-clause-puts : goal.returns-clause-puts
returns-clause-puts c =
    let text = c.args.text.now in
    let before = c.args.self.now.buffer.now in
    let at = c.args.self.now.length in
    record {
      bytes = put_mid-paste at _ before _ text _ c.copy_from_slice.ensures.after (omega arith) refl ∙ rw (take-length text) (sym (sets-eq text before at (omega (arith, c.requires))));
      end = refl;
    }
