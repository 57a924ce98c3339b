-- The record goes to its place in the room.
use Rattle.std.proofs.Common.{◌∙◌, to_z-of_z, w32, of_z}
use mir.Facts.{Fits-of_z}
use Rattle.memory.proofs.Written.{puts, le_bytes}
use Rattle.memory.proofs.effects.put_output.Goals as goal

pub returns-then-n-room : goal.returns-then-n-room
returns-then-n-room c =
    let bits = le_bytes (of_z w32 c.args.value) (Fits-of_z c.ranges.value).fits in
    puts c.args.out.now _ c.args.n c.args.name c.args.value c.if-n-room.true
    (c.copy_from_slice.ensures.after ∙ rw (c.to_le_bytes.ensures, c.bits_of.ensures, to_z-of_z c.ranges.value, bits))
