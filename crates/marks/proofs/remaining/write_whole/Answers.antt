-- There is room for all records.
use Rattle.std.proofs.Common.{◌*◌, length, ap, ◌∙◌, arith}
use Rattle.std.proofs.lemmas.List.Edits.{sets}
use Rattle.marks.proofs.Copies.{whole-length}
use Rattle.marks.proofs.remaining.write_whole.Goals as goal

pub write_records-requires : goal.write_records-requires
write_records-requires c = omega (arith, c.requires.room, ap length c.records_at.ensures, whole-length c.args.part.table.now c.args.part.place c.args.part.stands.place)

pub returns : goal.returns
returns c = c.write_records.ensures ∙ ap (sets c.args.out.now (8 * c.args.at)) c.records_at.ensures
