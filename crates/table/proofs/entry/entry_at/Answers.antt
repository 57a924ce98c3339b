use Rattle.std.proofs.Common.{◌∙◌, arith}
use Rattle.table.proofs.Entries.{entry-of-piece}
use Rattle.table.proofs.entry.entry_at.Goals as goal

pub returns-in-Some : goal.returns-in-Some
returns-in-Some c =
    c.from.ensures ∙ entry-of-piece c.args.bytes.now c.as_chunks.ensures.front (omega (arith, c.as_chunks.ensures.front_len, c.in-Some.ensures.lookup.3.0)) c.in-Some.ensures.lookup.1
