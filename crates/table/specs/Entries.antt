-- The events of a list and the outputs of a call, as the code reads them.
use Rattle.std.specs.Prelude.{List, ℕ, ◌/◌, ltb, pos, length, if◌then◌else◌}
use Rattle.rules.specs.Limits.{record_bytes}
use Rattle.rules.specs.Table.{byte_at, number_at}
use Rattle.table.specs.declared.entry.Entry.{Entry}

-- 8 bytes: name, three zeros, value
abbrev pub entry_of : List ℕ → ℕ → Entry
entry_of l i = record { name = byte_at l i 0; value = number_at l i }

-- zeros where there are fewer than i + 1
abbrev pub entry_at : List ℕ → ℕ → Entry
entry_at l i = if ltb i (length l / record_bytes) then entry_of l i else record { name = 0; value = pos 0 }
