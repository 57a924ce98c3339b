-- The limits and the announced numbers. All else cites them by these names; src/limits.rt has the same for code.
use Rattle.std.specs.Prelude.{ℕ, ◌+◌, ◌-◌, ◌*◌, ◌^◌}

-- of a record of the table, an event of a list, an output
abbrev pub record_bytes : ℕ
record_bytes = 8

abbrev pub most_records : ℕ
most_records = 256

abbrev pub most_table_bytes : ℕ
most_table_bytes = most_records * record_bytes

abbrev pub most_loops : ℕ
most_loops = 8

abbrev pub variables : ℕ
variables = 64

-- of a variable, an event or an output
abbrev pub most_name : ℕ
most_name = 63

abbrev pub most_list_bytes : ℕ
most_list_bytes = 65536

-- the place of a list that is too long
abbrev pub list_too_long : ℕ
list_too_long = 8192

-- the outputs for which the runner has room
abbrev pub runner_outputs : ℕ
runner_outputs = 8192

-- where the running totals stop
abbrev pub top_total : ℕ
top_total = 2 ^ 64 - 1

-- ---- the announced numbers of N records, E emits, D deepest loop nesting, P outputs outside and Q inside an every

-- X, the internal events
abbrev pub most_emitted : ℕ → ℕ → ℕ
most_emitted E D = E * (D + 1)

abbrev pub most_level : ℕ → ℕ
most_level X = 1 + X

abbrev pub most_steps : ℕ → ℕ → ℕ → ℕ
most_steps N D X = 5 * N * (D + 1) + (1 + X) * (N + 2)

abbrev pub most_outputs : ℕ → ℕ → ℕ → ℕ → ℕ
most_outputs P Q D X = P * (D + 1) + Q * (1 + X)

pub record Announced : Type 0 where
  pub emitted : ℕ
  pub highest : ℕ
  pub steps : ℕ
  pub outputs : ℕ

abbrev pub announce : ℕ → ℕ → ℕ → ℕ → ℕ → Announced
announce N E D P Q =
    let X : ℕ = most_emitted E D in
    record { emitted = X; highest = most_level X; steps = most_steps N D X; outputs = most_outputs P Q D X }
