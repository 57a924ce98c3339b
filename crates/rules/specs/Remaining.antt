-- The remaining program, written as records.
use Rattle.std.specs.Prelude.{List, [], ◌∷◌, ◌++◌, ℕ, ◌/◌, ◌%◌}
use Rattle.std.proofs.Math.Option.{Option, none, some}
use Rattle.rules.specs.Stages.{option, Refusal, first_refusal}
use Rattle.rules.specs.Number.{bytes32}
use Rattle.rules.specs.Tree.{Tree, nop, act, await, emit, break, ifvar, seq, loop, every, par, fin, canrun, at_loop, at_par, head_of, span_of}
use Rattle.rules.specs.Table.{program_of}
use Rattle.rules.specs.Check.{table_stages}
use Rattle.rules.specs.Marks.{marks_stages, at_rest}
use Rattle.rules.specs.Calls.{room_stage, onto}

-- a node's record: kind, name, span, number
unfoldable pub record_of : Tree → List ℕ
unfolding head_of span_of
record_of t = (head_of t).kind ∷ (head_of t).name ∷ span_of t % 256 ∷ span_of t / 256 ∷ bytes32 (head_of t).number

-- in preorder
unfoldable pub records_for : Tree → List ℕ
unfolding record_of
records_for (nop i) = record_of (nop i)
records_for (act i a v k) = record_of (act i a v k)
records_for (await i s e) = record_of (await i s e)
records_for (emit i e y) = record_of (emit i e y)
records_for (break i) = record_of (break i)
records_for (ifvar i v p q) = record_of (ifvar i v p q) ++ (records_for p ++ records_for q)
records_for (seq i p q) = record_of (seq i p q) ++ (records_for p ++ records_for q)
records_for (loop i p) = record_of (loop i p) ++ records_for p
records_for (every i s e p) = record_of (every i s e p) ++ records_for p
records_for (par i o p q) = record_of (par i o p q) ++ (records_for p ++ records_for q)
records_for (fin i p) = record_of (fin i p) ++ records_for p
records_for (canrun i m) = record_of (canrun i m)
records_for (at_loop i p q) = record_of (at_loop i p q) ++ (records_for p ++ records_for q)
records_for (at_par i o p q) = record_of (at_par i o p q) ++ (records_for p ++ records_for q)

-- the answer counts the records; bytes behind them stay
pub record Remaining : Type 0 where
  pub refused : Option Refusal
  pub records : ℕ
  pub buffer : List ℕ

unfoldable pub remaining_call : List ℕ → List ℕ → List ℕ → Remaining
unfolding table_stages marks_stages first_refusal span_of records_for at_rest program_of
remaining_call b m buf =
    let t : Tree = at_rest m (program_of b) in
    option (record { refused = none; records = span_of t; buffer = onto (records_for t) buf }) (λ r. record { refused = some r; records = 0; buffer = buf })
    (first_refusal (table_stages b ++ (marks_stages b m ++ (room_stage (span_of t) buf ∷ []))))
