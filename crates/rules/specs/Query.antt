-- A query: the input events that now wake some place.
use Rattle.std.specs.Prelude.{Bool, false, not, ◌||◌, List, [], ◌++◌, ℕ, length, get_or}
use Rattle.std.proofs.Math.Option.{Option, none, some}
use Rattle.rules.specs.Stages.{option, failing, Refusal, first_refusal}
use Rattle.rules.specs.Limits.{most_name}
use Rattle.rules.specs.Tree.{Tree, nop, act, await, emit, break, ifvar, seq, loop, every, par, fin, canrun, at_loop, at_par, Source}
use Rattle.rules.specs.Table.{program_of}
use Rattle.rules.specs.Check.{table_stages}
use Rattle.rules.specs.Marks.{marks_stages, at_rest}
use Rattle.rules.specs.Step.{input_event, wakes}

-- some await or every on the spine that the test names
unfoldable pub stirs : (ℕ → Source → ℕ → Bool) → Tree → Bool
stirs w (nop i) = false
stirs w (act i a v k) = false
stirs w (await i s e) = w i s e
stirs w (emit i e y) = false
stirs w (break i) = false
stirs w (ifvar i v p q) = false
stirs w (seq i p q) = stirs w p
stirs w (loop i p) = false
stirs w (every i s e p) = w i s e
stirs w (par i o p q) = false
stirs w (fin i p) = false
stirs w (canrun i m) = false
stirs w (at_loop i p q) = stirs w p
stirs w (at_par i o p q) = stirs w p || stirs w q

-- the input events that wake some place, rising
unfoldable pub awaited : Tree → List ℕ
unfolding failing stirs
awaited t = failing (λ e. not (stirs (wakes (input_event e)) t)) 1 most_name

-- their number, and the lowest of them, 0 where none
pub record Asked : Type 0 where
  pub refused : Option Refusal
  pub number : ℕ
  pub lowest : ℕ

abbrev pub asked : Option Refusal → List ℕ → Asked
asked r es = record { refused = r; number = length es; lowest = get_or es 0 0 }

unfoldable pub query_call : List ℕ → List ℕ → Asked
unfolding table_stages marks_stages first_refusal awaited at_rest program_of
query_call b m = option (asked none (awaited (at_rest m (program_of b)))) (λ r. asked (some r) []) (first_refusal (table_stages b ++ marks_stages b m))
