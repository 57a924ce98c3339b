-- Document 01's numbers and values for each case of an answer: the check, the query, the remaining program.
use Rattle.std.specs.Prelude.{List, ◌≡◌, ℕ, Result, Ok, Err}
use Rattle.rules.specs.Check.{Verdict, refused, accepted}
use Rattle.rules.specs.Query.{Asked}
use Rattle.rules.specs.Remaining.{Remaining}
use Rattle.table.specs.Refusing.{stage_number}
use Rattle.table.specs.declared.refusal.Refusal.{Refusal}
use Rattle.marks.specs.declared.query.Asked as Code
use Rattle.landarbeso.specs.Answers.{refusal_number, refusal_place}
use Rattle.landarbeso.specs.declared.numbers.CheckedNumbers.{CheckedNumbers}
use Rattle.landarbeso.specs.declared.numbers.Queried.{Queried}
use Rattle.landarbeso.specs.declared.numbers.Written.{Written}

-- refused 0 and the announced numbers, or number and place of the refusal with zeros
abbrev pub numbers_of : Verdict → CheckedNumbers
numbers_of (refused r) = record { refused = r.number; place = r.place; emitted = 0; highest = 0; steps = 0; outputs = 0 }
numbers_of (accepted a) = record { refused = 0; place = 0; emitted = a.emitted; highest = a.highest; steps = a.steps; outputs = a.outputs }

abbrev pub queried_of : Asked → Queried
queried_of a = record { refused = refusal_number a.refused; place = refusal_place a.refused; number = a.number; lowest = a.lowest }

abbrev pub written_of : Remaining → Written
written_of a = record { refused = refusal_number a.refused; place = refusal_place a.refused; records = a.records }

-- the whole answer, and the buffer
pub record Remains (a : Remaining) (r : Written) (buffer : List ℕ) : Type 0 where
  pub answer : r ≡ written_of a
  pub buffer-is : buffer ≡ a.buffer

-- ---- what was asked or written, or refused, as C has it

abbrev pub flat_asked : Result Code.Asked Refusal → Queried
flat_asked (Ok a) = record { refused = 0; place = 0; number = a.number; lowest = a.lowest }
flat_asked (Err r) = record { refused = stage_number r.stage; place = r.place; number = 0; lowest = 0 }

abbrev pub flat_written : Result ℕ Refusal → Written
flat_written (Ok n) = record { refused = 0; place = 0; records = n }
flat_written (Err r) = record { refused = stage_number r.stage; place = r.place; records = 0 }
