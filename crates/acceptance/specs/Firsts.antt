-- The lowest place that fails a test, as a function that is lent answers it.
use Rattle.std.specs.Prelude.{◌≡◌, Bool, List, ℕ, Option}
use Rattle.rules.specs.Stages.{failing}
use Rattle.rules.specs.Table.{records_of}
use Rattle.rules.specs.Check as Rules
use Rattle.rules.specs.Check.{hits}
use Rattle.table.specs.Found.{first_of}
use Rattle.acceptance.specs.Visits.{visit_of}
use Rattle.acceptance.specs.declared.records.Record.{Record}
use Rattle.acceptance.specs.declared.visit.Visit.{Visit}

-- ---- of the records of a table

-- what answers a call is the test ok at each place of table b
abbrev pub TestsRecords : (Record → Bool → Type 0) → List ℕ → (ℕ → Bool) → Type 0
TestsRecords answers b ok = (r : Record) (x : Bool) → r.table.now ≡ b → answers r x → x ≡ ok r.place

-- for every test that it is: the lowest place that fails it
abbrev pub FindsRecord : (Record → Bool → Type 0) → List ℕ → Option ℕ → Type 0
FindsRecord answers b found = (ok : ℕ → Bool) → TestsRecords answers b ok → found ≡ first_of (failing ok 0 (records_of b))

-- ---- of a walk

-- what answers a call is the test f of its visit
abbrev pub Tests : (Visit → Bool → Type 0) → (Rules.Visit → Bool) → Type 0
Tests answers f = (v : Visit) (x : Bool) → answers v x → x ≡ f (visit_of v)

-- for every test that it is: the first place of the visits that the test hits
abbrev pub Finds : (Visit → Bool → Type 0) → List Rules.Visit → Option ℕ → Type 0
Finds answers vs found = (f : Rules.Visit → Bool) → Tests answers f → found ≡ first_of (hits f vs)
