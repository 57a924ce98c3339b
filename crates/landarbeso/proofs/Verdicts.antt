-- A query and the remaining program from the verdict of their stages.
-- Assumes nothing.
use Rattle.std.specs.Prelude.{Ok, Err}
use mathlib.Core.Path.{◌≡◌, refl, sym, ap, ◌∙◌}
use mathlib.Core.Bool.{true, false}
use mathlib.Core.List.{List, [], ◌∷◌, ◌++◌, append_assoc}
use mathlib.Core.Option.{Option, none, some}
use Prim.Native.Nat.{ℕ, ◌≤◌, ◌<◌, ◌/◌}
use native.Mathlib.Omega.{arith}
use lib.Dec.{leb}
use lib.ListN.{length, get_or}
use borrow.Author.Tests.{lt-leb, le-leb}
use Rattle.rules.specs.Stages.{option, Refusal, Stage, first_refusal, refusal}
use Rattle.rules.specs.Limits.{record_bytes}
use Rattle.rules.specs.Tree.{Tree, span_of}
use Rattle.rules.specs.Table.{program_of}
use Rattle.rules.specs.Check.{Verdict, refused, accepted, verdict, announced, table_stages}
use Rattle.rules.specs.Marks.{marks_stages, at_rest}
use Rattle.rules.specs.Calls.{room_stage, onto}
use Rattle.rules.specs.Query.{asked, awaited, query_call}
use Rattle.rules.specs.Remaining.{Remaining, records_for, remaining_call}
use Rattle.theory.specs.Stages.{first-append}
use Rattle.theory.proofs.Accepted.{accepted-check}
use Rattle.table.proofs.Passed.{passed, passed-place}
use Rattle.table.specs.Refusing.{refusal_of}
use Rattle.table.specs.declared.refusal.Refusal as Code
use Rattle.acceptance.specs.Verdicts.{verdict_of}
use Rattle.acceptance.specs.declared.Announced.{Announced}
use Rattle.marks.specs.Fitting.{Sound}
use Rattle.landarbeso.specs.declared.numbers.Queried.{Queried}
use Rattle.calls.specs.Stages.{judged}
use Rattle.calls.proofs.Judging.{all-passed, stays-refused, goes_on_lem, accepts-all, fails-test, passes-test}
use Rattle.landarbeso.specs.Numbers.{flat_asked, flat_written, queried_of, written_of, Remains}

-- ---- a table that its stages let pass

passes-sound : (b : List ℕ) → first_refusal (table_stages b) ≡ none → Sound b
passes-sound b e = let p = passed b (announced b) (accepted-check b e) in record { root = passed-place b p; named = p.ranges; few = p.size.most }

-- ---- what follows on a verdict

abbrev on : {B : Type 0} → B → (Refusal → B) → Verdict → B
on x f (accepted a) = x
on x f (refused r) = f r

option-on : {B : Type 0} (x : B) (f : Refusal → B) (b : List ℕ) (ss : List Stage) {v : Verdict} → judged b ss ≡ v → option x f (first_refusal ss) ≡ on x f v
unfolding judged
option-on x f b ss e = go (first_refusal ss) ∙ ap (on x f) e
  where
    go : (o : Option Refusal) → option x f o ≡ on x f (verdict o (announced b))
    go none = refl
    go (some r) = refl

module _ (b m : List ℕ) where
  abbrev first : List Stage
  first = table_stages b ++ marks_stages b m

  abbrev rest : Tree
  rest = at_rest m (program_of b)

  query-on : {v : Verdict} → v ≡ judged b first → query_call b m ≡ on (asked none (awaited rest)) (λ r. asked (some r) []) v
  unfolding query_call
  query-on e = option-on (asked none (awaited rest)) (λ r. asked (some r) []) b first (sym e)

  pub query-refused : (r : Code.Refusal) → verdict_of (Err r) ≡ judged b first → flat_asked (Err r) ≡ queried_of (query_call b m)
  query-refused r e = ap queried_of (sym (query-on e))

  module _ {a : Announced} (e : verdict_of (Ok a) ≡ judged b first) where
    pub passed-sound : Sound b
    passed-sound = passes-sound b (first-append (table_stages b) (marks_stages b m) (all-passed b first e refl).0).0

    pub passed-marks : first_refusal (marks_stages b m) ≡ none
    passed-marks = (first-append (table_stages b) (marks_stages b m) (all-passed b first e refl).0).1

    pub query-asked : (n l : ℕ) → n ≡ length (awaited rest) → l ≡ get_or (awaited rest) 0 0 → ◌≡◌ {A = Queried} (record { refused = 0; place = 0; number = n; lowest = l }) (queried_of (query_call b m))
    query-asked n l p q = (λ i. record { refused = 0; place = 0; number = p i; lowest = q i }) ∙ ap queried_of (sym (query-on e))

-- ---- the remaining program, in a buffer

module _ (b m buf : List ℕ) where
  abbrev room : List Stage
  room = room_stage (span_of (rest b m)) buf ∷ []

  abbrev whole : Remaining
  whole = record { refused = none; records = span_of (rest b m); buffer = onto (records_for (rest b m)) buf }

  abbrev nothing : Refusal → Remaining
  nothing r = record { refused = some r; records = 0; buffer = buf }

  remaining-on : {v : Verdict} → judged b (first b m ++ room) ≡ v → remaining_call b m buf ≡ on whole nothing v
  unfolding remaining_call
  remaining-on d = option-on whole nothing b (table_stages b ++ (marks_stages b m ++ room)) (ap (judged b) (sym (append_assoc (table_stages b) (marks_stages b m) room)) ∙ d)

  pub remains-refused : (r : Code.Refusal) → verdict_of (Err r) ≡ judged b (first b m) → Remains (remaining_call b m buf) (flat_written (Err r)) buf
  remains-refused r e =
      let q = sym (remaining-on (sym (stays-refused b (first b m) e room refl))) in
      record { answer = ap written_of q; buffer-is = ap (λ (a : Remaining). a.buffer) q }

  module _ {a : Announced} (e : verdict_of (Ok a) ≡ judged b (first b m)) {n : ℕ} (p : n ≡ span_of (rest b m)) where
    pub remains-short : length buf / record_bytes < n → (r : Code.Refusal) → refusal_of r ≡ refusal 11 0 → Remains (remaining_call b m buf) (flat_written (Err r)) buf
    remains-short l r h =
        let short : false ≡ leb (span_of (rest b m)) (length buf / record_bytes) = sym (lt-leb (span_of (rest b m)) (length buf / record_bytes) (omega arith)) in
        let q = sym (remaining-on (goes_on_lem b (first b m) e refl room ∙ fails-test b 11 [] short refl)) in
        record { answer = ap (λ (x : Refusal). written_of (nothing x)) h ∙ ap written_of q; buffer-is = ap (λ (x : Remaining). x.buffer) q }

    pub remains-whole : n ≤ length buf / record_bytes → {k : ℕ} {o : List ℕ} → k ≡ span_of (rest b m) → o ≡ onto (records_for (rest b m)) buf → Remains (remaining_call b m buf) (flat_written (Ok k)) o
    remains-whole l k-is o-is =
        let fits : true ≡ leb (span_of (rest b m)) (length buf / record_bytes) = sym (le-leb (span_of (rest b m)) (length buf / record_bytes) (omega arith)) in
        let q = sym (remaining-on (goes_on_lem b (first b m) e refl room ∙ (passes-test b 11 [] fits refl ∙ sym (accepts-all b (first b m) e refl)))) in
        record { answer = (λ i. record { refused = 0; place = 0; records = k-is i }) ∙ ap written_of q; buffer-is = o-is ∙ ap (λ (x : Remaining). x.buffer) q }

-- ---- what the search applies

pub ruleset verdicts = (query-refused, query-asked, passed-marks)
