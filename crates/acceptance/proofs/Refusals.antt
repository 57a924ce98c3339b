-- The verdict from the lowest failing places of the stages, and what a table that passes them has.
-- Assumes nothing.
use Rattle.std.specs.Prelude.{if◌then◌else◌, Option, None, Some, Result, Ok, Err, IfOk, IfErr, is_some}
use mathlib.Core.Path.{◌≡◌, refl, sym, subst, ◌∙◌}
use mathlib.Core.Bool.{Bool, true, false, not, ◌&&◌, ◌||◌, and-true}
use mathlib.Core.List.{List, [], ◌∷◌}
use Prim.Native.Nat.{ℕ, zero, suc, ◌+◌, ◌≤◌, ◌<◌, max}
use native.Mathlib.Omega.{arith}
use lib.Dec.{T, eqb, leb}
use borrow.Author.Tests.{leb-false}
use Rattle.rules.specs.Stages.{refusal, first_refusal, failing}
use Rattle.rules.specs.Limits.{most_loops}
use Rattle.rules.specs.Table.{span_at, row_at, records_of, span_fits, shape_right, in_kinds_table}
use Rattle.rules.specs.Check.{Verdict, refused, accepted, check, table_stages, announced, visits_of, Visit, hits, is_kind, loose_break, not_plain, deep_loop, endless_loop, deepest, good_length}
use Rattle.theory.specs.Logic.{clash, and_in, both_left, both_right, or_right, T→true}
use Rattle.theory.specs.Stages.{none-fails, all_pass_lem}
use Rattle.table.proofs.Finding.{found-fails, found_none}
use Rattle.table.proofs.Passed.{Sized, sized}
use Rattle.table.specs.Places.{Shape}
use Rattle.table.specs.Found.{first_of}
use Rattle.table.specs.Refusing.{stage_number, refusal_of}
use Rattle.table.specs.declared.refusal.Stage.{Stage}
use Rattle.table.specs.declared.refusal.Refusal.{Refusal}
use Rattle.acceptance.specs.Records.{record_fits}
use Rattle.acceptance.specs.Counts.{all_pass, tally_of, tallied}
use Rattle.acceptance.specs.declared.counts.Tally.{Tally}
use Rattle.acceptance.specs.Verdicts.{nodes_verdict, passed_at}
use Rattle.acceptance.proofs.Passing.{none-4, none-5, none-6, none-7, hit-by-none}

-- ---- one look at each record, for stages 2 and 3

same-failing : (f g : ℕ → Bool) (i k : ℕ) → ((j : ℕ) → j < i + k → f j ≡ g j) → failing f i k ≡ failing g i k
unfolding failing
same-failing f g i zero h = refl
same-failing f g i (suc k) h = rw (h i (omega arith), same-failing f g (suc i) k (λ j l. h j (omega arith)))

-- the place j of a table that passes stage 2 fits exactly where it passes stage 3
fits-shaped : (b : List ℕ) (j : ℕ) → T (shape_right b (records_of b) j) → record_fits b j ≡ in_kinds_table b j
fits-shaped b j t = rw (T→true (span_fits (row_at b j).children b (records_of b) j) (both_left (span_fits (row_at b j).children b (records_of b) j) (not (eqb j 0) || eqb (span_at b 0) (records_of b)) t)) (and-true (in_kinds_table b j))

stage-3 : (b : List ℕ) → failing (shape_right b (records_of b)) 0 (records_of b) ≡ [] → failing (record_fits b) 0 (records_of b) ≡ failing (in_kinds_table b) 0 (records_of b)
stage-3 b e = same-failing (record_fits b) (in_kinds_table b) 0 (records_of b) (λ j l. fits-shaped b j (none-fails (shape_right b (records_of b)) 0 (records_of b) e j (omega arith) l))

-- y is whether record 0 spans the table
module _ (b : List ℕ) {y : Bool} (e : y ≡ eqb (span_at b 0) (records_of b)) (h : y ≡ true) {z : Option ℕ} (d : z ≡ first_of (failing (record_fits b) 0 (records_of b))) (n : z ≡ None) where
  pub all-shaped : Shape b
  all-shaped j l = and_in (span_fits (row_at b j).children b (records_of b) j) (not (eqb j 0) || eqb (span_at b 0) (records_of b)) (both_right (in_kinds_table b j) (span_fits (row_at b j).children b (records_of b) j) (none-fails (record_fits b) 0 (records_of b) (found_none (failing (record_fits b) 0 (records_of b)) d n) j (omega arith) (omega arith))) (or_right (not (eqb j 0)) (eqb (span_at b 0) (records_of b)) (subst T (sym h ∙ e) tt))

  pub shape-clean : failing (shape_right b (records_of b)) 0 (records_of b) ≡ []
  shape-clean = all_pass_lem (shape_right b (records_of b)) 0 (records_of b) (λ j a l. all-shaped j (omega arith))

  pub passed-both : {x : Bool} → x ≡ good_length b → x ≡ true → check b ≡ nodes_verdict b
  unfolding check table_stages first_refusal nodes_verdict
  passed-both {x} e1 h1 = rw (← e1, h1, shape-clean, ← stage-3 b shape-clean, found_none (failing (record_fits b) 0 (records_of b)) d n)

-- ---- the stages in their order
module _ (b : List ℕ) where
  pub refused-1 : {x : Bool} → x ≡ good_length b → x ≡ false → check b ≡ refused (refusal 1 0)
  unfolding check table_stages first_refusal
  refused-1 {x} e h = rw (← e, h)

  module _ {x : Bool} (e1 : x ≡ good_length b) (h1 : x ≡ true) where
    pub refused-2 : {y : Option ℕ} → y ≡ first_of (failing (shape_right b (records_of b)) 0 (records_of b)) → {p : ℕ} → y ≡ Some p → check b ≡ refused (refusal 2 p)
    unfolding check table_stages first_refusal
    refused-2 e d = rw (← e1, h1, found-fails (failing (shape_right b (records_of b)) 0 (records_of b)) e d)

    module _ {y : Option ℕ} (e2 : y ≡ first_of (failing (shape_right b (records_of b)) 0 (records_of b))) (h2 : y ≡ None) where
      clean : failing (shape_right b (records_of b)) 0 (records_of b) ≡ []
      clean = found_none (failing (shape_right b (records_of b)) 0 (records_of b)) e2 h2

      pub refused-3 : {z : Option ℕ} → z ≡ first_of (failing (record_fits b) 0 (records_of b)) → {p : ℕ} → z ≡ Some p → check b ≡ refused (refusal 3 p)
      unfolding check table_stages first_refusal
      refused-3 e d = rw (← e1, h1, clean, ← stage-3 b clean, found-fails (failing (record_fits b) 0 (records_of b)) e d)

      pub passed-3 : {z : Option ℕ} → z ≡ first_of (failing (record_fits b) 0 (records_of b)) → z ≡ None → check b ≡ nodes_verdict b
      unfolding check table_stages first_refusal nodes_verdict
      passed-3 e d = rw (← e1, h1, clean, ← stage-3 b clean, found_none (failing (record_fits b) 0 (records_of b)) e d)

-- what was found of the nodes that a test hits
abbrev Finds : List ℕ → (Visit → Bool) → Option ℕ → Type 0
Finds b f x = x ≡ first_of (hits f (visits_of b))

module _ (b : List ℕ) {x : Option ℕ} (e4 : Finds b loose_break x) where
  pub refused-4 : {p : ℕ} → x ≡ Some p → nodes_verdict b ≡ refused (refusal 4 p)
  unfolding nodes_verdict first_refusal
  refused-4 d = rw (found-fails (hits loose_break (visits_of b)) e4 d)

  module _ (h4 : x ≡ None) {y : Option ℕ} (e5 : Finds b not_plain y) where
    pub refused-5 : {p : ℕ} → y ≡ Some p → nodes_verdict b ≡ refused (refusal 5 p)
    unfolding nodes_verdict first_refusal
    refused-5 d = rw (found_none (hits loose_break (visits_of b)) e4 h4, found-fails (hits not_plain (visits_of b)) e5 d)

    module _ (h5 : y ≡ None) {z : Option ℕ} (e6 : Finds b deep_loop z) where
      pub refused-6 : {p : ℕ} → z ≡ Some p → nodes_verdict b ≡ refused (refusal 6 p)
      unfolding nodes_verdict first_refusal
      refused-6 d = rw (found_none (hits loose_break (visits_of b)) e4 h4, found_none (hits not_plain (visits_of b)) e5 h5, found-fails (hits deep_loop (visits_of b)) e6 d)

      module _ (h6 : z ≡ None) {w : Option ℕ} (e7 : Finds b endless_loop w) where
        pub refused-7 : {p : ℕ} → w ≡ Some p → nodes_verdict b ≡ refused (refusal 7 p)
        unfolding nodes_verdict first_refusal
        refused-7 d = rw (found_none (hits loose_break (visits_of b)) e4 h4, found_none (hits not_plain (visits_of b)) e5 h5, found_none (hits deep_loop (visits_of b)) e6 h6, found-fails (hits endless_loop (visits_of b)) e7 d)

        -- it does not come to this where there is no tally
        pub never-7 : w ≡ None → {t : Option Tally} → t ≡ tallied (visits_of b) → t ≡ None → ⊥
        unfolding tallied
        never-7 d e h =
            let p : all_pass (visits_of b) ≡ true = hit-by-none (visits_of b) (found_none (hits loose_break (visits_of b)) e4 h4) (found_none (hits not_plain (visits_of b)) e5 h5) (found_none (hits deep_loop (visits_of b)) e6 h6) (found_none (hits endless_loop (visits_of b)) e7 d) in
            let q : ◌≡◌ {A = Option Tally} (Some (tally_of (visits_of b))) None = rw p at (sym e ∙ h) in
            clash (cc)

-- ---- what the stages give

-- stage 1: the size
pub good-size : (b : List ℕ) {x : Bool} → x ≡ good_length b → x ≡ true → Sized b
good-size b {x} e h = sized b (sym e ∙ h)

-- stage 2: the shape
pub shaped : (b : List ℕ) {y : Option ℕ} → y ≡ first_of (failing (shape_right b (records_of b)) 0 (records_of b)) → y ≡ None → Shape b
shaped b e d = λ j l. none-fails (shape_right b (records_of b)) 0 (records_of b) (found_none (failing (shape_right b (records_of b)) 0 (records_of b)) e d) j (omega arith) (omega arith)

-- stage 6: at most eight loops
shallow : (vs : List Visit) → hits deep_loop vs ≡ [] → deepest vs ≤ most_loops
unfolding hits deepest
shallow [] e = omega arith
shallow (v ∷ vs) e = go (shallow vs) (is_kind 14 v) (leb most_loops v.around.loops) refl e
  where
    go : (hits deep_loop vs ≡ [] → deepest vs ≤ most_loops) → (u w : Bool) → leb most_loops v.around.loops ≡ w → (if u && w then v.place ∷ hits deep_loop vs else hits deep_loop vs) ≡ [] → max (if u then suc v.around.loops else 0) (deepest vs) ≤ most_loops
    go f true true q e = clash (cc)
    go f true false q e = omega (arith, leb-false most_loops v.around.loops q, f e)
    go f false w q e = omega (arith, f e)

pub few-loops : (b : List ℕ) {z : Option ℕ} → Finds b deep_loop z → z ≡ None → deepest (visits_of b) ≤ most_loops
few-loops b e d = shallow (visits_of b) (found_none (hits deep_loop (visits_of b)) e d)

-- ---- where there is a tally, no stage from 4 to 7 fails, and it is that of the walk
pub record Tallied (b : List ℕ) (t : Tally) : Type 0 where
  pub is : t ≡ tally_of (visits_of b)
  pub passes : T (all_pass (visits_of b))

pub tally-is : (b : List ℕ) {x : Option Tally} → x ≡ tallied (visits_of b) → {t : Tally} → x ≡ Some t → Tallied b t
unfolding tallied
tally-is b e {t} d = go (all_pass (visits_of b)) refl (sym d ∙ e)
  where
    go : (y : Bool) → all_pass (visits_of b) ≡ y → ◌≡◌ {A = Option Tally} (Some t) (if y then Some (tally_of (visits_of b)) else None) → Tallied b t
    go true q h = record { is = cc; passes = subst T (sym q) tt }
    go false q h = clash (cc)

module _ (b : List ℕ) {t : Tally} (h : Tallied b t) where
  pub right-loops : deepest (visits_of b) ≤ most_loops
  right-loops = shallow (visits_of b) (none-6 (visits_of b) h.passes)

  pub right-accepted : nodes_verdict b ≡ accepted (announced b)
  unfolding nodes_verdict first_refusal
  right-accepted = rw (none-4 (visits_of b) h.passes, none-5 (visits_of b) h.passes, none-6 (visits_of b) h.passes, none-7 (visits_of b) h.passes)

-- ---- a stage, by the place that was found; r is what was answered
module _ (s : Stage) {x : Option ℕ} {r : Result (Unit {0}) Refusal} (a : r ≡ passed_at s x) where
  -- v is the verdict wherever the place is
  pub refuses : {v : Verdict} → ((p : ℕ) → x ≡ Some p → v ≡ refused (refusal (stage_number s) p)) → {e : Refusal} → r ≡ Err e → v ≡ refused (refusal_of e)
  refuses {v} f {e} d = go x f (sym d ∙ a)
    where
      go : (y : Option ℕ) → ((p : ℕ) → y ≡ Some p → v ≡ refused (refusal (stage_number s) p)) → ◌≡◌ {A = Result (Unit {0}) Refusal} (Err e) (passed_at s y) → v ≡ refused (refusal_of e)
      go None f d = clash (cc)
      go (Some i) f d = let q : e ≡ record { stage = s; place = i } = cc in f i refl ∙ rw q

  pub none-found : {u : Unit {0}} → r ≡ Ok u → x ≡ None
  none-found {u} d = go x (sym d ∙ a)
    where
      go : (y : Option ℕ) → ◌≡◌ {A = Result (Unit {0}) Refusal} (Ok u) (passed_at s y) → y ≡ None
      go None d = refl
      go (Some i) d = clash (cc)

  pub err-by : {v : Verdict} → ((p : ℕ) → x ≡ Some p → v ≡ refused (refusal (stage_number s) p)) → IfErr r (λ e. v ≡ refused (refusal_of e))
  err-by {v} f = go r refl
    where
      go : (y : Result (Unit {0}) Refusal) → r ≡ y → IfErr y (λ e. v ≡ refused (refusal_of e))
      go (Ok u) q = tt
      go (Err e) q = refuses f q

  pub ok-by : {P : Type 0} → (x ≡ None → P) → IfOk r (λ u. P)
  ok-by {P} f = go r refl
    where
      go : (y : Result (Unit {0}) Refusal) → r ≡ y → IfOk y (λ u. P)
      go (Ok u) q = f (none-found q)
      go (Err e) q = tt

pub is-none : (x : Option ℕ) → is_some x ≡ false → x ≡ None
is-none None e = refl
is-none (Some i) e = clash (cc)
