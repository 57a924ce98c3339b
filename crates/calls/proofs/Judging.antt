-- The verdict of stages one after the other.
-- Assumes nothing.
use Rattle.std.specs.Prelude.{Result, Ok, Err, Some, None}
use Rattle.std.specs.Prelude as code
use mathlib.Core.Path.{◌≡◌, refl, sym, ap, ◌∙◌}
use mathlib.Core.Bool.{Bool, true, false, ◌&&◌}
use mathlib.Core.List.{List, [], ◌∷◌, ◌++◌, append_assoc}
use mathlib.Core.Option.{Option, none, some}
use Prim.Native.Nat.{ℕ, ◌+◌, ◌/◌, ◌<◌}
use native.Mathlib.Nat.{zero-add}
use lib.Dec.{leb, ltb}
use borrow.Author.Tests.{ltb-true}
use Rattle.std.specs.List.{list_all}
use lib.IntN.{ℤ}
use lib.ListN.{length}
use Rattle.rules.specs.Stages.{Refusal, option, Stage, first_refusal, or_else, refusal, stage, unless}
use Rattle.rules.specs.Limits.{record_bytes}
use Rattle.rules.specs.Limits as Rules
use Rattle.rules.specs.Check.{accepted, announced, check, refused, table_stages, verdict}
use Rattle.rules.specs.Marks.{marks_stages}
use Rattle.rules.specs.Calls.{room_stage, vars_stage}
use Rattle.theory.specs.Logic.{clash}
use Rattle.theory.proofs.Accepted.{verdict-refused, verdict-accepted}
use Rattle.acceptance.specs.Counts.{announced_of}
use Rattle.acceptance.specs.Verdicts.{verdict_of}
use Rattle.acceptance.specs.declared.Announced.{Announced}
use Rattle.table.specs.declared.refusal.Refusal as Code
use Rattle.table.specs.Found.{first_of}
use Rattle.table.proofs.Finding.{found-fails, found_none}
use Rattle.marks.specs.Fitting.{refused_at}
use Rattle.calls.specs.Stages.{judged, standing_stages}

-- what the first stages refuse, and what they let pass
first_some : (xs ys : List Stage) {r : Refusal} → first_refusal xs ≡ some r → first_refusal (xs ++ ys) ≡ some r
unfolding first_refusal
first_some [] ys e = clash (cc)
first_some (x ∷ xs) ys {r} e = go (first_some xs ys) x.fails e
  where
    go : (first_refusal xs ≡ some r → first_refusal (xs ++ ys) ≡ some r) → (is : List ℕ) → or_else is x.number (first_refusal xs) ≡ some r → or_else is x.number (first_refusal (xs ++ ys)) ≡ some r
    go f [] h = f h
    go f (i ∷ is) h = h

first-none : (xs ys : List Stage) → first_refusal xs ≡ none → first_refusal (xs ++ ys) ≡ first_refusal ys
unfolding first_refusal
first-none [] ys e = refl
first-none (x ∷ xs) ys e = go (first-none xs ys) x.fails e
  where
    go : (first_refusal xs ≡ none → first_refusal (xs ++ ys) ≡ first_refusal ys) → (is : List ℕ) → or_else is x.number (first_refusal xs) ≡ none → or_else is x.number (first_refusal (xs ++ ys)) ≡ first_refusal ys
    go f [] h = f h
    go f (i ∷ is) h = clash (cc)

both : (x y : Bool) → (x && y) ≡ true → (x ≡ true) × (y ≡ true)
both true y e = (refl, e)
both false y e = clash (cc)

-- it is one of theirs
pub early_refusal : (ss : List Stage) {r : Refusal} → list_all (λ s. ltb s.number 12) ss ≡ true → first_refusal ss ≡ some r → r.number < 12
unfolding first_refusal
early_refusal [] e h = clash (cc)
early_refusal (s ∷ ss) {r} e h = go (early_refusal ss (both (ltb s.number 12) (list_all (λ (x : Stage). ltb x.number 12) ss) e).1) s.fails h
  where
    go : (first_refusal ss ≡ some r → r.number < 12) → (is : List ℕ) → or_else is s.number (first_refusal ss) ≡ some r → r.number < 12
    go f [] k = f k
    go f (i ∷ is) k =
        let n : s.number ≡ r.number = ap (option 0 (λ (x : Refusal). x.number)) k in
        rw (← n) (ltb-true s.number 12 (both (ltb s.number 12) (list_all (λ (x : Stage). ltb x.number 12) ss) e).0)

pub checks : (b : List ℕ) → check b ≡ judged b (table_stages b)
unfolding check judged
checks b = refl

-- ---- after earlier stages, whose verdict the code has

module _ (b : List ℕ) (xs : List Stage) {x : Result Announced Code.Refusal} (e : verdict_of x ≡ judged b xs) where
  pub stays-refused : (ys : List Stage) {r : Code.Refusal} → x ≡ Err r → verdict_of (Err r) ≡ judged b (xs ++ ys)
  unfolding judged
  stays-refused ys {r} h = sym (ap (λ (o : Option Refusal). verdict o (announced b)) (first_some xs ys (verdict-refused (first_refusal xs) (announced b) (sym e ∙ ap verdict_of h))))

  module _ {a : Announced} (h : x ≡ Ok a) where
    pub all-passed : (first_refusal xs ≡ none) × (announced b ≡ announced_of a)
    unfolding judged
    all-passed = verdict-accepted (first_refusal xs) (announced b) (sym e ∙ ap verdict_of h)

    pub goes_on_lem : (ys : List Stage) → judged b (xs ++ ys) ≡ judged b ys
    unfolding judged
    goes_on_lem ys = ap (λ (o : Option Refusal). verdict o (announced b)) (first-none xs ys all-passed.0)

    pub same-steps : a.steps ≡ (announced b).steps
    same-steps = ap (λ (n : Rules.Announced). n.steps) (sym all-passed.1)

    -- the last stage has passed
    pub accepts-all : verdict_of (Ok a) ≡ judged b []
    unfolding judged first_refusal
    accepts-all = ap accepted (sym all-passed.1)

-- ---- one stage before others

module _ (b : List ℕ) (k : ℕ) (ss : List Stage) where
  pub fails-test : {x y : Bool} → x ≡ y → x ≡ false → judged b (stage k (unless y) ∷ ss) ≡ refused (refusal k 0)
  unfolding judged first_refusal
  fails-test e h = rw (← e, h)

  pub passes-test : {x y : Bool} → x ≡ y → x ≡ true → judged b (stage k (unless y) ∷ ss) ≡ judged b ss
  unfolding judged first_refusal
  passes-test e h = rw (← e, h)

  -- as the code refuses what fails a test
  pub test-fails : {r : Refusal} {x y : Bool} → x ≡ y → (x ≡ false) × (r ≡ refusal k 0) → refused r ≡ judged b (stage k (unless y) ∷ ss)
  test-fails e h = ap refused h.1 ∙ sym (fails-test e h.0)

  pub fails-first : (is : List ℕ) {x : code.Option ℕ} {p : ℕ} → x ≡ first_of is → x ≡ Some p → judged b (stage k is ∷ ss) ≡ refused (refusal k p)
  unfolding judged first_refusal
  fails-first is e d = rw (found-fails is e d k (first_refusal ss))

  pub passes-first : (is : List ℕ) {x : code.Option ℕ} → x ≡ first_of is → x ≡ None → judged b (stage k is ∷ ss) ≡ judged b ss
  unfolding judged first_refusal
  passes-first is e d = rw (found_none is e d)

-- ---- stage 8

module _ (b : List ℕ) (xs : List Stage) {x : code.Option ℕ} (e : refused_at x ≡ first_refusal xs) where
  pub fails-marks : {p : ℕ} → x ≡ Some p → judged b xs ≡ refused (refusal 8 p)
  unfolding judged
  fails-marks h = ap (λ (o : Option Refusal). verdict o (announced b)) (sym e ∙ ap refused_at h)

  pub passes-marks : x ≡ None → judged b xs ≡ judged b []
  unfolding judged first_refusal
  passes-marks h = ap (λ (o : Option Refusal). verdict o (announced b)) (sym e ∙ ap refused_at h)

-- ---- the last stage: room for the announced outputs, as the code has them

module _ (b : List ℕ) (xs : List Stage) {x : Result Announced Code.Refusal} (e : verdict_of x ≡ judged b xs) {a : Announced} (h : x ≡ Ok a) (o : List ℕ) {y : Bool} (r : y ≡ leb a.outputs (length o / record_bytes)) where
  same-room : y ≡ leb (announced b).outputs (length o / record_bytes)
  same-room = r ∙ ap (λ (n : Rules.Announced). leb n.outputs (length o / record_bytes)) (sym (all-passed b xs e h).1)

  pub fails-room : y ≡ false → judged b (room_stage (announced b).outputs o ∷ []) ≡ refused (refusal 11 0)
  fails-room = fails-test b 11 [] same-room

  pub passes-room : y ≡ true → judged b (room_stage (announced b).outputs o ∷ []) ≡ judged b []
  passes-room = passes-test b 11 [] same-room

-- the same, behind no outputs made
module _ (b : List ℕ) (xs : List Stage) {x : Result Announced Code.Refusal} (e : verdict_of x ≡ judged b xs) {a : Announced} (h : x ≡ Ok a) (o : List ℕ) {y : Bool} (r : y ≡ leb (0 + a.outputs) (length o / record_bytes)) where
  pub room-fails : {q : Refusal} → (y ≡ false) × (q ≡ refusal 11 0) → refused q ≡ judged b (room_stage (announced b).outputs o ∷ [])
  room-fails f = ap refused f.1 ∙ sym (fails-room b xs e h o (rw (zero-add a.outputs) at r) f.0)

  pub room-passes : y ≡ true → judged b (room_stage (announced b).outputs o ∷ []) ≡ judged b []
  room-passes = passes-room b xs e h o (rw (zero-add a.outputs) at r)

-- ---- stages 1 to 9 before those of the events

pub standing-first : (b m : List ℕ) (v : List ℤ) (ys : List Stage) → judged b (table_stages b ++ (marks_stages b m ++ (vars_stage v ∷ ys))) ≡ judged b (standing_stages b m v ++ ys)
standing-first b m v ys = ap (judged b) (sym (append_assoc (table_stages b) (marks_stages b m ++ (vars_stage v ∷ [])) ys ∙ ap (λ (l : List Stage). table_stages b ++ l) (append_assoc (marks_stages b m) (vars_stage v ∷ []) ys)))
