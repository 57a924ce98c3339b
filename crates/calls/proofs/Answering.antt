-- From what is held to the answer: what is stored, and what is answered, is what the rules say.
-- Assumes nothing.
use Rattle.std.specs.Prelude.{Result, Err}
use Rattle.std.specs.List.{list_all}
use mathlib.Core.Path.{◌≡◌, refl, sym, ap, ◌∙◌}
use mathlib.Core.Bool.{Bool, true, ◌&&◌}
use mathlib.Core.List.{List, [], ◌∷◌}
use mathlib.Core.Option.{Option, none, some}
use Prim.Native.Nat.{ℕ, ◌≤◌, ◌<◌, min}
use native.Mathlib.Omega.{arith}
use lib.Dec.{eqb, eqb→eq, ltb}
use lib.IntN.{ℤ}
use lib.ListN.{length, get_or, take}
use lib.Seq.{ext_get_or, get_or-take, length-take-le}
use Rattle.rules.specs.Stages.{Refusal, Stage, first_refusal}
use Rattle.rules.specs.Limits.{most_records, top_total}
use Rattle.rules.specs.Table.{kind_at, records_of}
use Rattle.rules.specs.Check.{announced}
use Rattle.rules.specs.Marks.{all_zero, marks_stages, may_mark}
use Rattle.rules.specs.Calls.{Answer, Lent, Outcome, Taken, answers, onto, out_bytes, refuse, tested}
use Rattle.theory.specs.Logic.{both_left, or_cases}
use Rattle.theory.proofs.Accepted.{marks-pass, verdict-refused}
use Rattle.acceptance.specs.Verdicts.{verdict_of}
use Rattle.acceptance.specs.declared.Announced.{Announced}
use Rattle.table.specs.Refusing.{refusal_of}
use Rattle.table.specs.declared.refusal.Refusal as Code
use Rattle.memory.specs.Acts.{arrays_of}
use Rattle.memory.specs.Arrays.{arrays}
use Rattle.memory.proofs.Standing.{stands-room}
use Rattle.engine.specs.Parts.{AllWait}
use Rattle.walks.specs.declared.running.Running.{Running}
use Rattle.calls.specs.declared.Done.{Done}
use Rattle.calls.specs.Answers.{Ran, Uncounted, answer_of}
use Rattle.calls.specs.Holding.{Bytes, Stored}
use Rattle.calls.specs.Stages.{judged}
use Rattle.calls.proofs.Judging.{early_refusal}
use Rattle.calls.proofs.Holding.{Holds}

-- ---- marks that pass stage 8

module _ (b m : List ℕ) (e : first_refusal (marks_stages b m) ≡ none) where
  pub marks-sized : length m ≡ records_of b
  marks-sized = (marks-pass b m e).long

  pub marks-low : (j : ℕ) → j < records_of b → get_or m j 0 < 2
  marks-low j h =
      or_cases (eqb (get_or m j 0) 0) (eqb (get_or m j 0) 1 && may_mark (kind_at b j))
      (λ t. omega (arith, eqb→eq (get_or m j 0) 0 t))
      (λ t. omega (arith, eqb→eq (get_or m j 0) 1 (both_left (eqb (get_or m j 0) 1) (may_mark (kind_at b j)) t)))
      ((marks-pass b m e).right j h)

-- ---- what is stored

same-answer : {f f' : Bool} {s s' e e' h h' o o' : ℕ} → f ≡ f' → s ≡ s' → e ≡ e' → h ≡ h' → o ≡ o' →
    ◌≡◌ {A = Answer} (record { finished = f; steps = s; emitted = e; highest = h; outputs = o }) (record { finished = f'; steps = s'; emitted = e'; highest = h'; outputs = o' })
same-answer p q r s t = rw (p, q, r, s, t)

-- an outcome that is no refusal of a stage, as it is answered and left
pub record Did (o : Outcome) (d : Done) (marks : List ℕ) (vars : List ℤ) (room : List ℕ) : Type 0 where
  pub answer : o.answer ≡ answer_of d
  pub marks-are : marks ≡ o.lent.marks
  pub vars-are : vars ≡ o.lent.vars
  pub room-is : room ≡ o.lent.room

module _ (b room : List ℕ) {k : ℕ} {g : Taken} {run : Running} {o : List ℕ} {em hi : ℕ} (h : Holds b room k g run o em hi) where
  pub held_bytes : (n : ℕ) → n ≡ records_of b → Bytes n run.states
  held_bytes n e j l = rw (h.shows j (omega arith)) (omega (arith, marks-low b g.marks h.held.marks j (omega arith)))

  pub held-waits : AllWait b run.states
  held-waits = record { low = λ j l. rw (h.shows j l) (marks-low b g.marks h.held.marks j l) }

  same-vars : run.memory.vars ≡ g.vars
  unfolding arrays_of arrays
  same-vars = h.stands.same_vars

  pub marks-stored : records_of b ≤ most_records → (n : ℕ) → n ≡ records_of b → take n run.states ≡ g.marks
  marks-stored few n e =
      let l : length (take n run.states) ≡ n = length-take-le n run.states (omega (arith, h.long)) in
      ext_get_or 0 (take n run.states) g.marks (omega (arith, marks-sized b g.marks h.held.marks))
      (λ j i. get_or-take n run.states j 0 (omega arith) ∙ h.shows j (omega arith))

  counts-are : run.memory.steps ∷ run.memory.outputs ∷ [] ≡ min top_total g.count.steps ∷ min top_total (length g.outs) ∷ []
  unfolding arrays_of arrays
  counts-are = h.stands.counted

  steps-are : k ≤ 8192 → run.memory.steps ≡ g.count.steps
  steps-are l = ap (λ (x : List ℕ). get_or x 0 0) counts-are ∙ omega (arith, h.few-steps)

  pub outputs-are : run.memory.outputs ≡ length g.outs
  outputs-are = ap (λ (x : List ℕ). get_or x 1 0) counts-are ∙ omega (arith, h.held.outs, h.stands.room_size)

  room-is : o ≡ onto (out_bytes g.outs) room
  unfolding arrays_of arrays
  room-is = stands-room h.stands h.held.outs

  -- the answer beside any refusal q, 12 or none
  pub answered : records_of b ≤ most_records → k ≤ 8192 → (l : Lent) → l.room ≡ room → (q : Option Refusal) →
      (m : List ℕ) → length m ≡ records_of b → {d : Done} {m' : List ℕ} {v' : List ℤ} → Stored em hi run m d m' v' → Did (answers l q g) d m' v' o
  unfolding answers
  answered few n l e q m w s =
      let z = s.marks-are ∙ marks-stored few (length m) w in
      record {
        answer = sym (ap answer_of s.done ∙ same-answer (ap all_zero z) (steps-are n) h.emitted-is h.highest-is outputs-are);
        marks-are = z;
        vars-are = s.vars-are ∙ same-vars;
        room-is = room-is ∙ ap (onto (out_bytes g.outs)) (sym e);
      }

-- ---- stages before an outcome

module _ (b : List ℕ) (ss : List Stage) (l : Lent) (o : Outcome) where
  pub tested-passed : first_refusal ss ≡ none → tested ss l o ≡ o
  tested-passed e = rw e

  module _ {x : Result Announced Code.Refusal} (e : verdict_of x ≡ judged b ss) {q : Code.Refusal} (h : x ≡ Err q) where
    first-is : first_refusal ss ≡ some (refusal_of q)
    unfolding judged
    first-is = verdict-refused (first_refusal ss) (announced b) (sym e ∙ ap verdict_of h)

    refused-is : tested ss l o ≡ refuse l (refusal_of q)
    refused-is = rw first-is

    pub tested-refused : Uncounted (tested ss l o) (Err q) l.marks l.vars l.room
    tested-refused = rw refused-is record { refused = refl; answer = refl; marks-are = refl; vars-are = refl; room-is = refl }

    -- of a list no event was taken
    pub tested-ran : l.totals.reactions ≡ 0 → list_all (λ s. ltb s.number 12) ss ≡ true → Ran (tested ss l o) (Err q) l.marks l.vars l.room
    tested-ran n k = rw refused-is record { refused = refl; stopped = early_refusal ss k first-is; answer = refl; taken = sym n; marks-are = refl; vars-are = refl; room-is = refl }
