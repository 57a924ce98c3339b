-- A list of events: what is held after i of them stands for what the rules took, and what is left is what the rules have left.
-- Assumes nothing.
use Rattle.std.specs.Prelude.{Result, Ok, Some, None, IfSome}
use Rattle.std.specs.Prelude as code
use Rattle.std.specs.List.{list_all}
use mathlib.Core.Path.{◌≡◌, refl, sym, ap, subst, ◌∙◌}
use mathlib.Core.Bool.{Bool, true, false}
use mathlib.Core.List.{List, [], ◌∷◌}
use mathlib.Core.Option.{none, some}
use Prim.Native.Nat.{ℕ, zero, suc, ◌+◌, ◌-◌, ◌*◌, ◌/◌, ◌≤◌, ◌<◌, max}
use native.Mathlib.Numerals.{add-one}
use native.Mathlib.Omega.{arith}
use lib.Dec.{leb, ltb}
use lib.IntN.{ℤ}
use lib.ListN.{length}
use borrow.Author.Tests.{leb-false, leb-true, le-ltb, lt-ltb, ltb-false}
use Rattle.rules.specs.Stages.{Refusal, first_refusal, refusal, stage}
use Rattle.rules.specs.Limits as Rules
use Rattle.rules.specs.Limits.{list_too_long, most_list_bytes, record_bytes, top_total}
use Rattle.rules.specs.Table.{kind_at, number_at}
use Rattle.rules.specs.Check.{announced, table_stages}
use Rattle.rules.specs.Marks.{marks_stages}
use Rattle.rules.specs.Calls.{Lent, Outcome, Sent, Taken, answers, none_taken, take_event}
use Rattle.rules.specs.Lists.{list_call, list_fails, sent_from, take_events}
use Rattle.theory.specs.Logic.{clash}
use Rattle.theory.specs.Stages.{next}
use Rattle.theory.specs.Round.{react}
use Rattle.table.specs.Places.{tree_of}
use Rattle.memory.specs.Acts.{arrays_of}
use Rattle.acceptance.specs.Verdicts.{verdict_of}
use Rattle.acceptance.specs.declared.Announced.{Announced}
use Rattle.table.specs.Refusing.{refusal_of, stage_number}
use Rattle.table.specs.declared.refusal.Refusal as Code
use Rattle.walks.specs.Walks.{array_ops}
use Rattle.walks.specs.declared.running.Running.{Running}
use Rattle.engine.specs.Running.{most_rounds, round_of}
use Rattle.engine.specs.declared.Rounded.{Rounded}
use Rattle.calls.specs.declared.Done.{Done}
use Rattle.calls.specs.Answers.{Ran, lent, sent_of, stopped_refusal}
use Rattle.calls.specs.Holding.{Resting, Stored}
use Rattle.calls.specs.Stages.{judged, run_stages}
use Rattle.calls.proofs.Judging.{all-passed, same-steps}
use Rattle.calls.proofs.Passed.{passed-few}
use Rattle.calls.proofs.Holding.{Holds, takes-event, valued}
use Rattle.calls.proofs.Answering.{answered, marks-sized, outputs-are, tested-passed}
use Rattle.calls.proofs.Reacting.{Ready, loaded, ready}

-- no stage of a list has number 12
pub early : (b m : List ℕ) (v : List ℤ) (es : List ℕ) → list_all (λ s. ltb s.number 12) (run_stages b m v es) ≡ true
unfolding table_stages marks_stages
early b m v es = refl

-- ---- events taken one by one

module _ (b : List ℕ) (l : Lent) (es : List ℕ) where
  abbrev count : ℕ
  count = length es / record_bytes

  abbrev room_for : ℕ
  room_for = length l.room / record_bytes

  abbrev event_at : ℕ → Sent
  event_at i = sent_of (kind_at es i) (number_at es i)

  pub taken_first : ℕ → Taken
  taken_first zero = none_taken l
  taken_first (suc i) = take_event b (event_at i) (taken_first i)

  pub reactions-are : l.totals.reactions ≡ 0 → (i : ℕ) → i ≤ 8192 → (taken_first i).totals.reactions ≡ i
  unfolding taken_first take_event
  reactions-are e zero h = e
  reactions-are e (suc i) h = omega (arith, reactions-are e i (omega arith))

  -- the outcome of the events from index i on, after g
  abbrev onward : ℕ → Taken → Outcome
  onward i g = take_events b l room_for i (sent_from es i (count - i)) g

  all-ahead : onward 0 (none_taken l) ≡ take_events b l room_for 0 (sent_from es 0 count) (none_taken l)
  all-ahead = let h : count - 0 ≡ count = omega arith in rw h

  module _ (i : ℕ) (g : Taken) where
    one_more_lem : i < count → ltb (room_for - length g.outs) (announced b).outputs ≡ false → onward i g ≡ onward (suc i) (take_event b (event_at i) g)
    unfolding take_events sent_from
    one_more_lem p e = let h : count - i ≡ suc (count - suc i) = omega arith in rw (h, e)

    short-here : i < count → ltb (room_for - length g.outs) (announced b).outputs ≡ true → onward i g ≡ answers l (some (refusal 12 i)) g
    unfolding take_events sent_from
    short-here p e = let h : count - i ≡ suc (count - suc i) = omega arith in rw (h, e)

    none_left : count ≤ i → onward i g ≡ answers l none g
    unfolding take_events sent_from
    none_left p = let h : count - i ≡ 0 = omega arith in rw h

-- ---- the loop

-- after i events
pub record Going (b : List ℕ) (l : Lent) (es : List ℕ) (i : ℕ) (run : Running) (o : List ℕ) (emitted highest : ℕ) : Type 0 where
  pub within : i ≤ length es / record_bytes
  pub holds : Holds b l.room i (taken_first b l es i) run o emitted highest
  pub ahead : take_events b l (length l.room / record_bytes) 0 (sent_from es 0 (length es / record_bytes)) (none_taken l) ≡ onward b l es i (taken_first b l es i)
  pub same-room : length o ≡ length l.room

module _ (b m : List ℕ) (v₀ : List ℤ) (es o₀ : List ℕ) {x : Result Announced Code.Refusal} (j : verdict_of x ≡ judged b (run_stages b m v₀ es)) {a : Announced} (h : x ≡ Ok a) where
  abbrev all : Lent
  all = lent m v₀ o₀

  list-none : first_refusal (run_stages b m v₀ es) ≡ none
  list-none = (all-passed b (run_stages b m v₀ es) j h).0

  same-outputs : a.outputs ≡ (announced b).outputs
  same-outputs = ap (λ (n : Rules.Announced). n.outputs) (sym (all-passed b (run_stages b m v₀ es) j h).1)

  pub run-ready : Ready b m v₀
  run-ready = (ready b m v₀ (stage 10 (list_fails es) ∷ []) list-none).0

  list-passed : list_fails es ≡ []
  list-passed = (next (stage 10 (list_fails es)) [] (ready b m v₀ (stage 10 (list_fails es) ∷ []) list-none).1).clean

  pub few-events : length es / record_bytes ≤ 8192
  few-events = go (ltb most_list_bytes (length es)) refl
    where
      go : (x : Bool) → ltb most_list_bytes (length es) ≡ x → length es / record_bytes ≤ 8192
      go true e =
          let f : list_too_long ∷ [] ≡ [] = sym (rw e) ∙ list-passed in
          clash (cc)
      go false e = omega (arith, ltb-false most_list_bytes (length es) e)

  pub going-none : length o₀ ≤ top_total → {run : Running} → Resting m v₀ run → Going b all es 0 run o₀ 0 0
  unfolding taken_first
  going-none n t = record {
    within = omega arith;
    holds = loaded b m v₀ o₀ run-ready n t;
    ahead = sym (all-ahead b all es);
    same-room = refl;
  }

  module _ {i : ℕ} {run : Running} {o : List ℕ} {em hi : ℕ} (g : Going b all es i run o em hi) where
    made-are : run.memory.outputs ≡ length (taken_first b all es i).outs
    made-are = outputs-are b o₀ g.holds

    pub made-fits : run.memory.outputs ≤ length o / record_bytes
    made-fits = omega (arith, made-are, g.holds.held.outs, ap (λ n. n / record_bytes) g.same-room)

    pub going-few : em ≤ 8192 * most_rounds
    going-few = omega (arith, g.within, few-events, g.holds.emitted-is, g.holds.few-emitted)

    -- the list, from here on
    whole : list_call b all es ≡ onward b all es i (taken_first b all es i)
    unfolding list_call
    whole = tested-passed b (run_stages b m v₀ es) all (take_events b all (length o₀ / record_bytes) 0 (sent_from es 0 (length es / record_bytes)) (none_taken all)) list-none ∙ g.ahead

    module _ {d : Done} {m' : List ℕ} {v' : List ℤ} (s : Stored em hi run m d m' v') where
      -- none is taken any more, and z is refusal 12 or none
      ran : (z : code.Option Code.Refusal) → IfSome z (λ q. stage_number q.stage ≡ 12) → list_call b all es ≡ answers all (stopped_refusal z) (taken_first b all es i) → Ran (list_call b all es) (Ok (record { done = d; taken = i; stopped = z })) m' v' o
      unfolding answers
      ran z k w =
          let f = answered b o₀ g.holds (passed-few b run-ready.table) (omega (arith, g.within, few-events)) all refl (stopped_refusal z) m (marks-sized b m run-ready.marks) s in
          subst (λ (y : Outcome). Ran y (Ok (record { done = d; taken = i; stopped = z })) m' v' o) (sym w)
          record { refused = refl; stopped = k; answer = f.answer; taken = sym (reactions-are b all es refl i (omega (arith, g.within, few-events))); marks-are = f.marks-are; vars-are = f.vars-are; room-is = f.room-is }

      -- all were taken
      pub list-over : length es / record_bytes ≤ i → Ran (list_call b all es) (Ok (record { done = d; taken = i; stopped = None })) m' v' o
      list-over n = ran None tt (whole ∙ none_left b all es i (taken_first b all es i) n)

      module _ {y : Bool} (test : y ≡ leb (run.memory.outputs + a.outputs) (length o / record_bytes)) where
        short : y ≡ false → ltb (length o₀ / record_bytes - length (taken_first b all es i).outs) (announced b).outputs ≡ true
        short e =
            lt-ltb (length o₀ / record_bytes - length (taken_first b all es i).outs) (announced b).outputs
            (omega (arith, made-are, same-outputs, g.holds.held.outs, ap (λ n. n / record_bytes) g.same-room, leb-false (run.memory.outputs + a.outputs) (length o / record_bytes) (sym test ∙ e)))

        -- the room has no place for the next
        pub list-short : y ≡ false → i < length es / record_bytes → {q : Code.Refusal} → refusal_of q ≡ refusal 12 i → Ran (list_call b all es) (Ok (record { done = d; taken = i; stopped = Some q })) m' v' o
        list-short e n {q} f = ran (Some q) (ap (λ (z : Refusal). z.number) f) (whole ∙ short-here b all es i (taken_first b all es i) n (short e) ∙ ap (λ (z : Refusal). answers all (some z) (taken_first b all es i)) (sym f))

    -- the event at index i is taken
    module _ {y : Bool} (test : y ≡ leb (run.memory.outputs + a.outputs) (length o / record_bytes)) where
      roomy : y ≡ true → length (taken_first b all es i).outs + (announced b).outputs ≤ length o₀ / record_bytes
      roomy e = omega (arith, made-are, same-outputs, ap (λ n. n / record_bytes) g.same-room, leb-true (run.memory.outputs + a.outputs) (length o / record_bytes) (sym test ∙ e))

      pub going_on : y ≡ true → i < length es / record_bytes → {e : ℕ} → e ≡ kind_at es i → {z : ℤ} → z ≡ number_at es i → {r : Rounded} {run' : Running} {o' : List ℕ} →
          round_of r run' o' ≡ react array_ops (tree_of b 0) a.steps e run.states (arrays_of (valued z run).memory o) → length o' ≡ length o → {hi' : ℕ} → hi' ≡ max hi r.highest → Going b all es (i + 1) run' o' (em + r.emitted) hi'
      unfolding taken_first
      going_on e n k z {r} {run'} {o'} w s q =
          let t : Ready b m v₀ = run-ready in
          rw (add-one i, q) record {
            within = omega (arith, n);
            holds = rw (add-one i) at (takes-event b t.table (passed-few b t.table) o₀ r run' o' i (taken_first b all es i) run o em hi (event_at b all es i) g.holds (roomy e) (rw (same-steps b (run_stages b m v₀ es) j h, k, z) at w));
            ahead = g.ahead ∙ one_more_lem b all es i (taken_first b all es i) n (le-ltb (length o₀ / record_bytes - length (taken_first b all es i).outs) (announced b).outputs (omega (arith, roomy e)));
            same-room = s ∙ g.same-room;
          }
