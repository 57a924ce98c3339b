-- What code holds while events are taken stands for what was taken: the states and the memory of the running program, and the output room.
-- Assumes nothing.
use mathlib.Core.Path.{◌≡◌, sym, ap, subst, ◌∙◌}
use mathlib.Core.List.{List, [], append-nil}
use mathlib.Core.Option.{none}
use Prim.Native.Nat.{ℕ, suc, ◌+◌, ◌*◌, ◌/◌, ◌≤◌, ◌<◌, max}
use native.Mathlib.Omega.{arith}
use mathlib.Core.Bool.{◌&&◌}
use lib.Dec.{T, leb, leb→le}
use lib.IntN.{ℤ, pos}
use lib.ListN.{length, get_or, set, length-set}
use Rattle.rules.specs.Stages.{first_refusal}
use Rattle.rules.specs.Limits.{most_name, most_records, record_bytes}
use Rattle.rules.specs.Table.{program_of, records_of}
use Rattle.rules.specs.Check.{announced, table_stages}
use Rattle.rules.specs.Memory.{Memory, Output, does, effect}
use Rattle.rules.specs.Run.{Ran, reaction, start}
use Rattle.rules.specs.Calls.{Lent, Sent, Taken, Totals, join_run, none_taken, take_event}
use Rattle.theory.specs.Logic.{both_right}
use Rattle.theory.proofs.Accepted.{accepted-check}
use Rattle.theory.specs.Demand.{Ended}
use Rattle.theory.proofs.DemandProof.{reaction-ends, start-ends}
use Rattle.theory.proofs.Calls.{Held, start-vars, take-held}
use Rattle.theory.proofs.Follow.{begun}
use Rattle.theory.specs.State.{Counted, counted, counting}
use Rattle.theory.specs.Round.{Round, begin, react}
use Rattle.theory.specs.AnyMemory.{Alike}
use Rattle.theory.proofs.OnStates.{OnStates, react-on-states, start-on-states}
use Rattle.table.specs.Places.{tree_of}
use Rattle.memory.specs.Acts.{arrays_of}
use Rattle.memory.specs.Arrays.{Arrays, arrays}
use Rattle.memory.specs.Stands.{Stands}
use Rattle.memory.proofs.Standing.{after, effect-after, stands-acts, stands-test, stands-tick}
use Rattle.walks.specs.Walks.{array_ops}
use Rattle.walks.specs.declared.running.Running.{Running}
use Rattle.engine.specs.Running.{most_rounds, round_of}
use Rattle.engine.specs.declared.Rounded.{Rounded}
use Rattle.calls.proofs.Passed.{passed-emitted, passed-steps, program-is}

-- ---- memory as arrays, behind earlier outputs and steps

abbrev Behind : List ℕ → List Output → ℕ → Counted → Arrays → Type 0
Behind room os s c a = Stands room a (after os c.memory) (s + c.steps)

alike : (room : List ℕ) (os : List Output) (s : ℕ) → Alike counting array_ops (Behind room os s)
unfolding effect
alike room os s = record {
  ticks = λ c a h. let e : suc (s + c.steps) ≡ s + suc c.steps = omega arith in subst (λ n. Stands room (array_ops.tick a) (after os c.memory) n) e (stands-tick h);
  acting = λ x v k r c a h. subst (λ (m : Memory). Stands room (array_ops.acts x v k a) m (s + c.steps)) (effect-after os (does x v k) c.memory) (stands-acts h x v k (small v r.0));
  emitting = λ e y r c a h. h;
  testing = λ v r c a h. sym (stands-test h v);
}
  where
    small : (v : ℕ) → T (leb 1 v && leb v most_name) → v < 256
    small v t = omega (arith, leb→le v most_name (both_right (leb 1 v) (leb v most_name) t))

-- ---- what is held

-- after k events what runs, the output room and the counts of internal events and level stand for what was taken, which fits the room
pub record Holds (b room : List ℕ) (k : ℕ) (g : Taken) (run : Running) (o : List ℕ) (emitted highest : ℕ) : Type 0 where
  pub stands : Stands room (arrays_of run.memory o) (record { vars = g.vars; outs = g.outs }) g.count.steps
  pub shows : (j : ℕ) → j < records_of b → get_or run.states j 0 ≡ get_or g.marks j 0
  pub long : length run.states ≡ most_records
  pub emitted-is : emitted ≡ g.count.emitted
  pub highest-is : highest ≡ g.count.highest
  pub held : Held b (length room / record_bytes) g
  pub few-steps : g.count.steps ≤ k * most_rounds
  pub few-emitted : g.count.emitted ≤ k * most_rounds

-- the value of the event is put into variable 0
abbrev pub valued : ℤ → Running → Running
valued z r = record r { memory = record r.memory { vars = set r.memory.vars 0 z } }

set_value : (room : List ℕ) (run : Running) (o : List ℕ) (g : Taken) (z : ℤ) → Stands room (arrays_of run.memory o) (record { vars = g.vars; outs = g.outs }) g.count.steps →
    Behind room g.outs g.count.steps (counted (begun g.vars z) 0) (arrays_of (valued z run).memory o)
unfolding arrays_of arrays
set_value room run o g z h =
    let n : g.count.steps + 0 ≡ g.count.steps = omega arith in
    record {
      same_vars = ap (λ (x : List ℤ). set x 0 z) h.same_vars;
      all_vars = length-set g.vars 0 z ∙ h.all_vars;
      room_size = h.room_size;
      counted = rw (n, append-nil g.outs) h.counted;
      written = rw (append-nil g.outs) h.written;
    }

module _ (b : List ℕ) (passed : first_refusal (table_stages b) ≡ none) (few : records_of b ≤ most_records) (room : List ℕ) (r : Rounded) (run' : Running) (o' : List ℕ) where
  -- an event is taken
  pub takes-event : (k : ℕ) (g : Taken) (run : Running) (o : List ℕ) (emitted highest : ℕ) (s : Sent) → Holds b room k g run o emitted highest → length g.outs + (announced b).outputs ≤ length room / record_bytes →
      round_of r run' o' ≡ react array_ops (tree_of b 0) (announced b).steps s.event run.states (arrays_of (valued s.value run).memory o) →
      Holds b room (k + 1) (take_event b s g) run' o' (emitted + r.emitted) (max highest r.highest)
  unfolding take_event
  takes-event k g run o em hi s h l e =
      let R : Counted → Arrays → Type 0 = Behind room g.outs g.count.steps in
      let t : Ran = reaction b g.marks g.vars s.event s.value in
      let w : round_of r run' o' ≡ react array_ops (program_of b) (announced b).steps s.event run.states (arrays_of (valued s.value run).memory o) = rw (program-is b passed) at e in
      let d : OnStates R b run.states (round_of r run' o') t =
      subst (λ (x : Round Arrays). OnStates R b run.states x t) (sym w)
      (react-on-states array_ops R (alike room g.outs g.count.steps) b (announced b) (accepted-check b passed) g.marks h.held.marks g.vars s.event s.value run.states (omega (arith, h.long)) h.shows (arrays_of (valued s.value run).memory o)
      (set_value room run o g s.value h.stands)) in
      let f : Ended b (announced b) t = reaction-ends b (announced b) (accepted-check b passed) g.marks h.held.marks g.vars s.event s.value in
      record {
        stands = d.memory;
        shows = d.marks;
        long = d.long ∙ h.long;
        emitted-is = rw (h.emitted-is, d.emitted);
        highest-is = rw (h.highest-is, d.highest);
        held = take-held b passed (length room / record_bytes) s g h.held l;
        few-steps = omega (arith, f.steps, passed-steps b passed, h.few-steps);
        few-emitted = omega (arith, f.emitted, passed-emitted b passed, h.few-emitted);
      }

  -- a start, on idle states
  pub starts : (l : Lent) (t : Totals) (run : Running) (o : List ℕ) → length l.vars ≡ 64 → Stands room (arrays_of run.memory o) (record { vars = l.vars; outs = [] }) 0 → length run.states ≡ most_records → ((j : ℕ) → j < records_of b → get_or run.states j 0 ≡ 0) → (announced b).outputs ≤ length room / record_bytes →
      round_of r run' o' ≡ begin array_ops (tree_of b 0) (announced b).steps run.states (arrays_of (valued (pos 0) run).memory o) →
      Holds b room 1 (join_run b t (start b l.vars) (none_taken l)) run' o' r.emitted r.highest
  starts l t run o n h long idle most e =
      let R : Counted → Arrays → Type 0 = Behind room [] 0 in
      let x : List ℤ = l.vars in
      let a : Arrays = arrays_of (valued (pos 0) run).memory o in
      let w : round_of r run' o' ≡ begin array_ops (program_of b) (announced b).steps run.states a = rw (program-is b passed) at e in
      let d : OnStates R b run.states (round_of r run' o') (start b x) =
      subst (λ (y : Round Arrays). OnStates R b run.states y (start b x)) (sym w)
      (start-on-states array_ops R (alike room [] 0) b (announced b) (accepted-check b passed) x run.states (omega (arith, long)) idle a (set_value room run o (none_taken l) (pos 0) h)) in
      let f : Ended b (announced b) (start b x) = start-ends b (announced b) (accepted-check b passed) x in
      record {
        stands = d.memory;
        shows = d.marks;
        long = d.long ∙ long;
        emitted-is = omega (arith, d.emitted);
        highest-is = omega (arith, d.highest);
        held = record { marks = f.fits; vars = start-vars b x ∙ n; outs = omega (arith, f.outputs) };
        few-steps = omega (arith, f.steps, passed-steps b passed);
        few-emitted = omega (arith, f.emitted, passed-emitted b passed);
      }
