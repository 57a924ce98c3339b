-- The start and the reaction of a table whose stages pass: what code holds afterwards stands for the outcome of the rules.
-- Assumes nothing.
use Rattle.std.specs.Prelude.{Result, Ok}
use mathlib.Core.Path.{◌≡◌, refl, sym, ap, subst, ◌∙◌}
use mathlib.Core.List.{List, [], ◌∷◌, ◌++◌}
use mathlib.Core.Option.{none}
use Prim.Native.Nat.{ℕ, ◌+◌, ◌/◌, ◌≤◌, max}
use native.Mathlib.Omega.{arith}
use lib.Dec.{eqb, eqb→eq}
use lib.IntN.{ℤ, pos}
use lib.ListN.{length, drop, replicate, length-append, length-drop, length-replicate, get_or-append, get_or-replicate}
use Rattle.rules.specs.Stages.{Stage, first_refusal}
use Rattle.rules.specs.Limits.{most_records, record_bytes, top_total, variables}
use Rattle.rules.specs.Table.{records_of}
use Rattle.rules.specs.Check.{announced, table_stages}
use Rattle.rules.specs.Marks.{length_stage, marks_stages}
use Rattle.rules.specs.Run.{start}
use Rattle.rules.specs.Calls.{Lent, Outcome, Taken, answers, event_stage, join_run, none_taken, react_call, room_stage, start_call, take_event, vars_stage}
use Rattle.theory.specs.Stages.{first-append, next, unless-true}
use Rattle.theory.proofs.Calls.{enough-vars, none-held, roomy}
use Rattle.theory.specs.Round.{begin, react}
use Rattle.table.specs.Places.{tree_of}
use Rattle.table.specs.declared.refusal.Refusal as Code
use Rattle.acceptance.specs.Verdicts.{verdict_of}
use Rattle.acceptance.specs.declared.Announced.{Announced}
use Rattle.memory.specs.Acts.{arrays_of}
use Rattle.memory.specs.Stands.{Stands}
use Rattle.memory.proofs.Standing.{stands-start}
use Rattle.walks.specs.Walks.{array_ops}
use Rattle.walks.specs.declared.running.Running.{Running}
use Rattle.engine.specs.Running.{round_of}
use Rattle.engine.specs.declared.Rounded.{Rounded}
use Rattle.calls.specs.declared.Done.{Done}
use Rattle.calls.specs.Answers.{Uncounted, lent, no_totals, sent_of}
use Rattle.calls.specs.Holding.{Resting, Stored}
use Rattle.calls.specs.Stages.{judged, react_stages, start_stages}
use Rattle.calls.proofs.Judging.{all-passed, same-steps}
use Rattle.calls.proofs.Passed.{passed-few}
use Rattle.calls.proofs.Answering.{Did, answered, marks-sized, tested-passed}
use Rattle.calls.proofs.Holding.{Holds, starts, takes-event, valued}

-- an outcome with no refusal
answers-none : (l : Lent) (g : Taken) → (answers l none g).refused ≡ none
unfolding answers
answers-none l g = refl

uncounted : {o : Outcome} {d : Done} {m : List ℕ} {v : List ℤ} {room : List ℕ} → o.refused ≡ none → Did o d m v room → Uncounted o (Ok d) m v room
uncounted e h = record { refused = e; answer = h.answer; marks-are = h.marks-are; vars-are = h.vars-are; room-is = h.room-is }

-- what the stages of a call say, but for the events
pub record Ready (b m : List ℕ) (v : List ℤ) : Type 0 where
  pub table : first_refusal (table_stages b) ≡ none
  pub marks : first_refusal (marks_stages b m) ≡ none
  pub vars : length v ≡ variables

pub ready-few : {b m : List ℕ} {v : List ℤ} → Ready b m v → length m ≤ most_records
ready-few {b} {m} k = omega (arith, marks-sized b m k.marks, passed-few b k.table)

pub ready : (b m : List ℕ) (v : List ℤ) (ss : List Stage) → first_refusal (table_stages b ++ (marks_stages b m ++ (vars_stage v ∷ ss))) ≡ none → Ready b m v × (first_refusal ss ≡ none)
ready b m v ss e =
    let p = first-append (table_stages b) (marks_stages b m ++ (vars_stage v ∷ ss)) e in
    let q = first-append (marks_stages b m) (vars_stage v ∷ ss) p.1 in
    (record { table = p.0; marks = q.0; vars = enough-vars v ss q.1 }, (next (vars_stage v) ss q.1).later)

-- a program at rest has counted nothing
rest-stands : (m : List ℕ) (v : List ℤ) (o : List ℕ) {run : Running} → Resting m v run → length v ≡ variables → length o ≤ top_total → Stands o (arrays_of run.memory o) (record { vars = v; outs = [] }) 0
unfolding arrays_of
rest-stands m v o t n l = rw (t.vars-are, t.no-steps, t.no-outputs) (stands-start v o n l)

-- nothing is taken yet
pub loaded : (b m : List ℕ) (v : List ℤ) (o : List ℕ) → Ready b m v → length o ≤ top_total → {run : Running} → Resting m v run → Holds b o 0 (none_taken (lent m v o)) run o 0 0
loaded b m v o k l t =
    let n : length m ≡ records_of b = marks-sized b m k.marks in
    let idle : List ℕ = replicate most_records 0 in
    record {
      stands = rest-stands m v o t k.vars l;
      shows = λ j h. rw t.states-are (get_or-append m (drop (length m) idle) 0 j (omega arith));
      long = ap length t.states-are ∙ omega (arith, length-append m (drop (length m) idle), length-drop (length m) idle, length-replicate {A = ℕ} most_records 0, passed-few b k.table);
      emitted-is = refl;
      highest-is = refl;
      held = none-held b (lent m v o) (length o / record_bytes) k.marks k.vars;
      few-steps = omega arith;
      few-emitted = omega arith;
    }

-- ---- a reaction

module _ (b m : List ℕ) (v : List ℤ) (e : ℕ) (z : ℤ) (o : List ℕ) {x : Result Announced Code.Refusal} (j : verdict_of x ≡ judged b (react_stages b m v e o)) {a : Announced} (h : x ≡ Ok a) where
  react-none : first_refusal (react_stages b m v e o) ≡ none
  react-none = (all-passed b (react_stages b m v e o) j h).0

  pub react-ready : Ready b m v
  react-ready = (ready b m v (event_stage e ∷ room_stage (announced b).outputs o ∷ []) react-none).0

  react-room : (announced b).outputs ≤ length o / record_bytes
  react-room = roomy (announced b).outputs o (next (event_stage e) (room_stage (announced b).outputs o ∷ []) (ready b m v (event_stage e ∷ room_stage (announced b).outputs o ∷ []) react-none).1).later

  pub react-passed : react_call b (lent m v o) (sent_of e z) ≡ answers (lent m v o) none (take_event b (sent_of e z) (none_taken (lent m v o)))
  unfolding react_call
  react-passed = tested-passed b (react_stages b m v e o) (lent m v o) (answers (lent m v o) none (take_event b (sent_of e z) (none_taken (lent m v o)))) react-none

  pub reacts : length o ≤ top_total → {run : Running} → Resting m v run → {y : ℤ} → y ≡ z → {r : Rounded} {run' : Running} {o' : List ℕ} →
      round_of r run' o' ≡ react array_ops (tree_of b 0) a.steps e run.states (arrays_of (valued y run).memory o) → Holds b o 1 (take_event b (sent_of e z) (none_taken (lent m v o))) run' o' r.emitted r.highest
  reacts l {run} t y {r} {run'} {o'} w =
      let k : Ready b m v = react-ready in
      let g = takes-event b k.table (passed-few b k.table) o r run' o' 0 (none_taken (lent m v o)) run o 0 0 (sent_of e z) (loaded b m v o k l t) (omega (arith, react-room)) (rw (same-steps b (react_stages b m v e o) j h, y) at w) in
      let i : 0 + r.emitted ≡ r.emitted = omega arith in
      let f : max 0 r.highest ≡ r.highest = omega arith in
      rw (i, f) at g

  pub react-answers : {run' : Running} {o' : List ℕ} {em hi : ℕ} → Holds b o 1 (take_event b (sent_of e z) (none_taken (lent m v o))) run' o' em hi → {d : Done} {m'' : List ℕ} {v'' : List ℤ} → Stored em hi run' m d m'' v'' →
      Uncounted (react_call b (lent m v o) (sent_of e z)) (Ok d) m'' v'' o'
  react-answers {o' = o'} g {d} {m''} {v''} s =
      subst (λ (q : Outcome). Uncounted q (Ok d) m'' v'' o') (sym react-passed) (uncounted (answers-none (lent m v o) (take_event b (sent_of e z) (none_taken (lent m v o)))) (answered b o g (passed-few b react-ready.table) (omega arith) (lent m v o) refl none m (marks-sized b m react-ready.marks) s))

-- ---- a start

-- the stages after the eighth
abbrev after8 : List ℕ → List ℤ → List ℕ → List Stage
after8 b v o = vars_stage v ∷ room_stage (announced b).outputs o ∷ []

module _ (b m : List ℕ) (v : List ℤ) (o : List ℕ) {x : Result Announced Code.Refusal} (j : verdict_of x ≡ judged b (start_stages b m v o)) {a : Announced} (h : x ≡ Ok a) where
  start-none : first_refusal (start_stages b m v o) ≡ none
  start-none = (all-passed b (start_stages b m v o) j h).0

  parts : (first_refusal (table_stages b) ≡ none) × (first_refusal (length_stage b m ∷ after8 b v o) ≡ none)
  parts = first-append (table_stages b) (length_stage b m ∷ after8 b v o) start-none

  pub start-table : first_refusal (table_stages b) ≡ none
  start-table = parts.0

  pub start-sized : length m ≡ records_of b
  start-sized = eqb→eq (length m) (records_of b) (unless-true (eqb (length m) (records_of b)) (next (length_stage b m) (after8 b v o) parts.1).clean)

  pub start-few : length m ≤ most_records
  start-few = omega (arith, start-sized, passed-few b start-table)

  later : first_refusal (after8 b v o) ≡ none
  later = (next (length_stage b m) (after8 b v o) parts.1).later

  pub start-vars : length v ≡ variables
  start-vars = enough-vars v (room_stage (announced b).outputs o ∷ []) later

  pub start-passed : start_call b (lent m v o) ≡ answers (lent m v o) none (join_run b no_totals (start b v) (none_taken (lent m v o)))
  unfolding start_call
  start-passed = tested-passed b (start_stages b m v o) (lent m v o) (answers (lent m v o) none (join_run b no_totals (start b v) (none_taken (lent m v o)))) start-none

  pub started : length o ≤ top_total → {run : Running} → Resting [] v run → {r : Rounded} {run' : Running} {o' : List ℕ} →
      round_of r run' o' ≡ begin array_ops (tree_of b 0) a.steps run.states (arrays_of (valued (pos 0) run).memory o) → Holds b o 1 (join_run b no_totals (start b v) (none_taken (lent m v o))) run' o' r.emitted r.highest
  started l {run} t {r} {run'} {o'} w =
      starts b start-table (passed-few b start-table) o r run' o' (lent m v o) no_totals run o start-vars (rest-stands [] v o t start-vars l) (ap length t.states-are ∙ length-replicate {A = ℕ} most_records 0)
      (λ j h. rw t.states-are (get_or-replicate most_records j 0 0 (omega (arith, passed-few b start-table))))
      (roomy (announced b).outputs o (next (vars_stage v) (room_stage (announced b).outputs o ∷ []) later).later) (rw (same-steps b (start_stages b m v o) j h) at w)

  pub start-answers : {run' : Running} {o' : List ℕ} {em hi : ℕ} → Holds b o 1 (join_run b no_totals (start b v) (none_taken (lent m v o))) run' o' em hi → {d : Done} {m'' : List ℕ} {v'' : List ℤ} → Stored em hi run' m d m'' v'' →
      Uncounted (start_call b (lent m v o)) (Ok d) m'' v'' o'
  start-answers {o' = o'} g {d} {m''} {v''} s =
      subst (λ (q : Outcome). Uncounted q (Ok d) m'' v'' o') (sym start-passed) (uncounted (answers-none (lent m v o) (join_run b no_totals (start b v) (none_taken (lent m v o)))) (answered b o g (passed-few b start-table) (omega arith) (lent m v o) refl none m start-sized s))
