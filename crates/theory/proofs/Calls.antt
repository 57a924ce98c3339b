-- What the calls answer and leave: a start or a reaction that is not refused is within the announced numbers, and leaves marks,
-- variables and room that pass their stages again; one that is refused leaves all as it was.
use Rattle.std.specs.Prelude.{◌≡◌, refl, List, [], ◌∷◌, ◌++◌, ℕ, ◌+◌, ◌*◌, ◌/◌, ◌≤◌, eqb, leb, ℤ, pos, length}
use Rattle.std.proofs.Common.{sym, ◌∙◌, arith, eqb→eq, leb→le, length-set, length-append}
use Rattle.std.proofs.Math.Path.{subst}
use Rattle.std.proofs.Math.Option.{Option, none, some}
use Rattle.rules.specs.Stages.{Refusal, Stage, first_refusal, option}
use Rattle.rules.specs.Limits.{Announced, record_bytes, variables}
use Rattle.rules.specs.Tree.{Tree}
use Rattle.rules.specs.Table.{program_of}
use Rattle.rules.specs.Check.{announced, table_stages}
use Rattle.rules.specs.Marks.{length_stage, marks_stages}
use Rattle.rules.specs.Step.{Description, step}
use Rattle.rules.specs.Run.{Count, Ran, faced, nothing_yet, reaction, run, start}
use Rattle.rules.specs.Calls.{Lent, Outcome, Sent, Taken, Totals, answers, count_reaction, event_stage, join_run, none_taken, out_bytes, react_call, react_stages, refuse, room_stage, start_call, start_stages, take_event, tested, vars_stage}
use Rattle.rules.proofs.Buffers.{bytes-length, onto-length}
use Rattle.theory.specs.Logic.{clash}
use Rattle.theory.specs.Memory.{effect-vars}
use Rattle.theory.specs.Steps.{Steps, pushes, pops, inside, step-is-rule}
use Rattle.theory.specs.RunKeeps.{run-keeps}
use Rattle.theory.specs.Stages.{next, first-append, unless-true}
use Rattle.theory.proofs.Accepted.{accepted-check}
use Rattle.theory.specs.Demand.{Ended}
use Rattle.theory.proofs.DemandProof.{reaction-ends, start-ends}

-- ---- the number of variables stays

vars-keep : (n : ℕ) (d : Description) (c : Count) (d' : Description) → length d.memory.vars ≡ n → step d ≡ some d' → length d'.memory.vars ≡ n
vars-keep n d c d' h e = go (step-is-rule d d' e)
  where
    go : {d' : Description} → Steps d d' → length d'.memory.vars ≡ n
    go (pushes p) = h
    go (pops p l i) = h
    go (inside {w = w} p g) = effect-vars w d.memory ∙ h

-- a run from the description that meets an event
met-vars : (f e : ℕ) (z : ℤ) (t : Tree) (x : List ℤ) → length (run f (faced e z t x) nothing_yet).last.memory.vars ≡ length x
met-vars f e z t x = run-keeps (λ d c. length d.memory.vars ≡ length x) (vars-keep (length x)) f (faced e z t x) nothing_yet (length-set x 0 z)

pub reaction-vars : (b m : List ℕ) (x : List ℤ) (e : ℕ) (z : ℤ) → length (reaction b m x e z).last.memory.vars ≡ length x
unfolding reaction
reaction-vars b m x e z = met-vars (announced b).steps e z _ x

pub start-vars : (b : List ℕ) (x : List ℤ) → length (start b x).last.memory.vars ≡ length x
unfolding start
start-vars b x = met-vars (announced b).steps 0 (pos 0) (program_of b) x

-- ---- stages one after the other

-- an outcome that is not refused: every stage passed, and it is the outcome behind them
pub tested-none : (ss : List Stage) (l : Lent) (o : Outcome) → (tested ss l o).refused ≡ none → (first_refusal ss ≡ none) × (tested ss l o ≡ o)
tested-none ss l o e = go (first_refusal ss) refl e
  where
    go : (f : Option Refusal) → first_refusal ss ≡ f → (option o (refuse l) f).refused ≡ none → (f ≡ none) × (option o (refuse l) f ≡ o)
    go none x y = (refl, refl)
    go (some r) x y = clash (cc)

-- ---- what an outcome leaves passes its stages again

pub record Fine (b : List ℕ) (l : Lent) (o : Outcome) : Type 0 where
  pub marks : first_refusal (marks_stages b o.lent.marks) ≡ none
  pub vars : length o.lent.vars ≡ variables
  pub room : length o.lent.room ≡ length l.room
  pub outputs : record_bytes * o.answer.outputs ≤ length l.room

-- the same of what was taken, with room for n outputs
pub record Held (b : List ℕ) (n : ℕ) (g : Taken) : Type 0 where
  pub marks : first_refusal (marks_stages b g.marks) ≡ none
  pub vars : length g.vars ≡ variables
  pub outs : length g.outs ≤ n

pub held-fine : (b : List ℕ) (l : Lent) (r : Option Refusal) (g : Taken) → Held b (length l.room / record_bytes) g → Fine b l (answers l r g)
unfolding answers
held-fine b l r g h =
    let k : length (out_bytes g.outs) ≤ length l.room = omega (arith, bytes-length g.outs, h.outs) in
    record { marks = h.marks; vars = h.vars; room = onto-length (out_bytes g.outs) l.room k; outputs = omega (arith, h.outs) }

taking-held : (b : List ℕ) (a : Announced) (n : ℕ) (t : Totals) (r : Ran) (g : Taken) → Ended b a r → length r.last.memory.vars ≡ variables → length g.outs + a.outputs ≤ n → Held b n (join_run b t r g)
taking-held b a n t r g d v l = record { marks = d.fits; vars = v; outs = omega (arith, length-append g.outs r.last.memory.outs, d.outputs) }

pub take-held : (b : List ℕ) → first_refusal (table_stages b) ≡ none → (n : ℕ) (s : Sent) (g : Taken) → Held b n g → length g.outs + (announced b).outputs ≤ n → Held b n (take_event b s g)
unfolding take_event
take-held b c n s g h l =
    let r : Ran = reaction b g.marks g.vars s.event s.value in
    taking-held b (announced b) n (count_reaction r.count.steps g.totals) r g (reaction-ends b (announced b) (accepted-check b c) g.marks h.marks g.vars s.event s.value)
    (reaction-vars b g.marks g.vars s.event s.value ∙ h.vars) l

pub none-held : (b : List ℕ) (l : Lent) (n : ℕ) → first_refusal (marks_stages b l.marks) ≡ none → length l.vars ≡ variables → Held b n (none_taken l)
none-held b l n m v = record { marks = m; vars = v; outs = omega arith }

-- ---- the calls

-- an answer within the announced numbers
pub record Bounded (a : Announced) (o : Outcome) : Type 0 where
  pub steps : o.answer.steps ≤ a.steps
  pub emitted : o.answer.emitted ≤ a.emitted
  pub highest : o.answer.highest ≤ a.highest
  pub outputs : o.answer.outputs ≤ a.outputs

abbrev last_stages : List ℕ → Lent → List Stage
last_stages b l = room_stage (announced b).outputs l.room ∷ []

pub roomy : (n : ℕ) (room : List ℕ) → first_refusal (room_stage n room ∷ []) ≡ none → n ≤ length room / record_bytes
roomy n room e = leb→le n (length room / record_bytes) (unless-true (leb n (length room / record_bytes)) (next (room_stage n room) [] e).clean)

pub enough-vars : (x : List ℤ) (ss : List Stage) → first_refusal (vars_stage x ∷ ss) ≡ none → length x ≡ variables
enough-vars x ss e = eqb→eq (length x) variables (unless-true (eqb (length x) variables) (next (vars_stage x) ss e).clean)

pub react-fine : (b : List ℕ) (l : Lent) (s : Sent) → (react_call b l s).refused ≡ none → Fine b l (react_call b l s) × Bounded (announced b) (react_call b l s)
unfolding react_call
react-fine b l s e =
    let end : List Stage = last_stages b l in
    let o : Outcome = answers l none (take_event b s (none_taken l)) in
    let t = tested-none (react_stages b l s) l o e in
    let p = first-append (table_stages b) (marks_stages b l.marks ++ (vars_stage l.vars ∷ event_stage s.event ∷ end)) t.0 in
    let q = first-append (marks_stages b l.marks) (vars_stage l.vars ∷ event_stage s.event ∷ end) p.1 in
    let v = enough-vars l.vars (event_stage s.event ∷ end) q.1 in
    let w = roomy (announced b).outputs l.room (next (event_stage s.event) end (next (vars_stage l.vars) (event_stage s.event ∷ end) q.1).later).later in
    let n : ℕ = length l.room / record_bytes in
    let d = reaction-ends b (announced b) (accepted-check b p.0) l.marks q.0 l.vars s.event s.value in
    let c : Bounded (announced b) o = unfold answers take_event in record { steps = omega (arith, d.steps); emitted = omega (arith, d.emitted); highest = omega (arith, d.highest); outputs = d.outputs } in (
      subst (Fine b l) (sym t.1) (held-fine b l none (take_event b s (none_taken l)) (take-held b p.0 n s (none_taken l) (none-held b l n q.0 v) (omega (arith, w)))),
      subst (Bounded (announced b)) (sym t.1) c,
    )

pub start_fine : (b : List ℕ) (l : Lent) → (start_call b l).refused ≡ none → Fine b l (start_call b l) × Bounded (announced b) (start_call b l)
unfolding start_call
start_fine b l e =
    let end : List Stage = last_stages b l in
    let g : Taken = join_run b l.totals (start b l.vars) (none_taken l) in
    let o : Outcome = answers l none g in
    let t = tested-none (start_stages b l) l o e in
    let p = first-append (table_stages b) (length_stage b l.marks ∷ vars_stage l.vars ∷ end) t.0 in
    let q = next (length_stage b l.marks) (vars_stage l.vars ∷ end) p.1 in
    let v = enough-vars l.vars end q.later in
    let w = roomy (announced b).outputs l.room (next (vars_stage l.vars) end q.later).later in
    let d = start-ends b (announced b) (accepted-check b p.0) l.vars in
    let c : Bounded (announced b) o = unfold answers in record { steps = omega (arith, d.steps); emitted = omega (arith, d.emitted); highest = omega (arith, d.highest); outputs = d.outputs } in (
      subst (Fine b l) (sym t.1) (held-fine b l none g (taking-held b (announced b) (length l.room / record_bytes) l.totals (start b l.vars) (none_taken l) d (start-vars b l.vars ∙ v) (omega (arith, w)))),
      subst (Bounded (announced b)) (sym t.1) c,
    )

-- ---- a refusal leaves all as it was

tested-some : (ss : List Stage) (l : Lent) (o : Outcome) (r : Refusal) → o.refused ≡ none → (tested ss l o).refused ≡ some r → tested ss l o ≡ refuse l r
tested-some ss l o r n e = go (first_refusal ss) e
  where
    go : (f : Option Refusal) → (option o (refuse l) f).refused ≡ some r → option o (refuse l) f ≡ refuse l r
    go none x =
        let y : some r ≡ none = sym x ∙ n in
        clash (cc)
    go (some q) x = let y : q ≡ r = cc in rw y

pub react-refused : (b : List ℕ) (l : Lent) (s : Sent) (r : Refusal) → (react_call b l s).refused ≡ some r → react_call b l s ≡ refuse l r
unfolding react_call
react-refused b l s r e = tested-some (react_stages b l s) l (answers l none (take_event b s (none_taken l))) r (unfold answers in refl) e

pub start-refused : (b : List ℕ) (l : Lent) (r : Refusal) → (start_call b l).refused ≡ some r → start_call b l ≡ refuse l r
unfolding start_call
start-refused b l r e = tested-some (start_stages b l) l (answers l none (join_run b l.totals (start b l.vars) (none_taken l))) r (unfold answers in refl) e
