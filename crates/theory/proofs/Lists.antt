-- A list of events. What it answers is the fold of its reactions over the events taken; it stops only where the room left is below
-- the announced outputs, and so never where there is room for every event at the announced size.
use Rattle.std.specs.Prelude.{◌≡◌, refl, Bool, true, false, ℕ, zero, suc, ◌+◌, ◌-◌, ◌*◌, ◌/◌, ◌≤◌, ◌<◌, ltb, length, if◌then◌else◌}
use Rattle.std.proofs.Common.{sym, ap, subst, ◌∙◌, arith, zero-add, ltb-true, ltb-false, le-ltb}
use mathlib.Core.List.{foldl, List, [], ◌∷◌, ◌++◌}
use Rattle.std.proofs.Math.Option.{Option, none, some}
use Rattle.rules.specs.Stages.{Refusal, first_refusal, refusal, stage}
use Rattle.rules.specs.Limits.{record_bytes}
use Rattle.rules.specs.Table.{byte_at, number_at}
use Rattle.rules.specs.Check.{announced, table_stages}
use Rattle.rules.specs.Marks.{marks_stages}
use Rattle.rules.specs.Calls.{Lent, Outcome, Sent, Taken, answers, none_taken, refuse, take_event, vars_stage}
use Rattle.rules.specs.Lists.{list_call, list_fails, list_stages, sent_from, take_events}
use Rattle.theory.specs.Logic.{clash}
use Rattle.theory.specs.Stages.{first-append}
use Rattle.theory.proofs.Calls.{Fine, Held, held-fine, take-held, none-held, tested-none, enough-vars}

-- the events, taken one after the other
abbrev pub take_all : List ℕ → List Sent → Taken → Taken
take_all b ss g = foldl (λ g s. take_event b s g) g ss

-- the events of a list, in whole records; the room for outputs likewise
abbrev pub events_of : List ℕ → ℕ
events_of es = length es / record_bytes

abbrev pub room_of : Lent → ℕ
room_of l = length l.room / record_bytes

-- the event at index j
abbrev sent_at : List ℕ → ℕ → Sent
sent_at es j = record { event = byte_at es j 0; value = number_at es j }

-- ---- k events from index j on, with room for n outputs in all

-- all were taken, or i of them, and the room left was short before the next
data Ends (b : List ℕ) (l : Lent) (n : ℕ) (es : List ℕ) (j k : ℕ) (g : Taken) : Type 0 where
  whole : take_events b l n j (sent_from es j k) g ≡ answers l none (take_all b (sent_from es j k) g) → Ends b l n es j k g
  stopped : (i : ℕ) → i < k → n - length (take_all b (sent_from es j i) g).outs < (announced b).outputs → take_events b l n j (sent_from es j k) g ≡ answers l (some (refusal 12 (j + i))) (take_all b (sent_from es j i) g) → Ends b l n es j k g

ends : (b : List ℕ) (l : Lent) (n : ℕ) (es : List ℕ) (k j : ℕ) (g : Taken) → Ends b l n es j k g
unfolding take_events sent_from
ends b l n es zero j g = whole refl
ends b l n es (suc k) j g = go (ends b l n es k (suc j) (take_event b (sent_at es j) g)) (ltb (n - length g.outs) (announced b).outputs) refl
  where
    go : Ends b l n es (suc j) k (take_event b (sent_at es j) g) → (x : Bool) → ltb (n - length g.outs) (announced b).outputs ≡ x → Ends b l n es j (suc k) g
    go r true e =
        let z : j + 0 ≡ j = omega arith in
        stopped 0 (omega arith) (ltb-true (n - length g.outs) (announced b).outputs e) (rw (e, z))
    go (whole h) false e = whole (rw e h)
    go (stopped i x y h) false e =
        let z : j + suc i ≡ suc j + i = omega arith in
        stopped (suc i) (omega arith) y (rw (e, z) h)

-- with room for all of them none is left out
takes_all : (b : List ℕ) → first_refusal (table_stages b) ≡ none → (l : Lent) (n : ℕ) (es : List ℕ) (k j : ℕ) (g : Taken) → Held b n g → length g.outs + k * (announced b).outputs ≤ n → take_events b l n j (sent_from es j k) g ≡ answers l none (take_all b (sent_from es j k) g)
unfolding take_events sent_from
takes_all b c l n es zero j g h r = refl
takes_all b c l n es (suc k) j g h r =
    let O : ℕ = (announced b).outputs in
    let g' : Taken = take_event b (sent_at es j) g in
    let m = take-held b c (length g.outs + O) (sent_at es j) g (record { marks = h.marks; vars = h.vars; outs = omega arith }) (omega arith) in
    rw (le-ltb (n - length g.outs) O (omega arith)) (takes_all b c l n es k (suc j) g' (record { marks = m.marks; vars = m.vars; outs = omega (arith, m.outs) }) (omega (arith, m.outs)))

-- also where it was stopped, what it leaves passes its stages again
list-fine : (b : List ℕ) → first_refusal (table_stages b) ≡ none → (l : Lent) (j : ℕ) (ss : List Sent) (g : Taken) → Held b (room_of l) g → Fine b l (take_events b l (room_of l) j ss g)
unfolding take_events
list-fine b c l j [] g h = held-fine b l none g h
list-fine b c l j (s ∷ ss) g h = go (λ g h. list-fine b c l (suc j) ss g h) (ltb (room_of l - length g.outs) (announced b).outputs) refl
  where
    go : ((g : Taken) → Held b (room_of l) g → Fine b l (take_events b l (room_of l) (suc j) ss g)) → (x : Bool) → ltb (room_of l - length g.outs) (announced b).outputs ≡ x →
        Fine b l (if x then answers l (some (refusal 12 j)) g else take_events b l (room_of l) (suc j) ss (take_event b s g))
    go again true e = held-fine b l (some (refusal 12 j)) g h
    go again false e = again (take_event b s g) (take-held b c (room_of l) s g h (omega (arith, ltb-false (room_of l - length g.outs) (announced b).outputs e, h.outs)))

-- ---- the call

-- what the first i events leave
abbrev pub first_taken : List ℕ → Lent → List ℕ → ℕ → Taken
first_taken b l es i = take_all b (sent_from es 0 i) (none_taken l)

said : (b : List ℕ) (l : Lent) (es : List ℕ) (i : ℕ) {o : Outcome} {r : Option Refusal} → o ≡ answers l r (first_taken b l es i) → o.refused ≡ r
unfolding answers
said b l es i e = ap (λ (o : Outcome). o.refused) e

-- not refused: the fold over all events
pub list-fold : (b : List ℕ) (l : Lent) (es : List ℕ) → (list_call b l es).refused ≡ none → list_call b l es ≡ answers l none (first_taken b l es (events_of es))
unfolding list_call
list-fold b l es e =
    let t = tested-none (list_stages b l es) l (take_events b l (room_of l) 0 (sent_from es 0 (events_of es)) (none_taken l)) e in
    t.1 ∙ go (ends b l (room_of l) es (events_of es) 0 (none_taken l)) (subst (λ (o : Outcome). o.refused ≡ none) t.1 e)
  where
    go : Ends b l (room_of l) es 0 (events_of es) (none_taken l) → (take_events b l (room_of l) 0 (sent_from es 0 (events_of es)) (none_taken l)).refused ≡ none →
        take_events b l (room_of l) 0 (sent_from es 0 (events_of es)) (none_taken l) ≡ answers l none (first_taken b l es (events_of es))
    go (whole h) r = h
    go (stopped i x y h) r =
        let z : some (refusal 12 (0 + i)) ≡ none = sym (said b l es i h) ∙ r in
        clash (cc)

-- stopped: the number is 12, the place is the index of the first event not taken, and the rest is the fold over those before it
pub record Stopped (b : List ℕ) (l : Lent) (es : List ℕ) (r : Refusal) : Type 0 where
  pub number : r.number ≡ 12
  pub place : r.place < events_of es
  pub short : room_of l - length (first_taken b l es r.place).outs < (announced b).outputs
  pub is : list_call b l es ≡ answers l (some r) (first_taken b l es r.place)

pub list-stopped : (b : List ℕ) (l : Lent) (es : List ℕ) → first_refusal (list_stages b l es) ≡ none → (r : Refusal) → (list_call b l es).refused ≡ some r → Stopped b l es r
list-stopped b l es p r e = go (ends b l (room_of l) es (events_of es) 0 (none_taken l))
  where
    same : list_call b l es ≡ take_events b l (room_of l) 0 (sent_from es 0 (events_of es)) (none_taken l)
    same = unfold list_call in rw p

    go : Ends b l (room_of l) es 0 (events_of es) (none_taken l) → Stopped b l es r
    go (whole h) =
        let z : none ≡ some r = sym (said b l es (events_of es) (same ∙ h)) ∙ e in
        clash (cc)
    go (stopped i x y h) =
        let is : list_call b l es ≡ answers l (some (refusal 12 i)) (first_taken b l es i) = same ∙ rw (zero-add i) at h in
        let z : some (refusal 12 i) ≡ some r = sym (said b l es i is) ∙ e in
        let w : refusal 12 i ≡ r = cc in
        subst (Stopped b l es) w (record { number = refl; place = x; short = y; is = is })

-- what the stages of a list say
passed : (b : List ℕ) (l : Lent) (es : List ℕ) → first_refusal (list_stages b l es) ≡ none → (first_refusal (table_stages b) ≡ none) × Held b (room_of l) (none_taken l)
passed b l es e =
    let p = first-append (table_stages b) (marks_stages b l.marks ++ (vars_stage l.vars ∷ stage 10 (list_fails es) ∷ [])) e in
    let q = first-append (marks_stages b l.marks) (vars_stage l.vars ∷ stage 10 (list_fails es) ∷ []) p.1 in
    (p.0, none-held b l (room_of l) q.0 (enough-vars l.vars (stage 10 (list_fails es) ∷ []) q.1))

-- a list that passes its stages, with room for every event at the announced size, is never stopped
pub list-never-stopped : (b : List ℕ) (l : Lent) (es : List ℕ) → first_refusal (list_stages b l es) ≡ none → events_of es * (announced b).outputs ≤ room_of l → (list_call b l es).refused ≡ none
unfolding list_call
list-never-stopped b l es e r =
    let p = passed b l es e in
    rw e (said b l es (events_of es) (takes_all b p.0 l (room_of l) es (events_of es) 0 (none_taken l) p.1 (omega arith)))

-- what a list leaves passes its stages again, also where it was stopped
pub list-call : (b : List ℕ) (l : Lent) (es : List ℕ) → first_refusal (list_stages b l es) ≡ none → Fine b l (list_call b l es)
unfolding list_call
list-call b l es e =
    let p = passed b l es e in
    rw e (list-fine b p.0 l 0 (sent_from es 0 (events_of es)) (none_taken l) p.1)

-- any other refusal leaves all as it was
pub list-refused : (b : List ℕ) (l : Lent) (es : List ℕ) (r : Refusal) → first_refusal (list_stages b l es) ≡ some r → list_call b l es ≡ refuse l r
unfolding list_call
list-refused b l es r e = rw e
