-- The running totals of a reaction and of a list: what the covered call counts is added, and a refused call leaves them.
-- Assumes nothing.
use Rattle.std.specs.Prelude.{if◌then◌else◌, Result, Ok, Err}
use mathlib.Core.Path.{◌≡◌, refl, sym, ap, subst, ◌∙◌}
use mathlib.Core.Bool.{Bool, true, false}
use mathlib.Core.List.{List, [], ◌∷◌}
use mathlib.Core.Option.{Option, none, some}
use Prim.Native.Nat.{ℕ, suc, ◌-◌, ◌/◌, ◌≤◌}
use native.Mathlib.Omega.{arith}
use lib.Dec.{ltb}
use lib.IntN.{ℤ}
use lib.ListN.{length}
use Rattle.rules.specs.Stages.{Refusal, option, first_refusal, refusal}
use Rattle.rules.specs.Limits.{record_bytes}
use Rattle.rules.specs.Check.{announced}
use Rattle.rules.specs.Calls.{Answer, Lent, Outcome, Sent, Taken, Totals, answers, none_taken, react_call, refuse, take_event}
use Rattle.rules.specs.Lists.{list_call, sent_from, take_events}
use Rattle.theory.specs.Logic.{clash}
use Rattle.table.specs.declared.refusal.Refusal as Stopped
use Rattle.totals.specs.Sum.{totals_of, Counted}
use Rattle.totals.specs.declared.Totals as Code
use Rattle.calls.specs.Stages.{react_stages, run_stages}
use Rattle.calls.specs.Answers.{lent, lent_of, no_totals, with_totals, add_totals, counting, listed_answer, events_taken, Uncounted, Ran}
use Rattle.calls.specs.declared.Done.{Done}
use Rattle.calls.specs.declared.Listed.{Listed}
use Rattle.calls.proofs.Totals.{react-any, list_any}
use Rattle.landarbeso.specs.Answers.{flat, flat_done, flat_listed}
use Rattle.landarbeso.specs.Counted.{Meant}

-- what a call says and leaves, where it differs from one without totals in the totals alone
meant : {o : Outcome} (o₀ : Outcome) {y : Totals} → o ≡ with_totals y o₀ → {f : Option Refusal} → o₀.refused ≡ f → {a : Answer} → o₀.answer ≡ a
    → {m : List ℕ} → m ≡ o₀.lent.marks → {v : List ℤ} → v ≡ o₀.lent.vars → {x : List ℕ} → x ≡ o₀.lent.room → {t : Code.Totals} → totals_of t ≡ y → Meant o (flat f a) m v x t
meant o₀ e {f} p {a} q {m} i {v} j {x} k {t} l = subst (λ (z : Outcome). Meant z (flat f a) m v x t) (sym e) (record {
  answer = ap (λ (g : Option Refusal). flat g a) (sym p) ∙ ap (flat o₀.refused) (sym q);
  marks-are = i;
  vars-are = j;
  room-is = k;
  totals-are = l;
})

-- so many reactions and steps, as `count` adds them
added : (t : Code.Totals) {r s r' s' : ℕ} {t' : Code.Totals} → Counted t r s t' → r ≡ r' → s ≡ s' → totals_of t' ≡ add_totals (totals_of t) r' s'
added t c p q = ap totals_of c.sum ∙ (λ i. add_totals (totals_of t) (p i) (q i))

-- all that a face means, where the totals are counted
pub means : {o₀ o : Outcome} (t : Code.Totals) (r : Result Listed Stopped.Refusal) {m' : List ℕ} {v' : List ℤ} {x' : List ℕ} {t' : Code.Totals}
    → o ≡ counting (totals_of t) o₀ → Ran o₀ r m' v' x' → Counted t (events_taken r) (listed_answer r).steps t' → Meant o (flat_listed r) m' v' x' t'
means {o₀} t r e u c = meant o₀ e u.refused u.answer u.marks-are u.vars-are u.room-is (added t c u.taken (ap (λ (a : Answer). a.steps) (sym u.answer)))

-- ---- a reaction

module _ (b m : List ℕ) (v : List ℤ) (x : List ℕ) (s : Sent) where
  -- where its stages refuse nothing it takes the event
  abbrev reacted : Totals → Option Refusal → Outcome
  reacted t = let l : Lent = lent_of m v x t in option (answers l none (take_event b s (none_taken l))) (refuse l)

  takes-one : (f : Option Refusal) → (reacted no_totals f).refused ≡ none → 1 ≡ (reacted no_totals f).lent.totals.reactions
  unfolding answers take_event
  takes-one none e = refl
  takes-one (some r) e = clash (cc)

  refusal-leaves : (t : Totals) (f : Option Refusal) {r : Refusal} → (reacted no_totals f).refused ≡ some r → reacted t f ≡ with_totals t (reacted no_totals f)
  unfolding answers
  refusal-leaves t none e = clash (cc)
  refusal-leaves t (some r) e = refl

  module _ (t : Code.Totals) {m' : List ℕ} {v' : List ℤ} {x' : List ℕ} where
    pub reaction-refused : {r : Stopped.Refusal} → Uncounted (react_call b (lent m v x) s) (Err r) m' v' x' → Meant (react_call b (lent_of m v x (totals_of t)) s) (flat_done (Err r)) m' v' x' t
    unfolding react_call
    reaction-refused u = meant (react_call b (lent m v x) s) (refusal-leaves (totals_of t) (first_refusal (react_stages b m v s.event x)) u.refused) u.refused u.answer u.marks-are u.vars-are u.room-is refl

    pub reaction-counted : {d : Done} {t' : Code.Totals} → Uncounted (react_call b (lent m v x) s) (Ok d) m' v' x' → Counted t 1 d.steps t' → Meant (react_call b (lent_of m v x (totals_of t)) s) (flat_done (Ok d)) m' v' x' t'
    unfolding react_call
    reaction-counted u c =
        let one = takes-one (first_refusal (react_stages b m v s.event x)) u.refused in
        meant (react_call b (lent m v x) s) (react-any m v x (totals_of t) c.reactions-fit c.steps-fit b s) u.refused u.answer u.marks-are u.vars-are u.room-is
        (added t c one (ap (λ (a : Answer). a.steps) (sym u.answer)))

-- ---- a list

module _ (b m : List ℕ) (v : List ℤ) (x : List ℕ) where
  -- once a reaction is counted it stays so
  counted-stays : (l : Lent) (n j : ℕ) (ss : List Sent) (g : Taken) → 1 ≤ g.totals.reactions → 1 ≤ (take_events b l n j ss g).lent.totals.reactions
  unfolding take_events answers
  counted-stays l n j [] g h = h
  counted-stays l n j (s ∷ ss) g h = go (counted-stays l n (suc j) ss (take_event b s g) (unfold take_event in omega arith)) (ltb (n - length g.outs) (announced b).outputs)
    where
      go : 1 ≤ (take_events b l n (suc j) ss (take_event b s g)).lent.totals.reactions → (y : Bool) →
          1 ≤ (if y then answers l (some (refusal 12 j)) g else take_events b l n (suc j) ss (take_event b s g)).lent.totals.reactions
      go k true = h
      go k false = k

  none-leaves : (t : Totals) (n j : ℕ) (ss : List Sent) → 0 ≡ (take_events b (lent m v x) n j ss (none_taken (lent m v x))).lent.totals.reactions →
      take_events b (lent_of m v x t) n j ss (none_taken (lent_of m v x t)) ≡ with_totals t (take_events b (lent m v x) n j ss (none_taken (lent m v x)))
  unfolding take_events answers
  none-leaves t n j [] e = refl
  none-leaves t n j (s ∷ ss) e =
      go (ltb (n - 0) (announced b).outputs) (counted-stays (lent m v x) n (suc j) ss (take_event b s (none_taken (lent m v x))) (unfold take_event in omega arith)) e
    where
      ends : Totals → Bool → Outcome
      ends y z =
          let l : Lent = lent_of m v x y in
          if z then answers l (some (refusal 12 j)) (none_taken l) else take_events b l n (suc j) ss (take_event b s (none_taken l))

      go : (z : Bool) → 1 ≤ (ends no_totals false).lent.totals.reactions → 0 ≡ (ends no_totals z).lent.totals.reactions → ends t z ≡ with_totals t (ends no_totals z)
      go true k h = refl
      go false k h = absurd (omega arith)

  -- where its stages refuse nothing it takes the events, one after the other
  module _ (es : List ℕ) where
    abbrev ran : Totals → Option Refusal → Outcome
    ran t = let l : Lent = lent_of m v x t in option (take_events b l (length x / record_bytes) 0 (sent_from es 0 (length es / record_bytes)) (none_taken l)) (refuse l)

    list-leaves : (t : Totals) (f : Option Refusal) → 0 ≡ (ran no_totals f).lent.totals.reactions → ran t f ≡ with_totals t (ran no_totals f)
    list-leaves t none e = none-leaves t (length x / record_bytes) 0 (sent_from es 0 (length es / record_bytes)) e
    list-leaves t (some r) e = refl

    module _ (t : Code.Totals) {m' : List ℕ} {v' : List ℤ} {x' : List ℕ} where
      pub list-refused : {r : Stopped.Refusal} → Ran (list_call b (lent m v x) es) (Err r) m' v' x' → Meant (list_call b (lent_of m v x (totals_of t)) es) (flat_listed (Err r)) m' v' x' t
      unfolding list_call
      list-refused u = meant (list_call b (lent m v x) es) (list-leaves (totals_of t) (first_refusal (run_stages b m v es)) u.taken) u.refused u.answer u.marks-are u.vars-are u.room-is refl

      pub list-counted : {l : Listed} {t' : Code.Totals} → Ran (list_call b (lent m v x) es) (Ok l) m' v' x' → Counted t l.taken l.done.steps t' → Meant (list_call b (lent_of m v x (totals_of t)) es) (flat_listed (Ok l)) m' v' x' t'
      list-counted u c =
          meant (list_call b (lent m v x) es) (list_any m v x (totals_of t) c.reactions-fit c.steps-fit b es) u.refused u.answer u.marks-are u.vars-are u.room-is
          (added t c u.taken (ap (λ (a : Answer). a.steps) (sym u.answer)))
