-- The running totals that are lent change nothing else of a call, and its reactions and steps are added to them.
-- Assumes nothing.
use Rattle.std.specs.Prelude.{if◌then◌else◌}
use mathlib.Core.Path.{◌≡◌, refl, ap, ◌∙◌}
use mathlib.Core.Bool.{Bool, true, false}
use mathlib.Core.List.{List, [], ◌∷◌}
use mathlib.Core.Option.{Option, none, some}
use Prim.Native.Nat.{ℕ, suc, ◌+◌, ◌-◌, ◌/◌, ◌≤◌, min}
use native.Mathlib.Omega.{arith}
use lib.Dec.{ltb}
use lib.IntN.{ℤ}
use lib.ListN.{length}
use Rattle.rules.specs.Stages.{Refusal, first_refusal, option, refusal}
use Rattle.rules.specs.Limits.{record_bytes, top_total}
use Rattle.rules.specs.Check.{announced}
use Rattle.rules.specs.Run.{reaction}
use Rattle.rules.specs.Calls.{Outcome, Sent, Taken, Totals, answers, count_reaction, none_taken, react_call, refuse, take_event}
use Rattle.rules.specs.Lists.{list_call, sent_from, take_events}
use Rattle.calls.specs.Answers.{add_totals, counting, lent, lent_of, with_totals}
use Rattle.calls.specs.Stages.{react_stages, run_stages}

same-totals : {r s r' s' : ℕ} → r ≡ r' → s ≡ s' → ◌≡◌ {A = Totals} (record { reactions = r; steps = s }) (record { reactions = r'; steps = s' })
same-totals p q = rw (p, q)

no_more : (t : Totals) → t.reactions ≤ top_total → t.steps ≤ top_total → t ≡ add_totals t 0 0
no_more t p q = same-totals {r = t.reactions} {s = t.steps} (omega arith) (omega arith)

-- one reaction more
one_more_lem : (t : Totals) (r s n : ℕ) → count_reaction n (add_totals t r s) ≡ add_totals t (min top_total (r + 1)) (s + n)
one_more_lem t r s n = same-totals (omega arith) (omega arith)

module _ (m : List ℕ) (v : List ℤ) (o : List ℕ) (t : Totals) where
  -- ---- events taken

  abbrev with : Totals → Taken → Taken
  with y g = record { marks = g.marks; vars = g.vars; outs = g.outs; totals = y; count = g.count }

  abbrev added : Taken → Taken
  added g = with (add_totals t g.totals.reactions g.count.steps) g

  take-added : (b : List ℕ) (s : Sent) (g : Taken) → take_event b s (added g) ≡ added (take_event b s g)
  unfolding take_event
  take-added b s g =
      ap (λ (y : Totals). with y (take_event b s g)) (one_more_lem t g.totals.reactions g.count.steps (reaction b g.marks g.vars s.event s.value).count.steps)

  answers-added : (r : Option Refusal) (g : Taken) → answers (lent_of m v o t) r (added g) ≡ counting t (answers (lent m v o) r g)
  unfolding answers
  answers-added r g = refl

  module _ (low : t.reactions ≤ top_total) (low' : t.steps ≤ top_total) where
    none-added : none_taken (lent_of m v o t) ≡ added (none_taken (lent m v o))
    none-added = ap (λ (y : Totals). with y (none_taken (lent m v o))) (no_more t low low')

    refuse-added : (r : Refusal) → refuse (lent_of m v o t) r ≡ counting t (refuse (lent m v o) r)
    refuse-added r = ap (λ (y : Totals). with_totals y (refuse (lent m v o) r)) (no_more t low low')

    tested-added : (x y : Outcome) → x ≡ counting t y → (f : Option Refusal) → option x (refuse (lent_of m v o t)) f ≡ counting t (option y (refuse (lent m v o)) f)
    tested-added x y e none = e
    tested-added x y e (some r) = refuse-added r

    -- ---- a reaction

    pub react-any : (b : List ℕ) (s : Sent) → react_call b (lent_of m v o t) s ≡ counting t (react_call b (lent m v o) s)
    unfolding react_call
    react-any b s =
        tested-added (answers (lent_of m v o t) none (take_event b s (none_taken (lent_of m v o t)))) (answers (lent m v o) none (take_event b s (none_taken (lent m v o))))
        (ap (λ (g : Taken). answers (lent_of m v o t) none (take_event b s g)) none-added ∙ ap (answers (lent_of m v o t) none) (take-added b s (none_taken (lent m v o))) ∙ answers-added none (take_event b s (none_taken (lent m v o))))
        (first_refusal (react_stages b m v s.event o))

    -- ---- a list

    events-added : (b : List ℕ) (n j : ℕ) (ss : List Sent) (g : Taken) → take_events b (lent_of m v o t) n j ss (added g) ≡ counting t (take_events b (lent m v o) n j ss g)
    unfolding take_events
    events-added b n j [] g = answers-added none g
    events-added b n j (s ∷ ss) g = go (events-added b n (suc j) ss (take_event b s g)) (ltb (n - length g.outs) (announced b).outputs)
      where
        go : take_events b (lent_of m v o t) n (suc j) ss (added (take_event b s g)) ≡ counting t (take_events b (lent m v o) n (suc j) ss (take_event b s g)) → (x : Bool) →
            (if x then answers (lent_of m v o t) (some (refusal 12 j)) (added g) else take_events b (lent_of m v o t) n (suc j) ss (take_event b s (added g)))
            ≡ counting t (if x then answers (lent m v o) (some (refusal 12 j)) g else take_events b (lent m v o) n (suc j) ss (take_event b s g))
        go h true = answers-added (some (refusal 12 j)) g
        go h false = ap (take_events b (lent_of m v o t) n (suc j) ss) (take-added b s g) ∙ h

    pub list_any : (b es : List ℕ) → list_call b (lent_of m v o t) es ≡ counting t (list_call b (lent m v o) es)
    unfolding list_call
    list_any b es =
        let n : ℕ = length o / record_bytes in
        let ss : List Sent = sent_from es 0 (length es / record_bytes) in
        tested-added (take_events b (lent_of m v o t) n 0 ss (none_taken (lent_of m v o t))) (take_events b (lent m v o) n 0 ss (none_taken (lent m v o)))
        (ap (take_events b (lent_of m v o t) n 0 ss) none-added ∙ events-added b n 0 ss (none_taken (lent m v o)))
        (first_refusal (run_stages b m v es))
