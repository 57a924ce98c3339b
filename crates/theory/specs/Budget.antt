-- The one law of costs: what is spent and what may still come stays within a budget, through nested steps, pushes and pops.
-- Steps, internal events and outputs are three readings of it.
use Rattle.std.specs.Prelude.{◌≡◌, refl, false, ℕ, zero, suc, ◌+◌, ◌*◌, ◌≤◌, length}
use Rattle.std.proofs.Math.Path.{ap}
use Rattle.std.proofs.Common.{subst, arith}
use Rattle.std.proofs.Math.Option.{Option, none, some}
use Rattle.rules.specs.Tree.{Tree, input, internal}
use Rattle.rules.specs.Memory.{Deed, does, quiet, raises}
use Rattle.rules.specs.Step.{Description, Event, awake, pop, push, step, wakes}
use Rattle.rules.specs.Run.{Count, Ran, run, tally}
use Rattle.theory.specs.Memory.{effect-outs}
use Rattle.theory.specs.Program.{Good}
use Rattle.theory.specs.Measure.{tree_cost, event_cost, step_cost}
use Rattle.theory.specs.StepLowers.{Lowers, LowersO, lowers}
use Rattle.theory.specs.EventAdds.{Woken, woken}
use Rattle.theory.specs.Relation.{goes-nest}
use Rattle.theory.specs.Steps.{Steps, pushes, pops, inside, stepped, step-is-rule}
use Rattle.theory.specs.ProgramCost.{act-weight}

-- an event of the program itself
abbrev pub Own : Option Event → Type 0
Own none = Unit {0}
Own (some v) = v.source ≡ internal

input-sleeps : (v : Event) → v.source ≡ internal → (i e : ℕ) → wakes v i input e ≡ false
input-sleeps v h i e = rw h

-- ---- a step weighs s, an output o, an internal event h; A bounds what a push adds
module _ (s o h A : ℕ) where
  -- a push with its pop
  abbrev pub due : ℕ
  due = A + 2 * s

  -- an emit is to pay for its push
  abbrev pub emit_weight : ℕ
  emit_weight = due + h

  -- what a pending event is still to cost
  abbrev pub owes : Option Event → ℕ
  owes none = 0
  owes (some v) = due

  abbrev pub spent : Description → Count → ℕ
  spent d c = s * c.steps + o * length d.memory.outs + h * c.emitted

  abbrev pub to_come : Description → ℕ
  to_come d = tree_cost s emit_weight o d.tree + owes d.pending + s * d.level

  -- at most K in all
  pub record InBudget (K : ℕ) (d : Description) (c : Count) : Type 0 where
    pub good : Good d.tree
    pub small : event_cost s emit_weight o d.tree ≤ A
    pub ours : Own d.pending
    pub most : spent d c + to_come d ≤ K

  nested-budget : (K : ℕ) (d : Description) (c : Count) (w : Deed) (t : Tree) → d.pending ≡ none → InBudget K d c → Lowers s emit_weight o d.tree (step_cost s emit_weight o w) t → InBudget K (stepped w t d) (tally (stepped w t d) c)
  unfolding step_cost
  nested-budget K d c quiet t e f l =
      record { good = l.good; small = omega (arith, l.adding, f.small); ours = tt; most = omega (arith, l.less, f.most, ap owes e, ap (λ m. o * m) (effect-outs quiet d.memory)) }
  nested-budget K d c (does a v k) t e f l =
      record { good = l.good; small = omega (arith, l.adding, f.small); ours = tt; most = omega (arith, l.less, f.most, ap owes e, act-weight s emit_weight o a, ap (λ m. o * m) (effect-outs (does a v k) d.memory)) }
  nested-budget K d c (raises b y) t e f l =
      record { good = l.good; small = omega (arith, l.adding, f.small); ours = refl; most = omega (arith, l.less, f.most, ap owes e, ap (λ m. o * m) (effect-outs (raises b y) d.memory)) }

  pop-budget : (K : ℕ) (d : Description) (c : Count) (n : ℕ) → d.level ≡ suc n → d.pending ≡ none → InBudget K d c → InBudget K (pop n d) (tally (pop n d) c)
  pop-budget K d c n e p f = record { good = f.good; small = f.small; ours = tt; most = omega (arith, f.most, ap (λ m. s * m) e, ap owes p) }

  push-budget : (K : ℕ) (d : Description) (c : Count) (v : Event) → d.pending ≡ some v → v.source ≡ internal → InBudget K d c → InBudget K (push v d) (tally (push v d) c)
  push-budget K d c v e i f =
      let x : Woken s emit_weight o d.tree (awake (wakes v) d.tree) = woken s emit_weight o (wakes v) (input-sleeps v i) d.tree f.good in
      record { good = x.good; small = omega (arith, x.adding, f.small); ours = tt; most = omega (arith, x.more, f.small, f.most, ap owes e) }

  pub budget-keeps : (K : ℕ) (d : Description) (c : Count) (d' : Description) → InBudget K d c → step d ≡ some d' → InBudget K d' (tally d' c)
  budget-keeps K d c d' f e = go (step-is-rule d d' e)
    where
      go : {d' : Description} → Steps d d' → InBudget K d' (tally d' c)
      go (pushes {v = v} p) = push-budget K d c v p (subst Own p f.ours) f
      go (pops {n = n} p l i) = pop-budget K d c n l p f
      go (inside {w = w} {t = t} p g) =
          nested-budget K d c w t p f (subst (LowersO s emit_weight o d.tree) (goes-nest d.level d.memory g) (lowers s emit_weight o d.level d.memory d.tree f.good))

abbrev Ends : Ran → Type 0
Ends r = step r.last ≡ none

-- ---- with fuel for the steps that it can still cost, a run ends
pub run_ends : (A K f : ℕ) (d : Description) (c : Count) → InBudget 1 0 0 A K d c → K ≤ c.steps + f → step (run f d c).last ≡ none
unfolding run
run_ends A K zero d c g l = go (step d) refl
  where
    go : (o : Option Description) → step d ≡ o → o ≡ none
    go none e = refl
    go (some d') e = absurd (omega (arith, (budget-keeps 1 0 0 A K d c d' g e).most))
run_ends A K (suc f) d c g l = go (λ d c g l. run_ends A K f d c g l) (step d) refl
  where
    go : ((d : Description) (c : Count) → InBudget 1 0 0 A K d c → K ≤ c.steps + f → step (run f d c).last ≡ none) → (o : Option Description) → step d ≡ o →
        Ends (elim o [ none ↦ record { last = d; count = c } | some d' ↦ run f d' (tally d' c) ])
    go again none e = e
    go again (some d') e = again d' (tally d' c) (budget-keeps 1 0 0 A K d c d' g e) (omega arith)
