-- Demand 3 on trees: a run ends at rest at level 0, with what is left of the program, within the four announced numbers.
use Rattle.std.specs.Prelude.{◌≡◌, refl, List, ℤ, length}
use Rattle.std.proofs.Math.Path.{subst}
use Rattle.std.proofs.Math.Option.{none}
use Prim.Native.Nat.{ℕ, zero, suc, ◌+◌, ◌*◌, ◌≤◌}
use native.Mathlib.Omega.{arith}
use Rattle.std.proofs.Common.{mul-le-mul_right}
use Rattle.rules.specs.Limits.{Announced, announce}
use Rattle.rules.specs.Tree.{Tree, span_of}
use Rattle.rules.specs.Step.{Description, input_event, push, step, wakes}
use Rattle.rules.specs.Run.{Count, Ran, faced, nothing_yet, run, tally}
use Rattle.theory.specs.Logic.{clash}
use Rattle.theory.specs.Program.{Program, Good, emit_count, outputs_outside, outputs_inside}
use Rattle.theory.specs.Measure.{full_cost, event_cost, tree-full}
use Rattle.theory.specs.EventAdds.{roused}
use Rattle.theory.specs.ProgramCost.{program-full, program-adds}
use Rattle.theory.specs.Budget.{run_ends, InBudget, budget-keeps, due, emit_weight}
use Rattle.theory.specs.Residue.{Left}
use Rattle.theory.specs.Progress.{Live}
use Rattle.theory.specs.Invariant.{Ok, ok-keeps, AtRest, ended, pending_count}
use Rattle.theory.specs.RunKeeps.{run-keeps}
use Rattle.theory.specs.Ready.{Ready}

-- how a run r of the program t ends, with the announced numbers a
pub record Done (t : Tree) (a : Announced) (r : Ran) : Type 0 where
  pub still : step r.last ≡ none
  pub rests : AtRest r.last
  pub of : Left t r.last.tree
  pub live : Live 0 r.last.tree
  pub steps : r.count.steps ≤ a.steps
  pub emitted : r.count.emitted ≤ a.emitted
  pub highest : r.count.highest ≤ a.highest
  pub outputs : length r.last.memory.outs ≤ a.outputs

-- after the first step, the push of the input event
abbrev after : ℕ → ℤ → Tree → List ℤ → Description
after k z u x = push (input_event k) (faced k z u x)

module _ (t : Tree) (D : ℕ) (h : Program t) where
  abbrev pub promised : Announced
  promised = announce (span_of t) (emit_count t) D (outputs_outside t) (outputs_inside t)

  pub first-ok : (k : ℕ) (z : ℤ) (u : Tree) (x : List ℤ) → Ready D t u → Ok t (faced k z u x) nothing_yet
  unfolding pending_count
  first-ok k z u x r = record { good = r.good; live = r.live; of = r.of; closed = r.closed; resting = λ a b. clash (cc); low = omega arith; high = omega arith }

  -- ---- the budgets after the first step

  module _ (g : Good t) (k : ℕ) (z : ℤ) (u : Tree) (x : List ℤ) (r : Ready D t u) where
    abbrev First : (s o h A K : ℕ) → Type 0
    First s o h A K = InBudget s o h A K (after k z u x) (tally (after k z u x) nothing_yet)

    -- what the program costs D+1 times, and one push
    first-budget : (s o h A K : ℕ) → event_cost s (emit_weight s o h A) o t ≤ A → full_cost s (emit_weight s o h A) o t * (D + 1) + due s o h A ≤ K → First s o h A K
    first-budget s o h A K a b =
        let e : ℕ = emit_weight s o h A in
        let y = roused s e o (wakes (input_event k)) u r.good in
        record { good = y.good; small = omega (arith, y.adding, r.adding s e o); ours = tt; most = omega (arith, y.more, tree-full s e o (after k z u x).tree, r.most s e o, r.adding s e o) }

    -- steps: 5N(D+1), and N+2 for each of the 1+X pushes
    steps-budget : First 1 0 0 (span_of t) promised.steps
    steps-budget =
        let e : ℕ = emit_weight 1 0 0 (span_of t) in
        first-budget 1 0 0 (span_of t) promised.steps (omega (arith, program-adds 1 e 0 t h g)) (omega (arith, mul-le-mul_right (D + 1) (program-full 1 e 0 t h)))

    -- internal events: X = E(D+1)
    emitted-budget : First 0 0 1 0 promised.emitted
    emitted-budget =
        let e : ℕ = emit_weight 0 0 1 0 in
        first-budget 0 0 1 0 promised.emitted (omega (arith, program-adds 0 e 0 t h g)) (omega (arith, mul-le-mul_right (D + 1) (program-full 0 e 0 t h)))

    -- outputs: P(D+1), and Q for each of the 1+X pushes
    outputs-budget : First 0 1 0 (outputs_inside t) promised.outputs
    outputs-budget =
        let e : ℕ = emit_weight 0 1 0 (outputs_inside t) in
        first-budget 0 1 0 (outputs_inside t) promised.outputs (omega (arith, program-adds 0 e 1 t h g)) (omega (arith, mul-le-mul_right (D + 1) (program-full 0 e 1 t h)))

    -- ---- the run, from its first step on

    pushed-done : (f : ℕ) → promised.steps ≡ suc f → Done t promised (run (suc f) (faced k z u x) nothing_yet)
    unfolding run step
    pushed-done f q =
        let d : Description = after k z u x in
        let c : Count = tally d nothing_yet in
        let N : ℕ = span_of t in
        let Q : ℕ = outputs_inside t in
        let S : ℕ = promised.steps in
        let X : ℕ = promised.emitted in
        let O : ℕ = promised.outputs in
        let k1 = run-keeps (InBudget 1 0 0 N S) (budget-keeps 1 0 0 N S) f d c steps-budget in
        let k2 = run-keeps (InBudget 0 0 1 0 X) (budget-keeps 0 0 1 0 X) f d c emitted-budget in
        let k3 = run-keeps (InBudget 0 1 0 Q O) (budget-keeps 0 1 0 Q O) f d c outputs-budget in
        let k4 = run-keeps (Ok t) (ok-keeps t h) f d c (ok-keeps t h (faced k z u x) nothing_yet d (first-ok k z u x r) refl) in
        let e = run_ends N S f d c steps-budget (omega arith) in
        let w = ended t (run f d c).last (run f d c).count k4 e in
        record {
          still = e;
          rests = w;
          of = k4.of;
          live = subst (λ n. Live n (run f d c).last.tree) w.grounded k4.live;
          steps = omega (arith, k1.most);
          emitted = omega (arith, k2.most);
          highest = omega (arith, k2.most, k4.high);
          outputs = omega (arith, k3.most);
        }

    pub complete : Done t promised (run promised.steps (faced k z u x) nothing_yet)
    complete = go promised.steps refl
      where
        go : (n : ℕ) → promised.steps ≡ n → Done t promised (run n (faced k z u x) nothing_yet)
        go zero q = absurd (omega (arith, q))
        go (suc f) q = pushed-done f q
