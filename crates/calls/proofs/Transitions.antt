-- The steps of an answer are the pushes, pops and nested steps of the definition, and lie under the announced bound.
-- Assumes nothing.
use mathlib.Core.Path.{◌≡◌, refl, sym, ap, subst, ◌∙◌}
use mathlib.Core.List.{List}
use mathlib.Core.Option.{Option, none, some}
use Prim.Native.Nat.{ℕ, zero, suc, ◌+◌, ◌≤◌}
use native.Mathlib.Omega.{arith}
use lib.IntN.{pos}
use Rattle.rules.specs.Table.{program_of}
use Rattle.rules.specs.Check.{announced}
use Rattle.rules.specs.Marks.{at_rest}
use Rattle.rules.specs.Step.{Description, step}
use Rattle.rules.specs.Run.{Count, Ran, faced, nothing_yet, reaction, run, start, tally}
use Rattle.rules.specs.Calls.{Lent, Outcome, Sent, answers, join_run, none_taken, react_call, start_call, take_event}
use Rattle.theory.proofs.Calls.{react-fine, start_fine, tested-none}
use Rattle.calls.specs.Stages.{react_stages, start_stages}

-- so many steps lead from one description to another
pub data Transitions : ℕ → Description → Description → Type 0 where
  there : {d : Description} → Transitions zero d d
  through : {n : ℕ} {d d' d'' : Description} → step d ≡ some d' → Transitions n d' d'' → Transitions (suc n) d d''

-- a run that counted c before makes as many as it counts more
record Makes (d : Description) (c : Count) (r : Ran) : Type 0 where
  number : ℕ
  made : Transitions number d r.last
  sum : r.count.steps ≡ c.steps + number

run-makes : (f : ℕ) (d : Description) (c : Count) → Makes d c (run f d c)
unfolding run
run-makes zero d c = record { number = 0; made = there; sum = omega arith }
run-makes (suc f) d c = go (λ e. run-makes f e (tally e c)) (step d) refl
  where
    go : ((e : Description) → Makes e (tally e c) (run f e (tally e c))) → (o : Option Description) → step d ≡ o → Makes d c (elim o [ none ↦ record { last = d; count = c } | some e ↦ run f e (tally e c) ])
    go h none e = record { number = 0; made = there; sum = omega arith }
    go h (some d') e = record { number = suc (h d').number; made = through e (h d').made; sum = omega (arith, (h d').sum) }

run-counts : (f : ℕ) (d : Description) → Transitions (run f d nothing_yet).count.steps d (run f d nothing_yet).last
run-counts f d =
    let h = run-makes f d nothing_yet in
    let e : h.number ≡ (run f d nothing_yet).count.steps = omega (arith, h.sum) in
    subst (λ n. Transitions n d (run f d nothing_yet).last) e h.made

-- the steps of an answer, of a run from d
pub record Counts (o : Outcome) (most : ℕ) (d d' : Description) : Type 0 where
  pub transitions : Transitions o.answer.steps d d'
  pub bounded : o.answer.steps ≤ most

zero-first : (n : ℕ) → n ≡ 0 + n
zero-first n = omega arith

module _ (b : List ℕ) (l : Lent) (s : Sent) (e : (react_call b l s).refused ≡ none) where
  abbrev met : Description
  met = faced s.event s.value (at_rest l.marks (program_of b)) l.vars

  react-same : (reaction b l.marks l.vars s.event s.value).count.steps ≡ (react_call b l s).answer.steps
  unfolding react_call answers take_event
  react-same =
      zero-first (reaction b l.marks l.vars s.event s.value).count.steps
      ∙ sym (ap (λ (o : Outcome). o.answer.steps) (tested-none (react_stages b l.marks l.vars s.event l.room) l (answers l none (take_event b s (none_taken l))) e).1)

  react-run : Transitions (reaction b l.marks l.vars s.event s.value).count.steps met (reaction b l.marks l.vars s.event s.value).last
  unfolding reaction
  react-run = run-counts (announced b).steps met

  pub react-steps : Counts (react_call b l s) (announced b).steps met (reaction b l.marks l.vars s.event s.value).last
  react-steps = record {
    transitions = subst (λ n. Transitions n met (reaction b l.marks l.vars s.event s.value).last) react-same react-run;
    bounded = (react-fine b l s e).1.steps;
  }

module _ (b : List ℕ) (l : Lent) (e : (start_call b l).refused ≡ none) where
  start-same : (start b l.vars).count.steps ≡ (start_call b l).answer.steps
  unfolding start_call answers
  start-same =
      zero-first (start b l.vars).count.steps
      ∙ sym (ap (λ (o : Outcome). o.answer.steps) (tested-none (start_stages b l.marks l.vars l.room) l (answers l none (join_run b l.totals (start b l.vars) (none_taken l))) e).1)

  start-run : Transitions (start b l.vars).count.steps (faced 0 (pos 0) (program_of b) l.vars) (start b l.vars).last
  unfolding start
  start-run = run-counts (announced b).steps (faced 0 (pos 0) (program_of b) l.vars)

  pub start-steps : Counts (start_call b l) (announced b).steps (faced 0 (pos 0) (program_of b) l.vars) (start b l.vars).last
  start-steps = record {
    transitions = subst (λ n. Transitions n (faced 0 (pos 0) (program_of b) l.vars) (start b l.vars).last) start-same start-run;
    bounded = (start_fine b l e).1.steps;
  }
