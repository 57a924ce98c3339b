-- A reaction by whole runs: an emit pushes, a run that ended or blocked pops. It is the reaction by single steps.
use Rattle.std.specs.Prelude.{◌≡◌, List, [], T, ℤ, pos, set}
use Rattle.std.proofs.Math.Path.{refl, sym, ap, subst}
use Rattle.std.proofs.Common.{◌∙◌, arith}
use Rattle.std.proofs.Math.Option.{Option, none, some}
use Prim.Native.Nat.{ℕ, zero, suc, ◌+◌, ◌≤◌, max}
use Rattle.rules.specs.Stages.{first_refusal}
use Rattle.rules.specs.Limits.{Announced}
use Rattle.rules.specs.Tree.{Tree}
use Rattle.rules.specs.Table.{program_of}
use Rattle.rules.specs.Check.{accepted, announced, check}
use Rattle.rules.specs.Marks.{at_rest, marks_stages}
use Rattle.rules.specs.Memory.{Deed, Memory, effect}
use Rattle.rules.specs.Step.{Description, awake, blocked, front, input_event, internal_event, is_done, nop_or_blocked, raised, step, wakes}
use Rattle.rules.specs.Run.{Count, Ran, faced, nothing_yet, reaction, run, start, tally}
use Rattle.theory.specs.Logic.{clash, or_right}
use Rattle.theory.specs.Program.{Program, loose}
use Rattle.theory.specs.Relation.{Goes}
use Rattle.theory.specs.Steps.{pushes, pops, inside, rule-is-step}
use Rattle.theory.specs.RunKeeps.{run-keeps}
use Rattle.theory.specs.Invariant.{Ok, ok-keeps, idle-stuck, ended}
use Rattle.theory.specs.Ready.{ready-rest, ready-start}
use Rattle.theory.proofs.DemandOnTrees.{first-ok}
use Rattle.theory.proofs.Accepted.{accepts, fitting}
use Rattle.theory.proofs.DemandProof.{reaction-ends, start-ends}
use Rattle.theory.specs.Big.{Fate, ends, breaks, waits, amiss, rings, Out, resume, Chain, c-done, c-step, Over, over, Fallen, fallen, Rung, Meets, resume-is}

-- ---- runs of single steps

-- a description with no event pending
abbrev pub calm_at : ℕ → Tree → Memory → Description
calm_at n t m = record { tree = t; level = n; pending = none; memory = m }

-- j steps more
abbrev pub ticks : ℕ → Count → Count
ticks j c = record { steps = c.steps + j; emitted = c.emitted; highest = c.highest }

pub run_step : (f : ℕ) (d d' : Description) (c : Count) → step d ≡ some d' → run (suc f) d c ≡ run f d' (tally d' c)
unfolding run
run_step f d d' c e = rw (e, run)

pub run-still : (f : ℕ) (d : Description) (c : Count) → step d ≡ none → run f d c ≡ record { last = d; count = c }
unfolding run
run-still zero d c e = refl
run-still (suc f) d c e = rw (e, run)

-- where a run has ended, more fuel changes nothing
pub run_more : (f g : ℕ) (d : Description) (c : Count) → step (run f d c).last ≡ none → run (f + g) d c ≡ run f d c
run_more zero g d c e = unfold run in run-still (zero + g) d c (unfold run in e)
run_more (suc f) g d c e = go (λ d c e. run_more f g d c e) (step d) refl
  where
    go : ((d : Description) (c : Count) → step (run f d c).last ≡ none → run (f + g) d c ≡ run f d c) → (o : Option Description) → step d ≡ o → run (suc f + g) d c ≡ run (suc f) d c
    go again none x = run-still (suc f + g) d c x ∙ sym (run-still (suc f) d c x)
    go again (some d') x =
        let y = run_step f d d' c x in
        let s : suc f + g ≡ suc (f + g) = omega arith in
        rw s (run_step (f + g) d d' c x ∙ again d' (tally d' c) (subst (λ r. step r.last ≡ none) y e) ∙ sym y)

-- j steps lead from d to d'
abbrev pub Leads : ℕ → Description → Count → Description → Count → Type 0
Leads j d c d' c' = (g : ℕ) → run (j + g) d c ≡ run g d' c'

leads_one : (d d' : Description) (c : Count) → step d ≡ some d' → Leads 1 d c d' (tally d' c)
leads_one d d' c e g = let s : 1 + g ≡ suc g = omega arith in rw s (run_step g d d' c e)

leads-on : (i j k : ℕ) (d d₁ d₂ : Description) (c c₁ c₂ : Count) → k ≡ i + j → Leads i d c d₁ c₁ → Leads j d₁ c₁ d₂ c₂ → Leads k d c d₂ c₂
leads-on i j k d d₁ d₂ c c₁ c₂ e x y g = let s : k + g ≡ i + (j + g) = omega arith in rw s (x (j + g) ∙ y g)

count-is : (a b x y p q : ℕ) → a ≡ b → x ≡ y → p ≡ q → ◌≡◌ {A = Count} (record { steps = a; emitted = x; highest = p }) (record { steps = b; emitted = y; highest = q })
count-is a b x y p q e f g = rw (e, f, g)

step-goes : {n : ℕ} {t t' : Tree} {m : Memory} {w : Deed} → Goes (suc n) m t w t' → step (calm_at (suc n) t m) ≡ some (record { tree = t'; level = suc n; pending = raised w; memory = effect w m })
step-goes s = rule-is-step (inside refl s)

-- a chain of the rules
pub chain-leads : {n j : ℕ} {t t' : Tree} {m m' : Memory} (c : Count) → suc n ≤ c.highest → Chain (suc n) t m t' m' j → Leads j (calm_at (suc n) t m) c (calm_at (suc n) t' m') (ticks j c)
chain-leads {n = n} {t = t} {m = m} c h c-done =
    let e : ticks 0 c ≡ c = count-is (c.steps + 0) c.steps c.emitted c.emitted c.highest c.highest (omega arith) refl refl in
    λ g. let s : 0 + g ≡ g = omega arith in rw (s, e)
chain-leads {n = n} {t = t} {t' = t''} {m = m} {m' = m''} c h (c-step {t' = t'} {w = w} {i = i} {j = j} s r d e) =
    let d₁ : Description = calm_at (suc n) t' (effect w m) in
    let one : step (calm_at (suc n) t m) ≡ some d₁ = subst (λ o. step (calm_at (suc n) t m) ≡ some (record { tree = t'; level = suc n; pending = o; memory = effect w m })) r (step-goes s) in
    let k : tally d₁ c ≡ ticks 1 c = count-is (suc c.steps) (c.steps + 1) c.emitted c.emitted (max c.highest (suc n)) c.highest (omega arith) refl (omega arith) in
    let l : ticks j (ticks 1 c) ≡ ticks i c = count-is (c.steps + 1 + j) (c.steps + i) c.emitted c.emitted c.highest c.highest (omega arith) refl refl in
    leads-on 1 j i (calm_at (suc n) t m) d₁ (calm_at (suc n) t'' m'') c (ticks 1 c) (ticks i c) (omega arith)
    (subst (λ x. Leads 1 (calm_at (suc n) t m) c d₁ x) k (leads_one (calm_at (suc n) t m) d₁ c one))
    (subst (λ x. Leads j d₁ (ticks 1 c) (calm_at (suc n) t'' m'') x) l (chain-leads (ticks 1 c) h d))

-- ---- a reaction by whole runs

-- the counts after a run of j steps and a pop; after one of j steps with an emit and a push to level n
abbrev pub popped : ℕ → Count → Count
popped j c = ticks (j + 1) c

abbrev pub pushed : ℕ → ℕ → Count → Count
pushed j n c = record { steps = c.steps + (j + 1); emitted = suc c.emitted; highest = max c.highest n }

-- by the fate of the run at level suc n
unfoldable pub turn : ℕ → Fate → Out → Count → (ℕ → Tree → Memory → Count → Ran) → Ran
turn n ends o c again = again n o.tree o.mem (popped o.steps c)
turn n breaks o c again = record { last = calm_at (suc n) o.tree o.mem; count = ticks o.steps c }
turn n waits o c again = again n o.tree o.mem (popped o.steps c)
turn n amiss o c again = record { last = calm_at (suc n) o.tree o.mem; count = c }
turn n (rings e) o c again = again (suc (suc n)) (awake (wakes (internal_event e)) o.tree) o.mem (pushed o.steps (suc (suc n)) c)

-- f runs at most; at level 0 it has ended
unfoldable pub big : ℕ → ℕ → Tree → Memory → Count → Ran
unfolding turn resume awake
big zero n t m c = record { last = calm_at n t m; count = c }
big (suc f) zero t m c = record { last = calm_at zero t m; count = c }
big (suc f) (suc n) t m c = turn n (resume (suc n) t m).fate (resume (suc n) t m) c (big f)

-- ---- a turn leads on

pub grounded : (t : Tree) (m : Memory) → T (nop_or_blocked 0 t) → step (calm_at 0 t m) ≡ none
unfolding step
grounded t m h = rw (idle-stuck 0 m t h)

pub step-pop : (n : ℕ) (t : Tree) (m : Memory) → T (nop_or_blocked (suc n) t) → step (calm_at (suc n) t m) ≡ some (calm_at n t m)
step-pop n t m h = rule-is-step (pops refl refl h)

-- after a chain, a pop
chain-pop : (n j : ℕ) (t t' : Tree) (m m' : Memory) (c : Count) → suc n ≤ c.highest → Chain (suc n) t m t' m' j → T (nop_or_blocked (suc n) t') → Leads (j + 1) (calm_at (suc n) t m) c (calm_at n t' m') (popped j c)
chain-pop n j t t' m m' c h d i =
    let k : tally (calm_at n t' m') (ticks j c) ≡ popped j c = count-is (suc (c.steps + j)) (c.steps + (j + 1)) c.emitted c.emitted (max c.highest n) c.highest (omega arith) refl (omega arith) in
    leads-on j 1 (j + 1) (calm_at (suc n) t m) (calm_at (suc n) t' m') (calm_at n t' m') c (ticks j c) (popped j c) refl (chain-leads c h d)
    (subst (λ x. Leads 1 (calm_at (suc n) t' m') (ticks j c) (calm_at n t' m') x) k (leads_one (calm_at (suc n) t' m') (calm_at n t' m') (ticks j c) (step-pop n t' m' i)))

-- after a chain, an emit and a push
chain-push : (n j e : ℕ) (t t' : Tree) (m m' : Memory) (c : Count) → suc n ≤ c.highest → Rung (suc n) e t m t' m' j → Leads (j + 1) (calm_at (suc n) t m) c (calm_at (suc (suc n)) (awake (wakes (internal_event e)) t') m') (pushed j (suc (suc n)) c)
chain-push n j e t t' m m' c h r =
    let d₁ : Description = calm_at (suc n) r.at r.mem in
    let d₂ : Description = record { tree = t'; level = suc n; pending = some (internal_event e); memory = m' } in
    let d₃ : Description = calm_at (suc (suc n)) (awake (wakes (internal_event e)) t') m' in
    let c₁ : Count = ticks r.before c in
    let c₂ : Count = tally d₂ c₁ in
    let emits-to : step d₁ ≡ some d₂ = subst (λ x. step d₁ ≡ some (record { tree = t'; level = suc n; pending = some (internal_event e); memory = x })) (sym r.memory) (step-goes r.emits-now) in
    let pushes-to : step d₂ ≡ some d₃ = rule-is-step (pushes refl) in
    let k : tally d₃ c₂ ≡ pushed j (suc (suc n)) c =
    count-is (suc (suc (c.steps + r.before))) (c.steps + (j + 1)) (suc c.emitted) (suc c.emitted) (max (max c.highest (suc n)) (suc (suc n))) (max c.highest (suc (suc n))) (omega (arith, r.count)) refl (omega arith) in
    leads-on r.before 2 (j + 1) (calm_at (suc n) t m) d₁ d₃ c c₁ (pushed j (suc (suc n)) c) (omega (arith, r.count)) (chain-leads c h r.chain)
    (leads-on 1 1 2 d₁ d₂ d₃ c₁ c₂ (pushed j (suc (suc n)) c) refl (leads_one d₁ d₂ c₁ emits-to) (subst (λ x. Leads 1 d₂ c₂ d₃ x) k (leads_one d₂ d₃ c₂ pushes-to)))

-- ---- the two agree

over-idle : (n : ℕ) {t : Tree} → Over t → T (nop_or_blocked n t)
unfolding front
over-idle n over = tt

fallen-loose : {t : Tree} → Fallen t → T (loose t)
unfolding loose
fallen-loose fallen = tt

steps-grow : (f : ℕ) (d : Description) (c : Count) → c.steps ≤ (run f d c).count.steps
steps-grow f d c = run-keeps (λ d' c'. c.steps ≤ c'.steps) (λ d₁ c₁ d₂ h e. omega (arith, h)) f d c (omega arith)

module _ (p : Tree) (h : Program p) where
  -- what holds of a description holds where its steps lead
  arrives : (j : ℕ) (d d' : Description) (c c' : Count) → Leads j d c d' c' → Ok p d c → Ok p d' c'
  arrives j d d' c c' l k =
      let e : run (j + 0) d c ≡ record { last = d'; count = c' } = unfold run in l 0 in
      subst (λ r. Ok p r.last r.count) e (run-keeps (Ok p) (ok-keeps p h) (j + 0) d c k)

  -- the claim for big with fuel f: where the steps come to an end, big comes to the same
  unfoldable pub Agrees : ℕ → Type 0
  unfolding big
  Agrees f = (g n : ℕ) (t : Tree) (m : Memory) (c : Count) → Ok p (calm_at n t m) c → n ≤ c.highest → step (run g (calm_at n t m) c).last ≡ none → (run g (calm_at n t m) c).count.steps ≤ c.steps + f → big f n t m c ≡ run g (calm_at n t m) c

  -- where steps lead on, the rest of the run is the same
  rest-same : (j g : ℕ) (d d' : Description) (c c' : Count) → Leads j d c d' c' → step (run g d c).last ≡ none → run g d' c' ≡ run g d c
  rest-same j g d d' c c' l e = let s : j + g ≡ g + j = omega arith in sym (l g) ∙ rw s (run_more g j d c e)

  onwards : (f g j n n' : ℕ) (t t' : Tree) (m m' : Memory) (c c' : Count) → Agrees f → Leads j (calm_at n t m) c (calm_at n' t' m') c' → Ok p (calm_at n t m) c → n' ≤ c'.highest → c.steps + 1 ≤ c'.steps →
      step (run g (calm_at n t m) c).last ≡ none → (run g (calm_at n t m) c).count.steps ≤ c.steps + suc f → big f n' t' m' c' ≡ run g (calm_at n t m) c
  unfolding Agrees
  onwards f g j n n' t t' m m' c c' again l k q s e b =
      let x = rest-same j g (calm_at n t m) (calm_at n' t' m') c c' l e in
      again g n' t' m' c' (arrives j (calm_at n t m) (calm_at n' t' m') c c' l k) q (subst (λ r. step r.last ≡ none) (sym x) e) (omega (arith, ap (λ r. r.count.steps) x)) ∙ x

  turns : (f g n : ℕ) (t : Tree) (m : Memory) (c : Count) → Agrees f → Ok p (calm_at (suc n) t m) c → suc n ≤ c.highest → step (run g (calm_at (suc n) t m) c).last ≡ none → (run g (calm_at (suc n) t m) c).count.steps ≤ c.steps + suc f →
      (w : Fate) (o : Out) → Meets (suc n) t m w o.tree o.mem o.steps → turn n w o c (big f) ≡ run g (calm_at (suc n) t m) c
  unfolding turn
  turns f g n t m c again k q e b ends o z =
      onwards f g (o.steps + 1) (suc n) n t o.tree m o.mem c (popped o.steps c) again
      (chain-pop n o.steps t o.tree m o.mem c q z.0 (over-idle (suc n) z.1)) k (omega arith) (omega arith) e b
  turns f g n t m c again k q e b breaks o z =
      absurd ((arrives o.steps (calm_at (suc n) t m) (calm_at (suc n) o.tree o.mem) c (ticks o.steps c) (chain-leads c q z.0) k).closed (fallen-loose z.1))
  turns f g n t m c again k q e b waits o z =
      onwards f g (o.steps + 1) (suc n) n t o.tree m o.mem c (popped o.steps c) again
      (chain-pop n o.steps t o.tree m o.mem c q z.0 (or_right (is_done (front o.tree)) (blocked (suc n) o.tree) z.1)) k (omega arith) (omega arith) e b
  turns f g n t m c again k q e b amiss o z = absurd z
  turns f g n t m c again k q e b (rings v) o z =
      onwards f g (o.steps + 1) (suc n) (suc (suc n)) t (awake (wakes (internal_event v)) o.tree) m o.mem c (pushed o.steps (suc (suc n)) c) again
      (chain-push n o.steps v t o.tree m o.mem c q z) k (omega arith) (omega arith) e b

  -- above level 0 a step is always left
  higher : (n : ℕ) (t : Tree) (m : Memory) (c : Count) → Ok p (calm_at (suc n) t m) c → step (calm_at (suc n) t m) ≡ none → ⊥
  higher n t m c k e = omega (arith, (ended p (calm_at (suc n) t m) c k e).grounded)

  unended : (g n : ℕ) (t : Tree) (m : Memory) (c : Count) → Ok p (calm_at (suc n) t m) c → step (run g (calm_at (suc n) t m) c).last ≡ none → (run g (calm_at (suc n) t m) c).count.steps ≤ c.steps + 0 → ⊥
  unended zero n t m c k e b = higher n t m c k (unfold run in e)
  unended (suc g) n t m c k e b = go (step (calm_at (suc n) t m)) refl
    where
      go : (o : Option Description) → step (calm_at (suc n) t m) ≡ o → ⊥
      go none x = higher n t m c k x
      go (some d') x = omega (arith, b, ap (λ r. r.count.steps) (run_step g (calm_at (suc n) t m) d' c x), steps-grow g d' (tally d' c))

  pub big-is : (f : ℕ) → Agrees f
  unfolding Agrees big
  big-is zero g zero t m c k q e b = sym (run-still g (calm_at zero t m) c (grounded t m (k.resting refl refl)))
  big-is zero g (suc n) t m c k q e b = absurd (unended g n t m c k e b)
  big-is (suc f) g zero t m c k q e b = sym (run-still g (calm_at zero t m) c (grounded t m (k.resting refl refl)))
  big-is (suc f) g (suc n) t m c k q e b =
      turns f g n t m c (big-is f) k q e b (resume (suc n) t m).fate (resume (suc n) t m) (resume-is (suc n) (omega arith) t k.good k.live m)

  pub big-run : (f g n : ℕ) (t : Tree) (m : Memory) (c : Count) → Ok p (calm_at n t m) c → n ≤ c.highest → step (run g (calm_at n t m) c).last ≡ none → (run g (calm_at n t m) c).count.steps ≤ c.steps + f → big f n t m c ≡ run g (calm_at n t m) c
  unfolding Agrees
  big-run f g n t m c = big-is f g n t m c

-- ---- the start and the reaction of a table

-- the push of the input event is one step, to level 1
abbrev pub one_step : Count
one_step = record { steps = 1; emitted = 0; highest = 1 }

-- the memory that a start or a reaction begins with
abbrev pub begun : List ℤ → ℤ → Memory
begun x z = record { vars = set x 0 z; outs = [] }

unfoldable pub big_reaction : List ℕ → List ℕ → List ℤ → ℕ → ℤ → Ran
unfolding big awake at_rest program_of announced
big_reaction b m x e z = big (announced b).steps 1 (awake (wakes (input_event e)) (at_rest m (program_of b))) (begun x z) one_step

unfoldable pub big_start : List ℕ → List ℤ → Ran
unfolding big awake program_of announced
big_start b x = big (announced b).steps 1 (awake (wakes (input_event 0)) (program_of b)) (begun x (pos 0)) one_step

met-big : (p : Tree) → Program p → (e : ℕ) (z : ℤ) (u : Tree) (x : List ℤ) → Ok p (faced e z u x) nothing_yet → (s : ℕ) → step (run s (faced e z u x) nothing_yet).last ≡ none → (run s (faced e z u x) nothing_yet).count.steps ≤ s →
    run s (faced e z u x) nothing_yet ≡ big s 1 (awake (wakes (input_event e)) u) (begun x z) one_step
met-big p h e z u x k zero n b =
    let d : Description = calm_at 1 (awake (wakes (input_event e)) u) (begun x z) in
    let o : step (faced e z u x) ≡ some d = rule-is-step (pushes refl) in
    let q : step (faced e z u x) ≡ none = unfold run in n in
    let y : some d ≡ none = sym o ∙ q in
    clash (cc)
met-big p h e z u x k (suc s) n b =
    let d : Description = calm_at 1 (awake (wakes (input_event e)) u) (begun x z) in
    let o : step (faced e z u x) ≡ some d = rule-is-step (pushes refl) in
    let y : run (suc s) (faced e z u x) nothing_yet ≡ run s d one_step = run_step s (faced e z u x) d nothing_yet o in
    let w = big-run p h (suc s) s 1 (awake (wakes (input_event e)) u) (begun x z) one_step (ok-keeps p h (faced e z u x) nothing_yet d k o) (omega arith) (subst (λ r. step r.last ≡ none) y n) (omega (arith, b, ap (λ r. r.count.steps) y)) in
    y ∙ sym w

pub reaction-big : (b : List ℕ) (a : Announced) → check b ≡ accepted a → (m : List ℕ) → first_refusal (marks_stages b m) ≡ none → (x : List ℤ) (e : ℕ) (z : ℤ) → reaction b m x e z ≡ big_reaction b m x e z
unfolding reaction big_reaction
reaction-big b a c m f x e z =
    let k = accepts b a c in
    let r = reaction-ends b a c m f x e z in
    let y = ready-rest k.depth m (program_of b) k.program k.good k.closed k.deeper (fitting b m f) in
    met-big (program_of b) k.program e z (at_rest m (program_of b)) x (first-ok (program_of b) k.depth k.program e z (at_rest m (program_of b)) x y) (announced b).steps r.still (omega (arith, r.steps, ap (λ q. q.steps) k.same))

pub start-big : (b : List ℕ) (a : Announced) → check b ≡ accepted a → (x : List ℤ) → start b x ≡ big_start b x
unfolding start big_start
start-big b a c x =
    let k = accepts b a c in
    let r = start-ends b a c x in
    let y = ready-start k.depth (program_of b) k.program k.good k.closed in
    met-big (program_of b) k.program 0 (pos 0) (program_of b) x (first-ok (program_of b) k.depth k.program 0 (pos 0) (program_of b) x y) (announced b).steps r.still (omega (arith, r.steps, ap (λ q. q.steps) k.same))
