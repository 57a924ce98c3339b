-- Determinism: push, pop and the nested step as rules of a relation; the published `step` is that relation, so at most one description comes next.
use Rattle.std.specs.Prelude.{◌≡◌, refl, Bool, true, false, ℕ, zero, suc, T, if◌then◌else◌}
use Rattle.std.proofs.Common.{sym, subst, ◌∙◌}
use Rattle.std.proofs.Math.Option.{Option, none, some}
use Rattle.rules.specs.Stages.{option}
use Rattle.rules.specs.Tree.{Tree}
use Rattle.rules.specs.Memory.{Deed, effect}
use Rattle.rules.specs.Step.{Description, Event, Nested, moved, nested, nested_step, nop_or_blocked, pop, push, raised, step, step_at, stuck}
use Rattle.theory.specs.Logic.{clash, T→true}
use Rattle.theory.specs.Relation.{Goes, Is, is-step, goes-nest, goes-going, not-blocked}

-- the description after a nested step
abbrev pub stepped : Deed → Tree → Description → Description
stepped w t d = record { tree = t; level = d.level; pending = raised w; memory = effect w d.memory }

-- one step: a push, a pop, or a nested one
pub data Steps (d : Description) : Description → Type 0 where
  pushes : {v : Event} → d.pending ≡ some v → Steps d (push v d)
  pops : {n : ℕ} → d.pending ≡ none → d.level ≡ suc n → T (nop_or_blocked (suc n) d.tree) → Steps d (pop n d)
  inside : {w : Deed} {t : Tree} → d.pending ≡ none → Goes d.level d.memory d.tree w t → Steps d (stepped w t d)

-- ---- each rule is the answer of `step`
nested-rule : (d : Description) (n : ℕ) {w : Deed} {t : Tree} → d.level ≡ n → Goes n d.memory d.tree w t → step_at d n ≡ some (stepped w t d)
nested-rule d zero e g = rw (goes-nest 0 d.memory g)
nested-rule d (suc n) e g = rw (goes-going (suc n) d.memory g, not-blocked (suc n) d.memory d.tree (goes-nest (suc n) d.memory g), goes-nest (suc n) d.memory g)

pop-rule : (d : Description) (n : ℕ) → T (nop_or_blocked (suc n) d.tree) → step_at d (suc n) ≡ some (pop n d)
pop-rule d n h = rw (T→true (nop_or_blocked (suc n) d.tree) h)

-- what `step` does with the event that is pending
pending-is : (d d' : Description) (p : Option Event) → d.pending ≡ p → option (step_at d d.level) (λ v. some (push v d)) p ≡ some d' → option (step_at d d.level) (λ v. some (push v d)) d.pending ≡ some d'
pending-is d d' p e h = subst (λ q. option (step_at d d.level) (λ v. some (push v d)) q ≡ some d') (sym e) h

pub rule-is-step : {d d' : Description} → Steps d d' → step d ≡ some d'
unfolding step
rule-is-step {d} {d'} (pushes {v = v} e) = pending-is d d' (some v) e refl
rule-is-step {d} {d'} (pops {n = n} e l h) = pending-is d d' none e (subst (λ k. step_at d k ≡ some d') (sym l) (pop-rule d n h))
rule-is-step {d} {d'} (inside e g) = pending-is d d' none e (nested-rule d d.level refl g)

-- ---- each answer is a rule
abbrev StepsO : Description → Option Description → Type 0
StepsO d none = Unit {0}
StepsO d (some d') = Steps d d'

nested-steps : (d : Description) (n : ℕ) → d.pending ≡ none → d.level ≡ n → (r : Nested) → Is n d.memory d.tree r → StepsO d (nested r d)
nested-steps d n e l stuck g = tt
nested-steps d n e l (moved w t) g = inside e (subst (λ k. Goes k d.memory d.tree w t) (sym l) g)

choose-steps : (d : Description) (n : ℕ) (b : Bool) → nop_or_blocked (suc n) d.tree ≡ b → d.pending ≡ none → d.level ≡ suc n → StepsO d (if b then some (pop n d) else nested (nested_step (suc n) d.memory d.tree) d)
choose-steps d n true i e l = pops e l (subst T (sym i) tt)
choose-steps d n false i e l = nested-steps d (suc n) e l (nested_step (suc n) d.memory d.tree) (is-step (suc n) d.memory d.tree)

inner-steps : (d : Description) (n : ℕ) → d.pending ≡ none → d.level ≡ n → StepsO d (step_at d n)
inner-steps d zero e l = nested-steps d 0 e l (nested_step 0 d.memory d.tree) (is-step 0 d.memory d.tree)
inner-steps d (suc n) e l = choose-steps d n (nop_or_blocked (suc n) d.tree) refl e l

split_steps : (d : Description) (p : Option Event) → d.pending ≡ p → StepsO d (option (step_at d d.level) (λ v. some (push v d)) p)
split_steps d none e = inner-steps d d.level e refl
split_steps d (some v) e = pushes e

pub step-is-rule : (d d' : Description) → step d ≡ some d' → Steps d d'
unfolding step
step-is-rule d d' e = subst (StepsO d) e (split_steps d d.pending refl)

-- no answer exactly where no rule fits
pub none-fits : (d d' : Description) → step d ≡ none → Steps d d' → ⊥
none-fits d d' e x =
    let y : some d' ≡ none = sym (rule-is-step x) ∙ e in
    clash (cc)

pub none_left : (d : Description) → ((d' : Description) → Steps d d' → ⊥) → step d ≡ none
none_left d n = go (step d) refl
  where
    go : (o : Option Description) → step d ≡ o → o ≡ none
    go none e = refl
    go (some d') e = absurd (n d' (step-is-rule d d' e))

-- determinism: at most one next description
pub one-next : {d a b : Description} → Steps d a → Steps d b → a ≡ b
one-next {d} {a} {b} x y = same (sym (rule-is-step x) ∙ rule-is-step y)
  where
    same : some a ≡ some b → a ≡ b
    same e = cc
