-- One turn of the round's loop: what is left to do at its end gives what was left at its beginning.
-- Assumes nothing.
use Rattle.std.specs.Prelude.{Option, None, Some}
use mathlib.Core.Path.{◌≡◌, refl, ap, sym, ◌∙◌}
use mathlib.Core.Bool.{true, false}
use mathlib.Core.List.{List}
use Prim.Native.Nat.{ℕ, suc, ◌+◌, ◌-◌, max}
use Rattle.rules.specs.Tree.{Tree}
use Rattle.rules.specs.Step.{internal_event}
use Rattle.theory.specs.Round.{Heard, heard, round, onward, pushed, rounds, rounds-none, rounds-end, rounds-pop, rounds-push}
use Rattle.memory.specs.Arrays.{Arrays, tick}
use Rattle.walks.specs.Walks.{array_ops}
use Rattle.engine.specs.Running.{event_number}

-- where no event is pending
pub none-pending : (e : Option ℕ) → ((x : ℕ) → e ≡ Some x → ⊥) → event_number e ≡ 0
none-pending None n = refl
none-pending (Some x) n = absurd (n x refl)

module _ (t : Tree) (f e v c h : ℕ) (l : List ℕ) (m : Arrays) where
  pub none_left : f ≡ 0 → round false c h l m ≡ rounds array_ops t f e v c h l m
  none_left z = rw z (sym (rounds-none array_ops t f e v c h l m))

  -- m' is the memory after the step of the push or pop, and g what is left then
  module _ (m' : Arrays) (g : ℕ) (some : f ≡ suc g) (k : m' ≡ tick m) where
    one_less : rounds array_ops t (suc g) e v c h l m ≡ rounds array_ops t f e v c h l m
    one_less = ap (λ (z : ℕ). rounds array_ops t z e v c h l m) (sym some)

    pub end_step : e ≡ 0 → v ≡ 1 → round true c h l m' ≡ rounds array_ops t f e v c h l m
    end_step x y = ap (λ (z : Arrays). round true c h l z) k ∙ sym (rounds-end array_ops t g e v c h l m x y) ∙ one_less

    module _ (e' : ℕ) (l' : List ℕ) (m'' : Arrays) where
      pub pop_step : e ≡ 0 → (v ≡ 1 → ⊥) → heard e' l' m'' ≡ onward array_ops t (v - 1) l m' → rounds array_ops t g e' (v - 1) c h l' m'' ≡ rounds array_ops t f e v c h l m
      pop_step x y q =
          ap (λ (r : Heard Arrays). rounds array_ops t g r.event (v - 1) c h r.states r.memory) (q ∙ ap (onward array_ops t (v - 1) l) k)
          ∙ sym (rounds-pop array_ops t g e v c h l m x y) ∙ one_less

      pub push_step : {h' : ℕ} → (e ≡ 0 → ⊥) → h' ≡ max h (v + 1) → heard e' l' m'' ≡ pushed array_ops t (internal_event e) (v + 1) l m' → rounds array_ops t g e' (v + 1) (c + 1) h' l' m'' ≡ rounds array_ops t f e v c h l m
      push_step {h'} x w q =
          ap (λ (z : ℕ). rounds array_ops t g e' (v + 1) (c + 1) z l' m'') w
          ∙ ap (λ (r : Heard Arrays). rounds array_ops t g r.event (v + 1) (c + 1) (max h (v + 1)) r.states r.memory) (q ∙ ap (pushed array_ops t (internal_event e) (v + 1) l) k)
          ∙ sym (rounds-push array_ops t g e v c h l m x) ∙ one_less
