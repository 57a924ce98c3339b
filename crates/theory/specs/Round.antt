-- The round on the engine's state: pushes and pops until level 0, the whole program resumed after each.
use Rattle.std.specs.Prelude.{◌≡◌, Bool, List, if◌then◌else◌}
use Rattle.std.proofs.Math.Path.{refl}
use Rattle.std.proofs.Math.Bool.{true, false}
use Prim.Native.Nat.{ℕ, zero, suc, ◌+◌, ◌-◌, max}
use Rattle.std.proofs.Math.Dec.{eqb}
use borrow.Author.Tests.{eq-eqb, ne_eqb}
use Rattle.rules.specs.Tree.{Tree}
use Rattle.rules.specs.Step.{Event, input_event, internal_event, wakes}
use Rattle.theory.specs.State.{Ops, How, idle, ended, broke, waiting, ringing, Walk, exec, resume, awake, still}

-- the state of a turn at a level
abbrev pub turn_of : ℕ → ℕ
turn_of v = v + 3

-- the event that is pending, 0 for none
abbrev pub event_of : How → ℕ
event_of idle = 0
event_of ended = 0
event_of broke = 0
event_of waiting = 0
event_of (ringing e) = e

-- what a run of the whole program left: the pending event, the states, the memory
pub record Heard (M : Type 0) : Type 0 where
  pub event : ℕ
  pub states : List ℕ
  pub memory : M

abbrev pub heard : {M : Type 0} → ℕ → List ℕ → M → Heard M
heard e l m = record { event = e; states = l; memory = m }

abbrev pub heard_of : {M : Type 0} → Walk M → Heard M
heard_of r = heard (event_of r.how) r.states r.memory

-- what a round left: has it come to level 0?
pub record Round (M : Type 0) : Type 0 where
  pub grounded : Bool
  pub emitted : ℕ
  pub highest : ℕ
  pub states : List ℕ
  pub memory : M

abbrev pub round : {M : Type 0} → Bool → ℕ → ℕ → List ℕ → M → Round M
round b c h l m = record { grounded = b; emitted = c; highest = h; states = l; memory = m }

module _ {M : Type 0} (o : Ops M) (p : Tree) where
  -- the whole program runs on at level v; where it is blocked, nothing is left to do
  unfoldable pub onward : ℕ → List ℕ → M → Heard M
  unfolding resume still
  onward v l m = if still (turn_of v) p l then heard 0 l m else heard_of (resume o (turn_of v) p l m)

  -- at level v, which a push came to
  unfoldable pub pushed : Event → ℕ → List ℕ → M → Heard M
  unfolding onward awake
  pushed e v l m = onward v (awake (wakes e) p l) m

  -- at most f pushes and pops; event e is pending (0 for none) at level v; c events were emitted, h is the highest level
  unfoldable pub rounds : ℕ → ℕ → ℕ → ℕ → ℕ → List ℕ → M → Round M
  unfolding onward pushed
  rounds zero e v c h l m = round false c h l m
  rounds (suc f) e v c h l m =
      if eqb e 0
      then (
      if eqb v 1
      then round true c h l (o.tick m)
      else (let r = onward (v - 1) l (o.tick m) in rounds f r.event (v - 1) c h r.states r.memory)
      )
      else (let r = pushed (internal_event e) (v + 1) l (o.tick m) in rounds f r.event (v + 1) (c + 1) (max h (v + 1)) r.states r.memory)

  -- a reaction to an input event: pushed to level 1
  unfoldable pub react : ℕ → ℕ → List ℕ → M → Round M
  unfolding pushed rounds
  react f e l m = let r = pushed (input_event e) 1 l (o.tick m) in rounds f r.event 1 0 1 r.states r.memory

  -- a start: the program itself begins at level 1
  unfoldable pub begin : ℕ → List ℕ → M → Round M
  unfolding exec rounds
  begin f l m = let r = exec o (turn_of 1) p l (o.tick m) in rounds f (event_of r.how) 1 0 1 r.states r.memory

  -- ---- one turn

  module _ (f e v c h : ℕ) (l : List ℕ) (m : M) where
    pub rounds-none : rounds zero e v c h l m ≡ round false c h l m
    unfolding rounds
    rounds-none = refl

    pub rounds-end : e ≡ 0 → v ≡ 1 → rounds (suc f) e v c h l m ≡ round true c h l (o.tick m)
    unfolding rounds
    rounds-end x y = rw (eq-eqb e 0 x, eq-eqb v 1 y)

    pub rounds-pop : e ≡ 0 → (v ≡ 1 → ⊥) → rounds (suc f) e v c h l m ≡ (let r = onward (v - 1) l (o.tick m) in rounds f r.event (v - 1) c h r.states r.memory)
    unfolding rounds
    rounds-pop x y = rw (eq-eqb e 0 x, ne_eqb v 1 y)

    pub rounds-push : (e ≡ 0 → ⊥) → rounds (suc f) e v c h l m ≡ (let r = pushed (internal_event e) (v + 1) l (o.tick m) in rounds f r.event (v + 1) (c + 1) (max h (v + 1)) r.states r.memory)
    unfolding rounds
    rounds-push x = rw (ne_eqb e 0 x)
