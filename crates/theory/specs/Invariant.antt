-- What every description of a run keeps, and what the last one is: level 0, no event pending, the tree @nop or blocked.
use Rattle.std.specs.Prelude.{◌≡◌, refl, Bool, true, false, ℕ, zero, suc, ◌+◌, ◌≤◌, T, if◌then◌else◌}
use Rattle.std.proofs.Common.{sym, ap, subst, ◌∙◌, arith}
use Rattle.std.proofs.Math.Option.{Option, none, some}
use Rattle.rules.specs.Stages.{is_some, option}
use Rattle.rules.specs.Tree.{Source, Tree, act, at_loop, at_par, await, break, canrun, emit, every, fin, ifvar, loop, nop, par, seq}
use Rattle.rules.specs.Memory.{Deed, Memory, does, quiet, raises}
use Rattle.rules.specs.Step.{Description, Event, Front, Nested, awake, blocked, broken, done, front, going, is_done, moved, nested, nested_step, nop_or_blocked, pop, push, raised, step, step_at, stuck, wakes}
use Rattle.rules.specs.Run.{Count, tally}
use Rattle.theory.specs.Logic.{clash, or_left, or_right, or_cases, or-false-left, or-false-right, or_map}
use Rattle.theory.specs.Program.{Calm, calm-loose, loose, Good, Program, broken-loose}
use Rattle.theory.specs.Measure.{step_cost}
use Rattle.theory.specs.StepLowers.{Lowers, LowersO, lowers}
use Rattle.theory.specs.Relation.{goes-nest}
use Rattle.theory.specs.Steps.{Steps, pushes, pops, inside, stepped, step-is-rule}
use Rattle.theory.specs.EventAdds.{roused}
use Rattle.theory.specs.Residue.{Left, LeftO, left_step, left-awake}
use Rattle.theory.specs.Blocked.{blocked-stuck}
use Rattle.theory.specs.Progress.{Live, LiveO, live-step, live-awake, live-pop, live-zero, blocked-low, moves, Moves}

-- 1 where an event is pending
unfoldable pub pending_count : Option Event → ℕ
pending_count none = 0
pending_count (some v) = 1

await-loose : (i e : ℕ) (s : Source) (b : Bool) → T (loose (if b then nop i else await i s e)) → ⊥
unfolding loose
await-loose i e s true t = t
await-loose i e s false t = t

every-loose : (i e : ℕ) (s : Source) (p : Tree) (b : Bool) → Calm p → T (loose (if b then seq i p (every i s e p) else every i s e p)) → ⊥
unfolding loose
every-loose i e s p true c t = or_cases (loose p) false (calm-loose p c) (λ x. x) t
every-loose i e s p false c t = t

-- an event lets no new loose break appear
awake-loose : (w : ℕ → Source → ℕ → Bool) (t : Tree) → Good t → T (loose (awake w t)) → T (loose t)
unfolding awake loose Good
awake-loose w (nop i) g h = h
awake-loose w (act i a v k) g h = h
awake-loose w (await i s e) g h = absurd (await-loose i e s (w i s e) h)
awake-loose w (emit i e y) g h = h
awake-loose w (break i) g h = h
awake-loose w (ifvar i v p q) g h = h
awake-loose w (seq i p q) g h = or_map (loose (awake w p)) (loose q) (loose p) (loose q) (awake-loose w p g.0) (λ x. x) h
awake-loose w (loop i p) g h = h
awake-loose w (every i s e p) g h = absurd (every-loose i e s p (w i s e) g h)
awake-loose w (par i o p q) g h = h
awake-loose w (fin i p) g h = h
awake-loose w (canrun i m) g h = h
awake-loose w (at_loop i p q) g h = h
awake-loose w (at_par i o p q) g h = or_map (loose (awake w p)) (loose (awake w q)) (loose p) (loose q) (awake-loose w p g.0) (awake-loose w q g.1) h

-- a tree that is @nop is live at every level, and has no step
done-live : (n : ℕ) (t : Tree) → T (is_done (front t)) → Live n t
unfolding front Live
done-live n (nop i) h = tt
done-live n (act i a v k) h = tt
done-live n (await i s e) h = tt
done-live n (emit i e y) h = tt
done-live n (break i) h = tt
done-live n (ifvar i v p q) h = absurd h
done-live n (seq i p q) h = absurd h
done-live n (loop i p) h = absurd h
done-live n (every i s e p) h = absurd h
done-live n (par i o p q) h = absurd h
done-live n (fin i p) h = absurd h
done-live n (canrun i m) h = absurd h
done-live n (at_loop i p q) h = absurd h
done-live n (at_par i o p q) h = absurd h

done_stuck : (n : ℕ) (x : Memory) (t : Tree) → T (is_done (front t)) → nested_step n x t ≡ stuck
unfolding front nested_step
done_stuck n x (nop i) h = refl
done_stuck n x (act i a v k) h = absurd h
done_stuck n x (await i s e) h = refl
done_stuck n x (emit i e y) h = absurd h
done_stuck n x (break i) h = refl
done_stuck n x (ifvar i v p q) h = absurd h
done_stuck n x (seq i p q) h = absurd h
done_stuck n x (loop i p) h = absurd h
done_stuck n x (every i s e p) h = refl
done_stuck n x (par i o p q) h = absurd h
done_stuck n x (fin i p) h = refl
done_stuck n x (canrun i m) h = absurd h
done_stuck n x (at_loop i p q) h = absurd h
done_stuck n x (at_par i o p q) h = absurd h

pub idle-stuck : (n : ℕ) (x : Memory) (t : Tree) → T (nop_or_blocked n t) → nested_step n x t ≡ stuck
idle-stuck n x t h = or_cases (is_done (front t)) (blocked n t) (done_stuck n x t) (blocked-stuck n x t) h

idle-live : (n : ℕ) (t : Tree) → Live (suc n) t → T (nop_or_blocked (suc n) t) → Live n t
idle-live n t l h = or_cases (is_done (front t)) (blocked (suc n) t) (done-live n t) (live-pop n t l) h

idle-low : (t : Tree) → Live 0 t → T (nop_or_blocked 1 t) → T (nop_or_blocked 0 t)
idle-low t l h = or_cases (is_done (front t)) (blocked 1 t) (λ a. or_left (is_done (front t)) (blocked 0 t) a) (λ a. or_right (is_done (front t)) (blocked 0 t) (blocked-low 1 t (live-zero t l) a)) h

-- ---- what every description of a run keeps: t is the program, c the counts so far

pub record Ok (t : Tree) (d : Description) (c : Count) : Type 0 where
  pub good : Good d.tree
  pub live : Live d.level d.tree
  pub of : Left t d.tree
  pub closed : T (loose d.tree) → ⊥
  pub resting : d.level ≡ 0 → d.pending ≡ none → T (nop_or_blocked 0 d.tree)
  pub low : d.level + pending_count d.pending ≤ 1 + c.emitted
  pub high : c.highest ≤ 1 + c.emitted

push_ok : (t : Tree) (d : Description) (c : Count) (v : Event) → Program t → d.pending ≡ some v → Ok t d c → Ok t (push v d) (tally (push v d) c)
unfolding pending_count
push_ok t d c v h e k = record {
  good = (roused 0 0 0 (wakes v) d.tree k.good).good;
  live = live-awake d.level (wakes v) d.tree k.live;
  of = left-awake (wakes v) k.of h k.good;
  closed = λ b. k.closed (awake-loose (wakes v) d.tree k.good b);
  resting = λ z. absurd (omega arith);
  low = omega (arith, k.low, ap pending_count e);
  high = omega (arith, k.high, k.low, ap pending_count e);
}

pop_ok : (t : Tree) (d : Description) (c : Count) (n : ℕ) → d.level ≡ suc n → T (nop_or_blocked (suc n) d.tree) → Ok t d c → Ok t (pop n d) (tally (pop n d) c)
unfolding pending_count
pop_ok t d c n e i k =
    let l : Live n d.tree = idle-live n d.tree (subst (λ m. Live m d.tree) e k.live) i in
    record {
      good = k.good;
      live = l;
      of = k.of;
      closed = k.closed;
      resting = λ z p. idle-low d.tree (subst (λ m. Live m d.tree) z l) (subst (λ m. T (nop_or_blocked (suc m) d.tree)) z i);
      low = omega (arith, k.low);
      high = omega (arith, k.high, k.low);
    }

-- an emit is counted where its event becomes pending
counts : (w : Deed) (e : ℕ) → (if is_some (raised w) then suc e else e) ≡ e + pending_count (raised w)
unfolding pending_count
counts quiet e = omega arith
counts (does a v z) e = omega arith
counts (raises b y) e = omega arith

-- a nested step keeps it; at level 0 there is none
nested-ok : (t : Tree) (d : Description) (c : Count) (w : Deed) (u : Tree) → Program t → d.pending ≡ none → Ok t d c → nested_step d.level d.memory d.tree ≡ moved w u → Ok t (stepped w u d) (tally (stepped w u d) c)
nested-ok t d c w u h p k e =
    let n : ℕ = d.level in
    let above : n ≡ 0 → ⊥ = λ z. grounded d (k.resting z p) z e in
    let o : Lowers 0 0 0 d.tree (step_cost 0 0 0 w) u = subst (LowersO 0 0 0 d.tree) e (lowers 0 0 0 n d.memory d.tree k.good) in
    record {
      good = o.good;
      live = subst (LiveO n) e (live-step n d.memory d.tree (omega (arith, above)) k.live k.good);
      of = subst (LeftO t) e (left_step n d.memory k.of h k.good);
      closed = λ b. k.closed (o.loosens b);
      resting = λ z. absurd (above z);
      low = omega (arith, k.low, counts w c.emitted);
      high = omega (arith, k.high, k.low, counts w c.emitted);
    }
  where
    grounded : (d : Description) → T (nop_or_blocked 0 d.tree) → d.level ≡ 0 → nested_step d.level d.memory d.tree ≡ moved w u → ⊥
    grounded d i z e =
        let y : stuck ≡ moved w u = sym (idle-stuck 0 d.memory d.tree i) ∙ subst (λ n. nested_step n d.memory d.tree ≡ moved w u) z e in
        clash (cc)

pub ok-keeps : (t : Tree) → Program t → (d : Description) (c : Count) (d' : Description) → Ok t d c → step d ≡ some d' → Ok t d' (tally d' c)
ok-keeps t h d c d' k e = go (step-is-rule d d' e)
  where
    go : {d' : Description} → Steps d d' → Ok t d' (tally d' c)
    go (pushes {v = v} p) = push_ok t d c v h p k
    go (pops {n = n} p l i) = pop_ok t d c n l i k
    go (inside {w = w} {t = u} p g) = nested-ok t d c w u h p k (goes-nest d.level d.memory g)

-- ---- where no step is left

is-going : (f : Front) → is_done f ≡ false → ((b : ℕ) → f ≡ broken b → ⊥) → f ≡ going
is-going done e n = clash (cc)
is-going (broken b) e n = absurd (n b refl)
is-going going e n = refl

nested-none : (d : Description) (r : Nested) → Moves r → nested r d ≡ none → ⊥
nested-none d stuck m e = m
nested-none d (moved quiet t) m e = clash (cc)
nested-none d (moved (does a v z) t) m e = clash (cc)
nested-none d (moved (raises b y) t) m e = clash (cc)

choose-none : (d : Description) (n : ℕ) (b : Bool) → nop_or_blocked (suc n) d.tree ≡ b → Live (suc n) d.tree → (T (loose d.tree) → ⊥) → (if b then some (pop n d) else nested (nested_step (suc n) d.memory d.tree) d) ≡ none → ⊥
choose-none d n true i l c e = clash (cc)
choose-none d n false i l c e =
    nested-none d (nested_step (suc n) d.memory d.tree)
    (moves (suc n) d.memory d.tree l (or-false-right (is_done (front d.tree)) (blocked (suc n) d.tree) i)
    (is-going (front d.tree) (or-false-left (is_done (front d.tree)) (blocked (suc n) d.tree) i) (λ b x. c (broken-loose d.tree b x))))
    e

-- a proper end
pub record AtRest (d : Description) : Type 0 where
  pub grounded : d.level ≡ 0
  pub heard : d.pending ≡ none
  pub idles : T (nop_or_blocked 0 d.tree)

inner-none : (d : Description) (n : ℕ) → d.level ≡ n → d.pending ≡ none → Live n d.tree → (T (loose d.tree) → ⊥) → (d.level ≡ 0 → d.pending ≡ none → T (nop_or_blocked 0 d.tree)) → step_at d n ≡ none → AtRest d
inner-none d zero e p l c r x = record { grounded = e; heard = p; idles = r e p }
inner-none d (suc n) e p l c r x = absurd (choose-none d n (nop_or_blocked (suc n) d.tree) refl l c x)

split-none : (d : Description) (p : Option Event) → d.pending ≡ p → Live d.level d.tree → (T (loose d.tree) → ⊥) → (d.level ≡ 0 → d.pending ≡ none → T (nop_or_blocked 0 d.tree)) → option (step_at d d.level) (λ v. some (push v d)) p ≡ none → AtRest d
split-none d none e l c r x = inner-none d d.level refl e l c r x
split-none d (some v) e l c r x = clash (cc)

pub ended : (t : Tree) (d : Description) (c : Count) → Ok t d c → step d ≡ none → AtRest d
unfolding step
ended t d c k e = split-none d d.pending refl k.live k.closed k.resting e
