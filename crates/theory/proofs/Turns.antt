-- The round on states is the round of big steps.
use Rattle.std.specs.Prelude.{◌≡◌, Bool, true, false, List, if◌then◌else◌}
use Rattle.std.proofs.Math.Path.{refl, ap, subst}
use Rattle.std.proofs.Common.{sym, ◌∙◌}
use Prim.Native.Nat.{ℕ, zero, suc, ◌+◌, ◌-◌, ◌≤◌, max}
use native.Mathlib.Omega.{arith}
use Rattle.rules.specs.Tree.{Tree, nop}
use Rattle.rules.specs.Memory.{Memory}
use Rattle.rules.specs.Step.{Event, Front, front, internal_event, is_done, wakes}
use Rattle.rules.specs.Step as Rules
use Rattle.rules.specs.Run.{Count, Ran}
use Rattle.theory.specs.Logic.{clash}
use Rattle.theory.specs.Program.{Seen, is-nop, is-brk, is-other, seen}
use Rattle.theory.specs.Big.{Fate, ends, breaks, waits, rings, Out, result}
use Rattle.theory.specs.Big as Big
use Rattle.theory.proofs.Follow.{big, calm_at, turn, popped, pushed}
use Rattle.theory.specs.Sound.{Sound}
use Rattle.theory.specs.State.{Counted, counting, How, awake, still, resume}
use Rattle.theory.specs.Round.{turn_of, event_of, Heard, heard, heard_of, Round, onward, rounds, rounds-end, rounds-pop, rounds-push}
use Rattle.theory.specs.Round as States
use Rattle.theory.specs.Frame.{Blank, Within, Room, Laid, within-refl, within-trans, room_within}
use Rattle.theory.specs.Shows.{Shows}
use Rattle.theory.specs.Exec.{Ends, has_ended, has-broken, is-waiting, is-ringing, Came}
use Rattle.theory.specs.Resume.{resumes}
use Rattle.theory.specs.Wake.{idle-awake, idle-still, still-rests, wakes-shown}
use Rattle.theory.specs.Rests.{Stands, lives, over}

-- ---- the whole program runs on

-- how it did: the pending event and the states, beside the fate and the tree of the big step
pub data Turned (l : List ℕ) (p : Tree) : ℕ → Fate → Tree → Type 0 where
  all-over : {i : ℕ} → Blank l p → Turned l p 0 ends (nop i)
  all-broken : {u : Tree} → Turned l p 0 breaks u
  all-waits : {u : Tree} → is_done (front u) ≡ false → Shows l p u → Turned l p 0 waits u
  all-rings : {u : Tree} {e : ℕ} → 1 ≤ e → Shows l p u → Turned l p e (rings e) u

pub turned : {l : List ℕ} {p u : Tree} {h : How} {f : Fate} → Ends l p h f u → Turned l p (event_of h) f u
turned (has_ended b) = all-over b
turned (has-broken b) = all-broken
turned (is-waiting n a) = all-waits n a
turned (is-ringing n a) = all-rings n a

pub record Heeds (p : Tree) (l : List ℕ) (s : ℕ) (w : Heard Counted) (r : Out) : Type 0 where
  pub how : Turned w.states p w.event r.fate r.tree
  pub so : Came p l s w.states w.memory r.mem r.steps

-- what waits is not over
unfinished : (v : ℕ) (u : Tree) (x : Memory) → Big.resume v u x ≡ result waits u x 0 → is_done (front u) ≡ false
unfolding Big.resume
unfinished v u x e = go (seen u) (ap (λ (o : Out). o.fate) e)
  where
    go : {t : Tree} {f : Front} → Seen t f → (Big.resume v t x).fate ≡ waits → is_done f ≡ false
    go is-nop h = clash (cc)
    go is-brk h = refl
    go is-other h = refl

module _ (p : Tree) (k : Sound p) (z : Laid p) where
  onward-go : (v : ℕ) → 1 ≤ v → {u : Tree} (l : List ℕ) → Room p l → Shows l p u → (m : Counted) (x : Memory) → m.memory ≡ x → (b : Bool) → still (turn_of v) p l ≡ b → Heeds p l m.steps (if b then heard 0 l m else heard_of (resume counting (turn_of v) p l m)) (Big.resume v u x)
  onward-go v n {u} l r a m x e true h =
      let y = still-rests (turn_of v) v refl p l a h x in
      subst (λ (o : Out). Heeds p l m.steps (heard 0 l m) o) (sym y) record { how = all-waits (unfinished v u x y) a; so = record { within = within-refl; memory = e; steps = omega arith } }
  onward-go v n l r a m x e false h = let d = resumes (turn_of v) v refl n p k z l r a m x e in record { how = turned d.how; so = d.so }

  pub onward-is : (v : ℕ) → 1 ≤ v → {u : Tree} (l : List ℕ) → Room p l → Stands l p u → (m : Counted) (x : Memory) → m.memory ≡ x → Heeds p l m.steps (onward counting p v l m) (Big.resume v u x)
  unfolding onward Big.resume
  onward-is v n l r (lives a) m x e = onward-go v n l r a m x e (still (turn_of v) p l) refl
  onward-is v n l r (over b) m x e = rw (idle-still (turn_of v) v refl p l z b) record { how = all-over b; so = record { within = within-refl; memory = e; steps = omega arith } }

  since : {l l' : List ℕ} {s : ℕ} {w : Heard Counted} {r : Out} → Within p l l' → Heeds p l' s w r → Heeds p l s w r
  since w d = record { how = d.how; so = record { within = within-trans w d.so.within; memory = d.so.memory; steps = d.so.steps } }

  pub pushed-is : (ev : Event) (v : ℕ) → 1 ≤ v → {u : Tree} (l : List ℕ) → Room p l → Stands l p u → (m : Counted) (x : Memory) → m.memory ≡ x → Heeds p l m.steps (States.pushed counting p ev v l m) (Big.resume v (Rules.awake (wakes ev) u) x)
  unfolding States.pushed Rules.awake
  pushed-is ev v n l r (lives a) m x e =
      let d = wakes-shown (wakes ev) p l k z r a in
      since d.within (onward-is v n (awake (wakes ev) p l) (room_within d.within r) (lives d.shows) m x e)
  pushed-is ev v n l r (over b) m x e = rw (idle-awake (wakes ev) p l z b) (onward-is v n l r (over b) m x e)

-- ---- the round

-- states at rest: over, or waiting
pub data Rests (l : List ℕ) (p : Tree) : Tree → Type 0 where
  is-over : {i : ℕ} → Blank l p → Rests l p (nop i)
  still-waits : {u : Tree} → is_done (front u) ≡ false → Shows l p u → Rests l p u

stands : {l : List ℕ} {p u : Tree} → Rests l p u → Stands l p u
stands (is-over b) = over b
stands (still-waits n a) = lives a

-- the round r on states, from l, is the run s
pub record RoundIs (p : Tree) (l : List ℕ) (r : Round Counted) (s : Ran) : Type 0 where
  pub grounded : r.grounded ≡ true
  pub within : Within p l r.states
  pub rests : Rests r.states p s.last.tree
  pub memory : r.memory.memory ≡ s.last.memory
  pub steps : r.memory.steps ≡ s.count.steps
  pub emitted : r.emitted ≡ s.count.emitted
  pub highest : r.highest ≡ s.count.highest

module _ (p : Tree) (k : Sound p) (z : Laid p) where
  -- where big steps come to level 0, the round on states comes to the same
  abbrev pub Rounds : ℕ → Type 0
  Rounds f = (n e : ℕ) (l' : List ℕ) (m : Counted) (g : Fate) (u : Tree) (x : Memory) (j : ℕ) (c : Count) (l : List ℕ) → Room p l → Turned l' p e g u → Came p l c.steps l' m x j → (turn n g (result g u x j) c (big f)).last.level ≡ 0 →
      RoundIs p l (rounds counting p (suc f) e (suc n) c.emitted c.highest l' m) (turn n g (result g u x j) c (big f))

  abbrev Prior : ℕ → Type 0
  Prior zero = Unit {0}
  Prior (suc f) = Rounds f

  grounded : (f : ℕ) (u : Tree) (x : Memory) (c : Count) → big f 0 u x c ≡ record { last = calm_at 0 u x; count = c }
  unfolding big
  grounded zero u x c = refl
  grounded (suc f) u x c = refl

  pop-go : (f : ℕ) → Prior f → (n : ℕ) {l' : List ℕ} {m : Counted} {u : Tree} {x : Memory} (j : ℕ) (c : Count) {l : List ℕ} → Room p l → Rests l' p u → Came p l c.steps l' m x j → (big f n u x (popped j c)).last.level ≡ 0 →
      RoundIs p l (rounds counting p (suc f) 0 (suc n) c.emitted c.highest l' m) (big f n u x (popped j c))
  unfolding big
  pop-go f prior zero {l'} {m} {u} {x} j c {l} r a w h =
      subst (λ (s : Ran). RoundIs p l (rounds counting p (suc f) 0 1 c.emitted c.highest l' m) s) (sym (grounded f u x (popped j c)))
      (subst (λ (y : Round Counted). RoundIs p l y (record { last = calm_at 0 u x; count = popped j c })) (sym (rounds-end counting p f 0 1 c.emitted c.highest l' m refl refl))
      record { grounded = refl; within = w.within; rests = a; memory = w.memory; steps = omega (arith, w.steps); emitted = refl; highest = refl })
  pop-go zero prior (suc n) j c r a w h = absurd (omega arith)
  pop-go (suc f) prior (suc n) {l'} {m} {u} {x} j c {l} r a w h =
      let v : suc (suc n) - 1 ≡ suc n = omega arith in
      let d = onward-is p k z (suc n) (omega arith) l' (room_within w.within r) (stands a) (counting.tick m) x w.memory in
      subst (λ (y : Round Counted). RoundIs p l y (big (suc f) (suc n) u x (popped j c)))
      (sym (rounds-pop counting p (suc f) 0 (suc (suc n)) c.emitted c.highest l' m refl (λ e. omega arith)
      ∙ ap (λ (i : ℕ). let q = onward counting p i l' (counting.tick m) in rounds counting p (suc f) q.event i c.emitted c.highest q.states q.memory) v))
      (prior n (onward counting p (suc n) l' (counting.tick m)).event (onward counting p (suc n) l' (counting.tick m)).states (onward counting p (suc n) l' (counting.tick m)).memory
      (Big.resume (suc n) u x).fate (Big.resume (suc n) u x).tree (Big.resume (suc n) u x).mem (Big.resume (suc n) u x).steps (popped j c) l r d.how
      record { within = within-trans w.within d.so.within; memory = d.so.memory; steps = omega (arith, d.so.steps, w.steps) } h)

  push-go : (f : ℕ) → Prior f → (n e : ℕ) {l' : List ℕ} {m : Counted} {u : Tree} {x : Memory} (j : ℕ) (c : Count) {l : List ℕ} → Room p l → 1 ≤ e → Shows l' p u → Came p l c.steps l' m x j →
      (big f (suc (suc n)) (Rules.awake (wakes (internal_event e)) u) x (pushed j (suc (suc n)) c)).last.level ≡ 0 →
      RoundIs p l (rounds counting p (suc f) e (suc n) c.emitted c.highest l' m) (big f (suc (suc n)) (Rules.awake (wakes (internal_event e)) u) x (pushed j (suc (suc n)) c))
  unfolding big
  push-go zero prior n e j c r o a w h = absurd (omega arith)
  push-go (suc f) prior n e {l'} {m} {u} {x} j c {l} r o a w h =
      let v : suc n + 1 ≡ suc (suc n) = omega arith in
      let q : c.emitted + 1 ≡ suc c.emitted = omega arith in
      let ev : Event = internal_event e in
      let t : Tree = Rules.awake (wakes ev) u in
      let d = pushed-is p k z ev (suc (suc n)) (omega arith) l' (room_within w.within r) (lives a) (counting.tick m) x w.memory in
      subst (λ (y : Round Counted). RoundIs p l y (big (suc f) (suc (suc n)) t x (pushed j (suc (suc n)) c)))
      (sym (rounds-push counting p (suc f) e (suc n) c.emitted c.highest l' m (λ y. omega arith)
      ∙ ap (λ (i : ℕ). let y = States.pushed counting p ev i l' (counting.tick m) in rounds counting p (suc f) y.event i (c.emitted + 1) (max c.highest i) y.states y.memory) v
      ∙ ap (λ (i : ℕ). let y = States.pushed counting p ev (suc (suc n)) l' (counting.tick m) in rounds counting p (suc f) y.event (suc (suc n)) i (max c.highest (suc (suc n))) y.states y.memory) q))
      (prior (suc n) (States.pushed counting p ev (suc (suc n)) l' (counting.tick m)).event (States.pushed counting p ev (suc (suc n)) l' (counting.tick m)).states (States.pushed counting p ev (suc (suc n)) l' (counting.tick m)).memory
      (Big.resume (suc (suc n)) t x).fate (Big.resume (suc (suc n)) t x).tree (Big.resume (suc (suc n)) t x).mem (Big.resume (suc (suc n)) t x).steps (pushed j (suc (suc n)) c) l r d.how
      record { within = within-trans w.within d.so.within; memory = d.so.memory; steps = omega (arith, d.so.steps, w.steps) } h)

  turns : (f : ℕ) → Prior f → Rounds f
  unfolding turn
  turns f prior n e l' m g u x j c l r (all-over b) w h = pop-go f prior n j c r (is-over b) w h
  turns f prior n e l' m g u x j c l r all-broken w h = absurd (omega arith)
  turns f prior n e l' m g u x j c l r (all-waits y a) w h = pop-go f prior n j c r (still-waits y a) w h
  turns f prior n e l' m g u x j c l r (all-rings y a) w h = push-go f prior n e j c r y a w h

  pub rounds-is : (f : ℕ) → Rounds f
  rounds-is zero = turns zero tt
  rounds-is (suc f) = turns (suc f) (rounds-is f)
