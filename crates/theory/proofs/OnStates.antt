-- The start and the reaction of a table on the engine's states are those of the rules.
use Rattle.std.specs.Prelude.{◌≡◌, true, false, ◌||◌, List, T, ℤ, pos, length, get_or}
use Rattle.std.proofs.Math.Path.{refl, ap}
use Rattle.std.proofs.Common.{sym, subst, ◌∙◌, arith, ne_eqb}
use Rattle.std.proofs.Math.Option.{none}
use Prim.Native.Nat.{ℕ, zero, suc, ◌≤◌, ◌<◌}
use Rattle.rules.specs.Stages.{first_refusal}
use Rattle.rules.specs.Limits.{Announced}
use Rattle.rules.specs.Tree.{Source, Tree, act, at_loop, at_par, await, break, canrun, emit, every, fin, ifvar, input, internal, loop, nop, par, seq}
use Rattle.rules.specs.Table.{program_of, records_of}
use Rattle.rules.specs.Check.{accepted, announced, check}
use Rattle.rules.specs.Marks.{at_rest, marks_of, marks_stages, waits}
use Rattle.rules.specs.Memory.{Memory}
use Rattle.rules.specs.Step.{blocked, front, input_event, is_done, wakes}
use Rattle.rules.specs.Step as Rules
use Rattle.rules.specs.Run.{Ran, reaction, start}
use Rattle.theory.specs.Logic.{or_cases}
use Rattle.theory.specs.Again.{member}
use Rattle.theory.specs.WrittenMarks.{bit, written}
use Rattle.theory.specs.Decode.{markable}
use Rattle.theory.proofs.Accepted.{Accepted, accepts, marks-pass}
use Rattle.theory.proofs.DemandProof.{reaction-ends, start-ends}
use Rattle.theory.specs.Big as Big
use Rattle.theory.proofs.Follow.{begun, big, big_reaction, big_start, one_step, reaction-big, start-big}
use Rattle.theory.specs.Sound.{Sound, sound}
use Rattle.theory.specs.State.{Ops, Counted, counted, counting, exec}
use Rattle.theory.specs.Round.{Round, begin, event_of, pushed, react, turn_of}
use Rattle.theory.specs.Frame.{At, Laid, Room, lays}
use Rattle.theory.specs.Exec.{execs}
use Rattle.theory.specs.Rests.{Stands, marks-stand, shows-marks, stands_same}
use Rattle.theory.specs.AnyMemory.{Alike, SameRound, same-round, react-same, begin-same}
use Rattle.theory.proofs.Turns.{Rests, RoundIs, is-over, pushed-is, rounds-is, still-waits, turned}

-- ---- what is promised

-- the round r, begun at states l, did on states what the run s of the rules did; its memory corresponds to that of the rules with the steps
pub record OnStates {M : Type 0} (R : Counted → M → Type 0) (b : List ℕ) (l : List ℕ) (r : Round M) (s : Ran) : Type 0 where
  pub grounded : r.grounded ≡ true
  pub marks : (j : ℕ) → j < records_of b → get_or r.states j 0 ≡ get_or (marks_of (records_of b) s.last.tree) j 0
  pub others : (j : ℕ) → records_of b ≤ j → get_or r.states j 0 ≡ get_or l j 0
  pub long : length r.states ≡ length l
  pub memory : R (counted s.last.memory s.count.steps) r.memory
  pub emitted : r.emitted ≡ s.count.emitted
  pub highest : r.highest ≡ s.count.highest

module _ {M : Type 0} (q : Ops M) (R : Counted → M → Type 0) where
  -- for every table that the check accepts, marks that stage 8 lets pass, and states that are those marks at the program's places
  abbrev pub ReactsOnStates : Type 0
  ReactsOnStates = (b : List ℕ) (a : Announced) → check b ≡ accepted a → (m : List ℕ) → first_refusal (marks_stages b m) ≡ none → (x : List ℤ) (e : ℕ) (z : ℤ) (l : List ℕ) → records_of b ≤ length l → ((j : ℕ) → j < records_of b → get_or l j 0 ≡ get_or m j 0) →
      (n : M) → R (counted (begun x z) 0) n → OnStates R b l (react q (program_of b) (announced b).steps e l n) (reaction b m x e z)

  -- for every table that the check accepts, and states that are idle at the program's places
  abbrev pub StartsOnStates : Type 0
  StartsOnStates = (b : List ℕ) (a : Announced) → check b ≡ accepted a → (x : List ℤ) (l : List ℕ) → records_of b ≤ length l → ((j : ℕ) → j < records_of b → get_or l j 0 ≡ 0) →
      (n : M) → R (counted (begun x (pos 0)) 0) n → OnStates R b l (begin q (program_of b) (announced b).steps l n) (start b x)

-- ---- at rest states are marks

rests-marks : {p u : Tree} (l : List ℕ) → Sound p → Laid p → Rests l p u → T (is_done (front u) || blocked 0 u) → (j : ℕ) → At p j → get_or l j 0 ≡ bit (member j (waits u))
unfolding waits member
rests-marks l k z (is-over b) h j x = b.zero-at j x
rests-marks {p} {u} l k z (still-waits n a) h j x = shows-marks p l k z a (or_cases (is_done (front u)) (blocked 0 u) (λ y. absurd (subst T n y)) (λ y. y) h) j x

-- nobody awaits event 0
unheard : (s : Source) (e : ℕ) → 1 ≤ e → wakes (input_event 0) 0 s e ≡ false
unheard input e h = ne_eqb 0 e (λ y. omega arith)
unheard internal e h = refl

not-awake : (t : Tree) → Sound t → Rules.awake (wakes (input_event 0)) t ≡ t
unfolding Rules.awake Sound
not-awake (nop i) h = refl
not-awake (act i a v z) h = refl
not-awake (await i s e) h = rw (unheard s e h)
not-awake (emit i e y) h = refl
not-awake (break i) h = refl
not-awake (ifvar i v p q) h = refl
not-awake (seq i p q) h = ap (λ (x : Tree). seq i x q) (not-awake p h.0)
not-awake (loop i p) h = refl
not-awake (every i s e p) h = rw (unheard s e h.0)
not-awake (par i o p q) h = refl
not-awake (fin i p) h = refl
not-awake (canrun i m) h = absurd h
not-awake (at_loop i p q) h = absurd h
not-awake (at_par i o p q) h = absurd h

counted_is : {m : Counted} {x : Memory} {j : ℕ} → m.memory ≡ x → m.steps ≡ j → m ≡ counted x j
counted_is {m} {x} {j} e f = ap (λ (y : Memory). counted y m.steps) e ∙ ap (counted x) f

module _ (b : List ℕ) (a : Announced) (c : check b ≡ accepted a) (l : List ℕ) (fits : records_of b ≤ length l) where
  abbrev p : Tree
  p = program_of b

  k : Accepted b a
  k = accepts b a c

  kp : Sound p
  kp = sound p k.program k.good k.ranged

  zp : Laid p
  zp = (lays 0 p k.program k.placed).laid

  at_place : (j : ℕ) → At p j → j < records_of b
  at_place j h = omega (arith, h.below, k.sized, (lays 0 p k.program k.placed).place_is)

  is-place : (j : ℕ) → j < records_of b → At p j
  is-place j h = record { above = omega (arith, (lays 0 p k.program k.placed).place_is); below = omega (arith, k.sized, (lays 0 p k.program k.placed).place_is) }

  room : Room p l
  room = record { fits = omega (arith, k.sized, (lays 0 p k.program k.placed).place_is) }

  finish : {M : Type 0} {R : Counted → M → Type 0} {r : Round Counted} {r' : Round M} (s : Ran) → T (is_done (front s.last.tree) || blocked 0 s.last.tree) → RoundIs p l r s → SameRound R r r' → OnStates R b l r' s
  finish {R = R} s h d (same-round {l = l'} {m = m} {n = n} g) = record {
    grounded = d.grounded;
    marks = λ j x. rests-marks l' kp zp d.rests h j (is-place j x) ∙ sym (written (records_of b) s.last.tree j x);
    others = λ j x. d.within.other j (λ y. omega (arith, at_place j y));
    long = d.within.long;
    memory = subst (λ (c : Counted). R c n) (counted_is d.memory d.steps) g;
    emitted = d.emitted;
    highest = d.highest;
  }

  -- ---- a reaction

  module _ (m : List ℕ) (f : first_refusal (marks_stages b m) ≡ none) (agree : (j : ℕ) → j < records_of b → get_or l j 0 ≡ get_or m j 0) where
    stands : Stands l p (at_rest m p)
    stands =
        let g = marks-pass b m f in
        stands_same zp (record { same_at = λ j h. agree j (at_place j h) }) (marks-stand (markable b) m p kp zp k.waiting (λ j h. g.right j (at_place j h)) g.fits)

    react-is : (n : ℕ) (x : List ℤ) (e : ℕ) (z : ℤ) → (big n 1 (Rules.awake (wakes (input_event e)) (at_rest m p)) (begun x z) one_step).last.level ≡ 0 →
        RoundIs p l (react counting p n e l (counted (begun x z) 0)) (big n 1 (Rules.awake (wakes (input_event e)) (at_rest m p)) (begun x z) one_step)
    unfolding react big
    react-is zero x e z h = absurd (omega arith)
    react-is (suc n) x e z h =
        let t : Tree = Rules.awake (wakes (input_event e)) (at_rest m p) in
        let d = pushed-is p kp zp (input_event e) 1 (omega arith) l room stands (counted (begun x z) 1) (begun x z) refl in
        let w = pushed counting p (input_event e) 1 l (counted (begun x z) 1) in
        let r = Big.resume 1 t (begun x z) in
        rounds-is p kp zp n 0 w.event w.states w.memory r.fate r.tree r.mem r.steps one_step l room d.how d.so h

  -- ---- a start

  begin-is : ((j : ℕ) → j < records_of b → get_or l j 0 ≡ 0) → (n : ℕ) (x : List ℤ) → (big n 1 p (begun x (pos 0)) one_step).last.level ≡ 0 → RoundIs p l (begin counting p n l (counted (begun x (pos 0)) 0)) (big n 1 p (begun x (pos 0)) one_step)
  unfolding begin big
  begin-is idle zero x h = absurd (omega arith)
  begin-is idle (suc n) x h =
      let d = execs (turn_of 1) 1 refl (omega arith) p kp zp l room (record { zero-at = λ j y. idle j (at_place j y) }) (counted (begun x (pos 0)) 1) (begun x (pos 0)) refl in
      let w = exec counting (turn_of 1) p l (counted (begun x (pos 0)) 1) in
      let r = Big.resume 1 p (begun x (pos 0)) in
      rounds-is p kp zp n 0 (event_of w.how) w.states w.memory r.fate r.tree r.mem r.steps one_step l room (turned d.how) d.so h

-- ---- the two theorems, for operations that correspond to those of the rules

module _ {M : Type 0} (q : Ops M) (R : Counted → M → Type 0) (like : Alike counting q R) where
  pub react-on-states : ReactsOnStates q R
  unfolding big_reaction
  react-on-states b a c m f x e z l fits agree n g =
      let p : Tree = program_of b in
      let o : ℕ = (announced b).steps in
      let w = reaction-big b a c m f x e z in
      let d = reaction-ends b a c m f x e z in
      finish b a c l fits (reaction b m x e z) d.idles
      (subst (λ (s : Ran). RoundIs p l (react counting p o e l (counted (begun x z) 0)) s) (sym w) (react-is b a c l fits m f agree o x e z (subst (λ (s : Ran). s.last.level ≡ 0) w d.grounded)))
      (react-same counting q R like p (accepts b a c).ranged o e l (counted (begun x z) 0) n g)

  pub start-on-states : StartsOnStates q R
  unfolding big_start
  start-on-states b a c x l fits idle n g =
      let p : Tree = program_of b in
      let o : ℕ = (announced b).steps in
      let w = start-big b a c x ∙ ap (λ (t : Tree). big o 1 t (begun x (pos 0)) one_step) (not-awake p (kp b a c l fits)) in
      let d = start-ends b a c x in
      finish b a c l fits (start b x) d.idles
      (subst (λ (s : Ran). RoundIs p l (begin counting p o l (counted (begun x (pos 0)) 0)) s) (sym w) (begin-is b a c l fits idle o x (subst (λ (s : Ran). s.last.level ≡ 0) w d.grounded)))
      (begin-same counting q R like p (accepts b a c).ranged o l (counted (begun x (pos 0)) 0) n g)
