-- The walks over the states do not look into the memory: on memories that correspond they take the same way and leave memories that correspond.
use Rattle.std.specs.Prelude.{◌≡◌, Bool, not, ◌&&◌, ◌||◌, List, eqb, ℤ, get_or, set, if◌then◌else◌, cond}
use Rattle.std.proofs.Common.{subst}
use Rattle.std.proofs.Math.Bool.{true, false}
use Prim.Native.Nat.{ℕ, zero, suc, ◌+◌, ◌-◌, max}
use Rattle.rules.specs.Tree.{Act, Par, Tree, act, and, at_loop, at_par, await, break, canrun, emit, every, fin, ifvar, loop, nop, or, par, seq}
use Rattle.rules.specs.Step.{Event, input_event, internal_event, wakes}
use Rattle.theory.specs.Ranges.{Ranged, RightAct, RightEmit, RightTest}
use Rattle.theory.specs.State.{Ops, How, idle, ended, broke, waiting, ringing, Walk, walk, Swept, swept, Then, tick_if, sweep_own, sweep_either, sweep_both, sweep_held, settle, sweep, exec_seq, exec_loop, then_right, exec_par, exec, resume_if, resume_seq, resume_loop, take_turn, right_alone, resume_both, resume_held, resume, awake, still}
use Rattle.theory.specs.Round.{Heard, heard, heard_of, Round, round, turn_of, onward, pushed, rounds, react, begin}

-- the operations keep a relation of memories, on what the kinds table allows
pub record Alike {M N : Type 0} (o : Ops M) (q : Ops N) (R : M → N → Type 0) : Type 0 where
  pub ticks : (m : M) (n : N) → R m n → R (o.tick m) (q.tick n)
  pub acting : (a : Act) (v : ℕ) (k : ℤ) → RightAct a v k → (m : M) (n : N) → R m n → R (o.acts a v k m) (q.acts a v k n)
  pub emitting : (e : ℕ) (y : ℤ) → RightEmit e y → (m : M) (n : N) → R m n → R (o.rings e y m) (q.rings e y n)
  pub testing : (v : ℕ) → RightTest v → (m : M) (n : N) → R m n → o.test v m ≡ q.test v n

-- the same but for the memory, and memories that correspond
pub data SameSwept {M N : Type 0} (R : M → N → Type 0) : Swept M → Swept N → Type 0 where
  same-swept : (b : Bool) {l : List ℕ} {m : M} {n : N} → R m n → SameSwept R (swept b l m) (swept b l n)

pub data SameWalk {M N : Type 0} (R : M → N → Type 0) : Walk M → Walk N → Type 0 where
  same-walk : (h : How) {l : List ℕ} {m : M} {n : N} → R m n → SameWalk R (walk h l m) (walk h l n)

pub data SameHeard {M N : Type 0} (R : M → N → Type 0) : Heard M → Heard N → Type 0 where
  same-heard : {e : ℕ} {l : List ℕ} {m : M} {n : N} → R m n → SameHeard R (heard e l m) (heard e l n)

pub data SameRound {M N : Type 0} (R : M → N → Type 0) : Round M → Round N → Type 0 where
  same-round : {b : Bool} {c h : ℕ} {l : List ℕ} {m : M} {n : N} → R m n → SameRound R (round b c h l m) (round b c h l n)

module _ {M N : Type 0} (o : Ops M) (q : Ops N) (R : M → N → Type 0) (like : Alike o q R) where
  abbrev Both : Then M → Then N → Type 0
  Both k g = (l : List ℕ) (m : M) (n : N) → R m n → SameWalk R (k l m) (g l n)

  abbrev BothSwept : (List ℕ → M → Swept M) → (List ℕ → N → Swept N) → Type 0
  BothSwept k g = (l : List ℕ) (m : M) (n : N) → R m n → SameSwept R (k l m) (g l n)

  tick : {m : M} {n : N} → R m n → R (o.tick m) (q.tick n)
  tick {m} {n} r = like.ticks m n r

  tick-if : (b : Bool) {m : M} {n : N} → R m n → R (tick_if o b m) (tick_if q b n)
  tick-if true r = tick r
  tick-if false r = r

  pick {ℓ} : {A : Type ℓ} {B : Type ℓ} (P : A → B → Type 0) (b : Bool) {x y : A} {u v : B} → P x u → P y v → P (cond b x y) (cond b u v)
  pick P true a b = a
  pick P false a b = b

  test : {A B : Type 0} (P : A → B → Type 0) (v : ℕ) → RightTest v → {m : M} {n : N} → R m n → {x y : A} {c d : B} → P x c → P y d → P (if o.test v m then x else y) (if q.test v n then c else d)
  test P v t {m} {n} r {x} {y} {c} {d} a b = subst (λ (z : Bool). P (if o.test v m then x else y) (if z then c else d)) (like.testing v t m n r) (pick P (o.test v m) a b)

  -- ---- settle and sweep

  pub settle-same : (t : Tree) → Ranged t → {m : M} {n : N} → R m n → R (settle o t m) (settle q t n)
  unfolding settle Ranged
  settle-same (nop i) g r = r
  settle-same (act i a v k) g {m} {n} r = tick (like.acting a v k g m n r)
  settle-same (await i s e) g r = r
  settle-same (emit i e y) g r = r
  settle-same (break i) g r = r
  settle-same (ifvar i v a b) g r = test R v g.0 r (settle-same a g.1 (tick r)) (settle-same b g.2 (tick r))
  settle-same (seq i a b) g r = settle-same b g.1 (tick (settle-same a g.0 r))
  settle-same (loop i a) g r = r
  settle-same (every i s e a) g r = r
  settle-same (par i c a b) g r = r
  settle-same (fin i a) g r = r
  settle-same (canrun i k) g r = r
  settle-same (at_loop i a b) g r = r
  settle-same (at_par i c a b) g r = r

  own_same : (i : ℕ) (l : List ℕ) {m : M} {n : N} → R m n → SameSwept R (sweep_own o i l m) (sweep_own q i l n)
  own_same i l r = same-swept (not (eqb (get_or l i 0) 0)) r

  either_same : {w : Swept M} {v : Swept N} {k : List ℕ → M → Swept M} {g : List ℕ → N → Swept N} → SameSwept R w v → BothSwept k g → SameSwept R (sweep_either o w k) (sweep_either q v g)
  either_same (same-swept true r) f = same-swept true r
  either_same (same-swept false {l = l} {m = m} {n = n} r) f = f l m n r

  held_same : {w : Swept M} {v : Swept N} → SameSwept R w v → SameSwept R (sweep_held o w) (sweep_held q v)
  held_same (same-swept b r) = same-swept true (tick-if b r)

  both-same : {w : Swept M} {v : Swept N} {k : List ℕ → M → Swept M} {g : List ℕ → N → Swept N} → SameSwept R w v → BothSwept k g → SameSwept R (sweep_both o w (k w.states w.memory)) (sweep_both q v (g v.states v.memory))
  both-same (same-swept b {l = l} {m = m} {n = n} r) f = go (f l m n r)
    where
      go : {w : Swept M} {v : Swept N} → SameSwept R w v → SameSwept R (swept (b || w.lived) w.states (tick_if o (b && w.lived) w.memory)) (swept (b || v.lived) v.states (tick_if q (b && v.lived) v.memory))
      go (same-swept c s) = same-swept (b || c) (tick-if (b && c) s)

  pub sweep-same : (t : Tree) → Ranged t → BothSwept (sweep o t) (sweep q t)
  unfolding sweep Ranged
  sweep-same (nop i) g l m n r = own_same i l r
  sweep-same (act i a v k) g l m n r = own_same i l r
  sweep-same (await i s e) g l m n r = own_same i l r
  sweep-same (emit i e y) g l m n r = own_same i l r
  sweep-same (break i) g l m n r = own_same i l r
  sweep-same (ifvar i v a b) g l m n r = either_same (sweep-same a g.1 l m n r) (sweep-same b g.2)
  sweep-same (seq i a b) g l m n r = either_same (sweep-same a g.0 l m n r) (sweep-same b g.1)
  sweep-same (loop i a) g l m n r = sweep-same a g l m n r
  sweep-same (every i s e a) g l m n r = own_same i l r
  sweep-same (par i c a b) g l m n r =
      let d = sweep-same a g.0 (set l i 0) m n r in
      pick (SameSwept R) (eqb (get_or l i 0) 0) (both-same d (sweep-same b g.1)) (held_same d)
  sweep-same (fin i a) g l m n r = pick (SameSwept R) (eqb (get_or l i 0) 0) (same-swept false r) (same-swept true (settle-same a g r))
  sweep-same (canrun i k) g l m n r = own_same i l r
  sweep-same (at_loop i a b) g l m n r = own_same i l r
  sweep-same (at_par i c a b) g l m n r = own_same i l r

  -- ---- a fresh tree

  seq-same : {w : Walk M} {v : Walk N} {k : Then M} {g : Then N} → SameWalk R w v → Both k g → SameWalk R (exec_seq o w.how w k) (exec_seq q v.how v g)
  seq-same (same-walk idle r) f = same-walk idle r
  seq-same (same-walk ended {l = l} {m = m} {n = n} r) f = f l (o.tick m) (q.tick n) (tick r)
  seq-same (same-walk broke r) f = same-walk broke (tick r)
  seq-same (same-walk waiting r) f = same-walk waiting r
  seq-same (same-walk (ringing e) r) f = same-walk (ringing e) r

  loop-same : {w : Walk M} {v : Walk N} → SameWalk R w v → SameWalk R (exec_loop o w.how w) (exec_loop q v.how v)
  loop-same (same-walk idle r) = same-walk idle r
  loop-same (same-walk ended r) = same-walk waiting r
  loop-same (same-walk broke r) = same-walk ended (tick r)
  loop-same (same-walk waiting r) = same-walk waiting r
  loop-same (same-walk (ringing e) r) = same-walk (ringing e) r

  swept-walk : (h : How) {w : Swept M} {v : Swept N} → SameSwept R w v → SameWalk R (walk h w.states w.memory) (walk h v.states v.memory)
  swept-walk h (same-swept b r) = same-walk h r

  swept-tick : (h : How) {w : Swept M} {v : Swept N} → SameSwept R w v → SameWalk R (walk h w.states (o.tick w.memory)) (walk h v.states (q.tick v.memory))
  swept-tick h (same-swept b r) = same-walk h (tick r)

  right-same : (c : Par) (a : Tree) → Ranged a → {w : Walk M} {v : Walk N} → SameWalk R w v → SameWalk R (then_right o c a w) (then_right q c a v)
  right-same c a g (same-walk idle r) = same-walk waiting r
  right-same and a g (same-walk ended r) = same-walk waiting (tick r)
  right-same or a g (same-walk ended {l = l} {m = m} {n = n} r) = swept-walk ended (sweep-same a g l (o.tick m) (q.tick n) (tick r))
  right-same c a g (same-walk broke {l = l} {m = m} {n = n} r) = swept-tick broke (sweep-same a g l (o.tick m) (q.tick n) (tick r))
  right-same c a g (same-walk waiting r) = same-walk waiting r
  right-same c a g (same-walk (ringing e) r) = same-walk (ringing e) r

  par-same : (t i : ℕ) (c : Par) (a : Tree) → Ranged a → {w : Walk M} {v : Walk N} {k : Then M} {g : Then N} → SameWalk R w v → Both k g → SameWalk R (exec_par o t i c a w.how w k) (exec_par q t i c a v.how v g)
  par-same t i c a g (same-walk idle r) f = same-walk idle r
  par-same t i and a g (same-walk ended {l = l} {m = m} {n = n} r) f = f l (o.tick (o.tick (o.tick m))) (q.tick (q.tick (q.tick n))) (tick (tick (tick r)))
  par-same t i or a g (same-walk ended r) f = same-walk ended (tick r)
  par-same t i c a g (same-walk broke r) f = same-walk broke (tick (tick r))
  par-same t i c a g (same-walk waiting {l = l} {m = m} {n = n} r) f = right-same c a g (f l (o.tick (o.tick m)) (q.tick (q.tick n)) (tick (tick r)))
  par-same t i c a g (same-walk (ringing e) r) f = same-walk (ringing e) r

  pub exec-same : (t : ℕ) (a : Tree) → Ranged a → Both (exec o t a) (exec q t a)
  unfolding exec Ranged
  exec-same t (nop i) g l m n r = same-walk ended r
  exec-same t (act i a v k) g l m n r = same-walk ended (tick (like.acting a v k g m n r))
  exec-same t (await i s e) g l m n r = same-walk waiting r
  exec-same t (emit i e y) g l m n r = same-walk (ringing e) (tick (like.emitting e y g m n r))
  exec-same t (break i) g l m n r = same-walk broke r
  exec-same t (ifvar i v a b) g l m n r = test (SameWalk R) v g.0 r (exec-same t a g.1 l (o.tick m) (q.tick n) (tick r)) (exec-same t b g.2 l (o.tick m) (q.tick n) (tick r))
  exec-same t (seq i a b) g l m n r = seq-same (exec-same t a g.0 l m n r) (exec-same t b g.1)
  exec-same t (loop i a) g l m n r = loop-same (exec-same t a g l (o.tick m) (q.tick n) (tick r))
  exec-same t (every i s e a) g l m n r = same-walk waiting r
  exec-same t (par i c a b) g l m n r = par-same t i c a g.0 (exec-same t a g.0 l (o.tick m) (q.tick n) (tick r)) (exec-same t b g.1)
  exec-same t (fin i a) g l m n r = same-walk waiting r
  exec-same t (canrun i k) g l m n r = same-walk waiting r
  exec-same t (at_loop i a b) g l m n r = same-walk waiting r
  exec-same t (at_par i c a b) g l m n r = same-walk waiting r

  -- ---- a tree that has begun

  if-same : {w : Walk M} {v : Walk N} {k : Then M} {g : Then N} → SameWalk R w v → Both k g → SameWalk R (resume_if o w.how w k) (resume_if q v.how v g)
  if-same (same-walk idle {l = l} {m = m} {n = n} r) f = f l m n r
  if-same (same-walk ended r) f = same-walk ended r
  if-same (same-walk broke r) f = same-walk broke r
  if-same (same-walk waiting r) f = same-walk waiting r
  if-same (same-walk (ringing e) r) f = same-walk (ringing e) r

  again-seq : {w : Walk M} {v : Walk N} {k x : Then M} {g y : Then N} → SameWalk R w v → Both k g → Both x y → SameWalk R (resume_seq o w.how w k x) (resume_seq q v.how v g y)
  again-seq (same-walk idle {l = l} {m = m} {n = n} r) f d = f l m n r
  again-seq (same-walk ended {l = l} {m = m} {n = n} r) f d = d l (o.tick m) (q.tick n) (tick r)
  again-seq (same-walk broke r) f d = same-walk broke (tick r)
  again-seq (same-walk waiting r) f d = same-walk waiting r
  again-seq (same-walk (ringing e) r) f d = same-walk (ringing e) r

  again-loop : {w : Walk M} {v : Walk N} {x : Then M} {y : Then N} → SameWalk R w v → Both x y → SameWalk R (resume_loop o w.how w x) (resume_loop q v.how v y)
  again-loop (same-walk idle r) d = same-walk idle r
  again-loop (same-walk ended {l = l} {m = m} {n = n} r) d = loop-same (d l (o.tick (o.tick m)) (q.tick (q.tick n)) (tick (tick r)))
  again-loop (same-walk broke r) d = same-walk ended (tick r)
  again-loop (same-walk waiting r) d = same-walk waiting r
  again-loop (same-walk (ringing e) r) d = same-walk (ringing e) r

  turn-same : (t i : ℕ) {x : Then M} {y : Then N} → Both x y → Both (take_turn o t i x) (take_turn q t i y)
  turn-same t i d l m n r = pick (SameWalk R) (eqb (get_or l i 0) t) (d (set l i 0) (o.tick (o.tick m)) (q.tick (q.tick n)) (tick (tick r))) (same-walk waiting r)

  alone-same : {w : Walk M} {v : Walk N} → SameWalk R w v → SameWalk R (right_alone o w.how w) (right_alone q v.how v)
  alone-same (same-walk idle r) = same-walk ended r
  alone-same (same-walk ended r) = same-walk ended (tick r)
  alone-same (same-walk broke r) = same-walk broke (tick r)
  alone-same (same-walk waiting r) = same-walk waiting (tick r)
  alone-same (same-walk (ringing e) r) = same-walk (ringing e) (tick r)

  cut-same : (h : How) {w : Swept M} {v : Swept N} → SameSwept R w v → SameWalk R (walk h w.states (tick_if o w.lived w.memory)) (walk h v.states (tick_if q v.lived v.memory))
  cut-same h (same-swept b r) = same-walk h (tick-if b r)

  cut_twice : (h : How) {w : Swept M} {v : Swept N} → SameSwept R w v →
      SameWalk R (walk h w.states (tick_if o w.lived (tick_if o w.lived w.memory))) (walk h v.states (tick_if q v.lived (tick_if q v.lived v.memory)))
  cut_twice h (same-swept b r) = same-walk h (tick-if b (tick-if b r))

  again-both : (c : Par) (a b : Tree) → Ranged a → Ranged b → {w : Walk M} {v : Walk N} {k : Then M} {g : Then N} → SameWalk R w v → Both k g → SameWalk R (resume_both o c a b w.how w k) (resume_both q c a b v.how v g)
  again-both c a b ga gb (same-walk idle {l = l} {m = m} {n = n} r) f = f l m n r
  again-both and a b ga gb (same-walk ended {l = l} {m = m} {n = n} r) f = alone-same (f l m n r)
  again-both or a b ga gb (same-walk ended {l = l} {m = m} {n = n} r) f = cut-same ended (sweep-same b gb l m n r)
  again-both c a b ga gb (same-walk broke {l = l} {m = m} {n = n} r) f = cut_twice broke (sweep-same b gb l m n r)
  again-both c a b ga gb (same-walk waiting {l = l} {m = m} {n = n} r) f = right-same c a ga (f l m n r)
  again-both c a b ga gb (same-walk (ringing e) r) f = same-walk (ringing e) r

  again-held : (t i : ℕ) (c : Par) (a : Tree) → Ranged a → {w : Walk M} {v : Walk N} {x : Then M} {y : Then N} → SameWalk R w v → Both x y → SameWalk R (resume_held o t i c a w.how w x) (resume_held q t i c a v.how v y)
  again-held t i c a g (same-walk idle {l = l} {m = m} {n = n} r) d = turn-same t i d l m n r
  again-held t i and a g (same-walk ended {l = l} {m = m} {n = n} r) d = turn-same t i d l (o.tick m) (q.tick n) (tick r)
  again-held t i or a g (same-walk ended r) d = same-walk ended (tick r)
  again-held t i c a g (same-walk broke r) d = same-walk broke (tick (tick r))
  again-held t i c a g (same-walk waiting {l = l} {m = m} {n = n} r) d = right-same c a g (turn-same t i d l m n r)
  again-held t i c a g (same-walk (ringing e) r) d = same-walk (ringing e) r

  pub resume-same : (t : ℕ) (a : Tree) → Ranged a → Both (resume o t a) (resume q t a)
  unfolding resume Ranged
  resume-same t (nop i) g l m n r = same-walk idle r
  resume-same t (act i a v k) g l m n r = same-walk idle r
  resume-same t (await i s e) g l m n r = pick (SameWalk R) (eqb (get_or l i 0) 0) (same-walk idle r) (pick (SameWalk R) (eqb (get_or l i 0) 2) (same-walk ended r) (same-walk waiting r))
  resume-same t (emit i e y) g l m n r = pick (SameWalk R) (eqb (get_or l i 0) 0) (same-walk idle r) (pick (SameWalk R) (eqb (get_or l i 0) t) (same-walk ended (tick r)) (same-walk waiting r))
  resume-same t (break i) g l m n r = same-walk idle r
  resume-same t (ifvar i v a b) g l m n r = if-same (resume-same t a g.1 l m n r) (resume-same t b g.2)
  resume-same t (seq i a b) g l m n r = again-seq (resume-same t a g.0 l m n r) (resume-same t b g.1) (exec-same t b g.1)
  resume-same t (loop i a) g l m n r = again-loop (resume-same t a g l m n r) (exec-same t a g)
  resume-same t (every i s e a) g l m n r =
      pick (SameWalk R) (eqb (get_or l i 0) 0) (same-walk idle r) (pick (SameWalk R) (eqb (get_or l i 0) 2) (same-walk waiting (tick (settle-same a g.1 r))) (same-walk waiting r))
  resume-same t (par i c a b) g l m n r =
      let d = resume-same t a g.0 l m n r in
      pick (SameWalk R) (eqb (get_or l i 0) 0) (again-both c a b g.0 g.1 d (resume-same t b g.1)) (again-held t i c a g.0 d (exec-same t b g.1))
  resume-same t (fin i a) g l m n r = pick (SameWalk R) (eqb (get_or l i 0) 0) (same-walk idle r) (same-walk waiting r)
  resume-same t (canrun i k) g l m n r = same-walk idle r
  resume-same t (at_loop i a b) g l m n r = same-walk idle r
  resume-same t (at_par i c a b) g l m n r = same-walk idle r

  -- ---- the round

  heard-walk : {w : Walk M} {v : Walk N} → SameWalk R w v → SameHeard R (heard_of w) (heard_of v)
  heard-walk (same-walk h r) = same-heard r

  -- what goes on from an event, states and a memory
  abbrev BothOn : (ℕ → List ℕ → M → Round M) → (ℕ → List ℕ → N → Round N) → Type 0
  BothOn f g = (e : ℕ) (l : List ℕ) (m : M) (n : N) → R m n → SameRound R (f e l m) (g e l n)

  heard-on : {w : Heard M} {v : Heard N} (f : ℕ → List ℕ → M → Round M) (g : ℕ → List ℕ → N → Round N) → SameHeard R w v → BothOn f g → SameRound R (f w.event w.states w.memory) (g v.event v.states v.memory)
  heard-on f g (same-heard {e = e} {l = l} {m = m} {n = n} r) d = d e l m n r

  module _ (p : Tree) (g : Ranged p) where
    pub onward-same : (v : ℕ) (l : List ℕ) (m : M) (n : N) → R m n → SameHeard R (onward o p v l m) (onward q p v l n)
    unfolding onward
    onward-same v l m n r = pick (SameHeard R) (still (turn_of v) p l) (same-heard r) (heard-walk (resume-same (turn_of v) p g l m n r))

    pub pushed-same : (e : Event) (v : ℕ) (l : List ℕ) (m : M) (n : N) → R m n → SameHeard R (pushed o p e v l m) (pushed q p e v l n)
    unfolding pushed
    pushed-same e v l m n r = onward-same v (awake (wakes e) p l) m n r

    pub rounds-same : (f e v c h : ℕ) (l : List ℕ) (m : M) (n : N) → R m n → SameRound R (rounds o p f e v c h l m) (rounds q p f e v c h l n)
    unfolding rounds
    rounds-same zero e v c h l m n r = same-round r
    rounds-same (suc f) e v c h l m n r =
        pick (SameRound R) (eqb e 0)
        (pick (SameRound R) (eqb v 1) (same-round (tick r))
        (heard-on (λ e l m. rounds o p f e (v - 1) c h l m) (λ e l n. rounds q p f e (v - 1) c h l n) (onward-same (v - 1) l (o.tick m) (q.tick n) (tick r)) (λ e. rounds-same f e (v - 1) c h)))
        (heard-on (λ e l m. rounds o p f e (v + 1) (c + 1) (max h (v + 1)) l m) (λ e l n. rounds q p f e (v + 1) (c + 1) (max h (v + 1)) l n) (pushed-same (internal_event e) (v + 1) l (o.tick m) (q.tick n) (tick r)) (λ e. rounds-same f e (v + 1) (c + 1) (max h (v + 1))))

    pub react-same : (f e : ℕ) (l : List ℕ) (m : M) (n : N) → R m n → SameRound R (react o p f e l m) (react q p f e l n)
    unfolding react
    react-same f e l m n r = heard-on (λ e l m. rounds o p f e 1 0 1 l m) (λ e l n. rounds q p f e 1 0 1 l n) (pushed-same (input_event e) 1 l (o.tick m) (q.tick n) (tick r)) (λ e. rounds-same f e 1 0 1)

    pub begin-same : (f : ℕ) (l : List ℕ) (m : M) (n : N) → R m n → SameRound R (begin o p f l m) (begin q p f l n)
    unfolding begin
    begin-same f l m n r = heard-on (λ e l m. rounds o p f e 1 0 1 l m) (λ e l n. rounds q p f e 1 0 1 l n) (heard-walk (exec-same (turn_of 1) p g l (o.tick m) (q.tick n) (tick r))) (λ e. rounds-same f e 1 0 1)
