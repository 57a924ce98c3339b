-- A walk changes the states at the places of its own tree alone, whatever they are.
use Rattle.std.specs.Prelude.{Bool, true, List, ℕ, eqb, get_or, set, if◌then◌else◌}
use Rattle.std.proofs.Math.Bool.{false}
use Rattle.rules.specs.Tree.{Par, Tree, act, and, at_loop, at_par, await, break, canrun, emit, every, fin, ifvar, loop, nop, or, par, seq}
use Rattle.theory.specs.State.{Ops, How, idle, ended, broke, waiting, ringing, Walk, walk, Swept, swept, Then, sweep_held, sweep_both, sweep, exec_seq, exec_loop, after_right, exec_par, exec, resume_if, resume_seq, resume_loop, take_turn, right_alone, resume_both, resume_held, resume}
use Rattle.theory.specs.Frame.{At, Within, Laid, Fork, Stem, within-refl, within-trans, part-within, set-within, leaf-own, stem-own, body-part, fork-own, left-part, right-part}

module _ {M : Type 0} (o : Ops M) where
  -- what a walk that begins anywhere does to the states: it keeps to the places of t
  abbrev pub Sweeps : Tree → (List ℕ → M → Swept M) → Type 0
  Sweeps t f = (l : List ℕ) (m : M) → Within t l (f l m).states

  abbrev pub Keeps : Tree → Then M → Type 0
  Keeps t f = (l : List ℕ) (m : M) → Within t l (f l m).states

  -- ---- clear

  either-kept : {t : Tree} {l : List ℕ} (b : Bool) (x y : Swept M) → Within t l x.states → Within t l y.states → Within t l (if b then x else y).states
  either-kept true x y a c = a
  either-kept false x y a c = c

  pub sweep-kept : (t : Tree) → Laid t → Sweeps t (sweep o t)
  unfolding sweep Laid Sweeps
  sweep-kept (nop i) z l m = set-within l i 0 (leaf-own z)
  sweep-kept (act i a v k) z l m = set-within l i 0 (leaf-own z)
  sweep-kept (await i s e) z l m = set-within l i 0 (leaf-own z)
  sweep-kept (emit i e y) z l m = set-within l i 0 (leaf-own z)
  sweep-kept (break i) z l m = set-within l i 0 (leaf-own z)
  sweep-kept (ifvar i v p q) z l m =
      let r = sweep o p l m in
      let a = part-within (left-part z.0) (sweep-kept p z.1 l m) in
      either-kept r.lived r (sweep o q r.states r.memory) a (within-trans a (part-within (right-part z.0) (sweep-kept q z.2 r.states r.memory)))
  sweep-kept (seq i p q) z l m =
      let r = sweep o p l m in
      let a = part-within (left-part z.0) (sweep-kept p z.1 l m) in
      either-kept r.lived r (sweep o q r.states r.memory) a (within-trans a (part-within (right-part z.0) (sweep-kept q z.2 r.states r.memory)))
  sweep-kept (loop i p) z l m = part-within (body-part z.0) (sweep-kept p z.1 l m)
  sweep-kept (every i s e p) z l m = set-within l i 0 (stem-own z.0)
  sweep-kept (par i c p q) z l m =
      let r = sweep o p (set l i 0) m in
      let a = within-trans (set-within l i 0 (fork-own z.0)) (part-within (left-part z.0) (sweep-kept p z.1 (set l i 0) m)) in
      either-kept (eqb (get_or l i 0) 0) (sweep_both o r (sweep o q r.states r.memory)) (sweep_held o r) (within-trans a (part-within (right-part z.0) (sweep-kept q z.2 r.states r.memory))) a
  sweep-kept (fin i p) z l m = either-kept (eqb (get_or l i 0) 0) (swept false l m) _ within-refl (set-within l i 0 (stem-own z.0))
  sweep-kept (canrun i k) z l m = absurd z
  sweep-kept (at_loop i p q) z l m = absurd z
  sweep-kept (at_par i c p q) z l m = absurd z

  -- ---- a fresh tree; what the left did is kept already, what the right does is kept from anywhere

  choice-kept : {t : Tree} {l : List ℕ} (b : Bool) (x y : Walk M) → Within t l x.states → Within t l y.states → Within t l (if b then x else y).states
  choice-kept true x y a c = a
  choice-kept false x y a c = c

  module _ {t p q : Tree} {i : ℕ} (z : Fork t i p q) {l : List ℕ} where
    seq-kept : (h : How) (r : Walk M) (right : Then M) → Within t l r.states → Keeps q right → Within t l (exec_seq o h r right).states
    unfolding Keeps
    seq-kept idle r right a f = a
    seq-kept ended r right a f = within-trans a (part-within (right-part z) (f r.states (o.tick r.memory)))
    seq-kept broke r right a f = a
    seq-kept waiting r right a f = a
    seq-kept (ringing e) r right a f = a

    after_kept : (c : Par) → Laid p → (h : How) (r : Walk M) → Within t l r.states → Within t l (after_right o c p h r).states
    unfolding Sweeps
    after_kept c y idle r a = a
    after_kept and y ended r a = a
    after_kept or y ended r a = within-trans a (part-within (left-part z) (sweep-kept p y r.states (o.tick r.memory)))
    after_kept c y broke r a = within-trans a (part-within (left-part z) (sweep-kept p y r.states (o.tick r.memory)))
    after_kept c y waiting r a = a
    after_kept c y (ringing e) r a = a

    par-kept : (n : ℕ) (c : Par) → Laid p → (h : How) (r : Walk M) (right : Then M) → Within t l r.states → Keeps q right → Within t l (exec_par o n i c p h r right).states
    unfolding Keeps
    par-kept n c y idle r right a f = a
    par-kept n and y ended r right a f = within-trans a (part-within (right-part z) (f r.states (o.tick (o.tick (o.tick r.memory)))))
    par-kept n or y ended r right a f = a
    par-kept n c y broke r right a f = a
    par-kept n c y waiting r right a f =
        let s = right r.states (o.tick (o.tick r.memory)) in
        after_kept c y s.how s (within-trans a (part-within (right-part z) (f r.states (o.tick (o.tick r.memory)))))
    par-kept n c y (ringing e) r right a f = within-trans a (set-within r.states i n (fork-own z))

  loop-kept : {t : Tree} {l : List ℕ} (h : How) (r : Walk M) → Within t l r.states → Within t l (exec_loop o h r).states
  loop-kept idle r a = a
  loop-kept ended r a = a
  loop-kept broke r a = a
  loop-kept waiting r a = a
  loop-kept (ringing e) r a = a

  module _ (n : ℕ) where
    pub exec_kept : (t : Tree) → Laid t → Keeps t (exec o n t)
    unfolding exec Laid Keeps
    exec_kept (nop i) z l m = within-refl
    exec_kept (act i a v k) z l m = within-refl
    exec_kept (await i s e) z l m = set-within l i 1 (leaf-own z)
    exec_kept (emit i e y) z l m = set-within l i n (leaf-own z)
    exec_kept (break i) z l m = within-refl
    exec_kept (ifvar i v p q) z l m =
        choice-kept (o.test v m) (exec o n p l (o.tick m)) (exec o n q l (o.tick m)) (part-within (left-part z.0) (exec_kept p z.1 l (o.tick m))) (part-within (right-part z.0) (exec_kept q z.2 l (o.tick m)))
    exec_kept (seq i p q) z l m = let r = exec o n p l m in seq-kept z.0 r.how r (exec o n q) (part-within (left-part z.0) (exec_kept p z.1 l m)) (exec_kept q z.2)
    exec_kept (loop i p) z l m = let r = exec o n p l (o.tick m) in loop-kept r.how r (part-within (body-part z.0) (exec_kept p z.1 l (o.tick m)))
    exec_kept (every i s e p) z l m = set-within l i 1 (stem-own z.0)
    exec_kept (par i c p q) z l m = let r = exec o n p l (o.tick m) in par-kept z.0 n c z.1 r.how r (exec o n q) (part-within (left-part z.0) (exec_kept p z.1 l (o.tick m))) (exec_kept q z.2)
    exec_kept (fin i p) z l m = set-within l i 1 (stem-own z.0)
    exec_kept (canrun i k) z l m = absurd z
    exec_kept (at_loop i p q) z l m = absurd z
    exec_kept (at_par i c p q) z l m = absurd z

    -- ---- a tree that has begun

    module _ {t p q : Tree} {i : ℕ} (z : Fork t i p q) {l : List ℕ} where
      resume-if-kept : (h : How) (r : Walk M) (right : Then M) → Within t l r.states → Keeps q right → Within t l (resume_if o h r right).states
      unfolding Keeps
      resume-if-kept idle r right a f = within-trans a (part-within (right-part z) (f r.states r.memory))
      resume-if-kept ended r right a f = a
      resume-if-kept broke r right a f = a
      resume-if-kept waiting r right a f = a
      resume-if-kept (ringing e) r right a f = a

      resume-seq-kept : (h : How) (r : Walk M) (right fresh : Then M) → Within t l r.states → Keeps q right → Keeps q fresh → Within t l (resume_seq o h r right fresh).states
      unfolding Keeps
      resume-seq-kept idle r right fresh a f g = within-trans a (part-within (right-part z) (f r.states r.memory))
      resume-seq-kept ended r right fresh a f g = within-trans a (part-within (right-part z) (g r.states (o.tick r.memory)))
      resume-seq-kept broke r right fresh a f g = a
      resume-seq-kept waiting r right fresh a f g = a
      resume-seq-kept (ringing e) r right fresh a f g = a

      turn-kept : (fresh : Then M) (k : List ℕ) (m : M) → Within t l k → Keeps q fresh → Within t l (take_turn o n i fresh k m).states
      unfolding Keeps
      turn-kept fresh k m a g = choice-kept (eqb (get_or k i 0) n) (fresh (set k i 0) (o.tick (o.tick m))) (walk waiting k m) (within-trans a (within-trans (set-within k i 0 (fork-own z)) (part-within (right-part z) (g (set k i 0) (o.tick (o.tick m)))))) a

      alone-kept : (h : How) (r : Walk M) → Within t l r.states → Within t l (right_alone o h r).states
      alone-kept idle r a = a
      alone-kept ended r a = a
      alone-kept broke r a = a
      alone-kept waiting r a = a
      alone-kept (ringing e) r a = a

      both-kept : (c : Par) → Laid p → Laid q → (h : How) (r : Walk M) (right : Then M) → Within t l r.states → Keeps q right → Within t l (resume_both o c p q h r right).states
      unfolding Keeps Sweeps
      both-kept c y x idle r right a f = within-trans a (part-within (right-part z) (f r.states r.memory))
      both-kept and y x ended r right a f = let s = right r.states r.memory in alone-kept s.how s (within-trans a (part-within (right-part z) (f r.states r.memory)))
      both-kept or y x ended r right a f = within-trans a (part-within (right-part z) (sweep-kept q x r.states r.memory))
      both-kept c y x broke r right a f = within-trans a (part-within (right-part z) (sweep-kept q x r.states r.memory))
      both-kept c y x waiting r right a f = let s = right r.states r.memory in after_kept z c y s.how s (within-trans a (part-within (right-part z) (f r.states r.memory)))
      both-kept c y x (ringing e) r right a f = a

      held_kept : (c : Par) → Laid p → (h : How) (r : Walk M) (fresh : Then M) → Within t l r.states → Keeps q fresh → Within t l (resume_held o n i c p h r fresh).states
      held_kept c y idle r fresh a g = turn-kept fresh r.states r.memory a g
      held_kept and y ended r fresh a g = turn-kept fresh r.states (o.tick r.memory) a g
      held_kept or y ended r fresh a g = within-trans a (set-within r.states i 0 (fork-own z))
      held_kept c y broke r fresh a g = within-trans a (set-within r.states i 0 (fork-own z))
      held_kept c y waiting r fresh a g = let s = take_turn o n i fresh r.states r.memory in after_kept z c y s.how s (turn-kept fresh r.states r.memory a g)
      held_kept c y (ringing e) r fresh a g = a

    resume-loop-kept : {t p : Tree} {i : ℕ} → Stem t i p → {l : List ℕ} (h : How) (r : Walk M) (fresh : Then M) → Within t l r.states → Keeps p fresh → Within t l (resume_loop o h r fresh).states
    unfolding Keeps
    resume-loop-kept z idle r fresh a g = a
    resume-loop-kept z ended r fresh a g = let s = fresh r.states (o.tick (o.tick r.memory)) in loop-kept s.how s (within-trans a (part-within (body-part z) (g r.states (o.tick (o.tick r.memory)))))
    resume-loop-kept z broke r fresh a g = a
    resume-loop-kept z waiting r fresh a g = a
    resume-loop-kept z (ringing e) r fresh a g = a

    -- idle, or set to something, or as it was
    own-kept : {t : Tree} {i : ℕ} → At t i → (l : List ℕ) (x y : Bool) (v : ℕ) (h k : How) (m m' : M) → Within t l (if x then walk idle l m else (if y then walk h (set l i v) m' else walk k l m)).states
    own-kept a l true y v h k m m' = within-refl
    own-kept {i = i} a l false true v h k m m' = set-within l i v a
    own-kept a l false false v h k m m' = within-refl

    pub resume-kept : (t : Tree) → Laid t → Keeps t (resume o n t)
    unfolding resume Laid Keeps
    resume-kept (nop i) z l m = within-refl
    resume-kept (act i a v k) z l m = within-refl
    resume-kept (await i s e) z l m = own-kept (leaf-own z) l (eqb (get_or l i 0) 0) (eqb (get_or l i 0) 2) 0 ended waiting m m
    resume-kept (emit i e y) z l m = own-kept (leaf-own z) l (eqb (get_or l i 0) 0) (eqb (get_or l i 0) n) 0 ended waiting m (o.tick m)
    resume-kept (break i) z l m = within-refl
    resume-kept (ifvar i v p q) z l m = let r = resume o n p l m in resume-if-kept z.0 r.how r (resume o n q) (part-within (left-part z.0) (resume-kept p z.1 l m)) (resume-kept q z.2)
    resume-kept (seq i p q) z l m = let r = resume o n p l m in resume-seq-kept z.0 r.how r (resume o n q) (exec o n q) (part-within (left-part z.0) (resume-kept p z.1 l m)) (resume-kept q z.2) (exec_kept q z.2)
    resume-kept (loop i p) z l m = let r = resume o n p l m in resume-loop-kept z.0 r.how r (exec o n p) (part-within (body-part z.0) (resume-kept p z.1 l m)) (exec_kept p z.1)
    resume-kept (every i s e p) z l m = own-kept (stem-own z.0) l (eqb (get_or l i 0) 0) (eqb (get_or l i 0) 2) 1 waiting waiting m _
    resume-kept (par i c p q) z l m =
        let r = resume o n p l m in
        let a = part-within (left-part z.0) (resume-kept p z.1 l m) in
        choice-kept (eqb (get_or l i 0) 0) (resume_both o c p q r.how r (resume o n q)) (resume_held o n i c p r.how r (exec o n q)) (both-kept z.0 c z.1 z.2 r.how r (resume o n q) a (resume-kept q z.2)) (held_kept z.0 c z.1 r.how r (exec o n q) a (exec_kept q z.2))
    resume-kept (fin i p) z l m = choice-kept (eqb (get_or l i 0) 0) (walk idle l m) (walk waiting l m) within-refl within-refl
    resume-kept (canrun i k) z l m = absurd z
    resume-kept (at_loop i p q) z l m = absurd z
    resume-kept (at_par i c p q) z l m = absurd z
