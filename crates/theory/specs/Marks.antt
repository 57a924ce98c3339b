-- The waiting places of the tree that is read from fitting marks are the marked places.
use Rattle.std.specs.Prelude.{◌≡◌, refl, Bool, true, false, ◌&&◌, List, [], ◌∷◌, ◌++◌, ℕ, if◌then◌else◌}
use Rattle.std.proofs.Common.{ap, ◌∙◌, append-nil}
use Rattle.std.proofs.Math.Option.{Option, none, some}
use Rattle.rules.specs.Stages.{is_some}
use Rattle.rules.specs.Tree.{Par, Tree, act, at_loop, at_par, await, break, canrun, emit, every, fin, ifvar, loop, nop, par, seq}
use Rattle.rules.specs.Marks.{marked, misfit, misfits, par_misfit, rest_if, rest_loop, rest_of, rest_par, rest_seq, waits}
use Rattle.theory.specs.Logic.{nil-left, nil-right}

-- the places that may be marked, in order
unfoldable pub spots : Tree → List ℕ
spots (nop i) = []
spots (act i a v k) = []
spots (await i s e) = i ∷ []
spots (emit i e y) = []
spots (break i) = []
spots (ifvar i v p q) = spots p ++ spots q
spots (seq i p q) = spots p ++ spots q
spots (loop i p) = spots p
spots (every i s e p) = i ∷ []
spots (par i o p q) = spots p ++ spots q
spots (fin i p) = i ∷ []
spots (canrun i k) = []
spots (at_loop i p q) = []
spots (at_par i o p q) = []

-- those of a list of places that are marked
unfoldable pub kept : List ℕ → List ℕ → List ℕ
kept m [] = []
kept m (i ∷ is) = if marked m i then i ∷ kept m is else kept m is

kept_append : (m a b : List ℕ) → kept m (a ++ b) ≡ kept m a ++ kept m b
unfolding kept
kept_append m [] b = refl
kept_append m (i ∷ is) b = go (marked m i) (kept_append m is b)
  where
    go : (c : Bool) → kept m (is ++ b) ≡ kept m is ++ kept m b → (if c then i ∷ kept m (is ++ b) else kept m (is ++ b)) ≡ (if c then i ∷ kept m is else kept m is) ++ kept m b
    go true h = ap (λ l. i ∷ l) h
    go false h = h

abbrev pub waits_o : Option Tree → List ℕ
waits_o none = []
waits_o (some t) = waits t

seq-rest : (i : ℕ) (q : Tree) (op oq : Option Tree) (kp kq : List ℕ) → waits_o op ≡ kp → waits_o oq ≡ kq → misfit i (is_some op && is_some oq) ≡ [] → waits_o (rest_seq i op q oq) ≡ kp ++ kq
unfolding waits
seq-rest i q none oq kp kq ep eq e = cc
seq-rest i q (some p) none kp kq ep eq e = rw (← ep, ← eq, append-nil)
seq-rest i q (some p) (some q') kp kq ep eq e = cc

if-rest : (i : ℕ) (op oq : Option Tree) (kp kq : List ℕ) → waits_o op ≡ kp → waits_o oq ≡ kq → misfit i (is_some op && is_some oq) ≡ [] → waits_o (rest_if op oq) ≡ kp ++ kq
if-rest i none oq kp kq ep eq e = cc
if-rest i (some p) none kp kq ep eq e = rw (← ep, ← eq, append-nil)
if-rest i (some p) (some q') kp kq ep eq e = cc

par-rest : (i : ℕ) (o : Par) (op oq : Option Tree) (kp kq : List ℕ) → waits_o op ≡ kp → waits_o oq ≡ kq → waits_o (rest_par i o op oq) ≡ kp ++ kq
unfolding waits
par-rest i o none oq kp kq ep eq = cc
par-rest i o (some p) none kp kq ep eq = rw (← ep, ← eq, append-nil)
par-rest i o (some p) (some q) kp kq ep eq = cc

loop-rest : (i : ℕ) (p : Tree) (op : Option Tree) → waits_o (rest_loop i p op) ≡ waits_o op
unfolding waits
loop-rest i p none = refl
loop-rest i p (some r) = refl

leaf-rest : (m : List ℕ) (i : ℕ) (t : Tree) → waits t ≡ i ∷ [] → waits_o (if marked m i then some t else none) ≡ kept m (i ∷ [])
unfolding kept
leaf-rest m i t e = go (marked m i)
  where
    go : (c : Bool) → waits_o (if c then some t else none) ≡ (if c then i ∷ [] else [])
    go true = e
    go false = refl

-- what a construct's fitting says of its parts
pub record Parts (m : List ℕ) (own : List ℕ) (p q : Tree) : Type 0 where
  pub here : own ≡ []
  pub left : misfits m p ≡ []
  pub right : misfits m q ≡ []

pub parts : (m own : List ℕ) (p q : Tree) → own ++ (misfits m p ++ misfits m q) ≡ [] → Parts m own p q
parts m own p q h =
    let h' = nil-right own (misfits m p ++ misfits m q) h in
    record { here = nil-left own (misfits m p ++ misfits m q) h; left = nil-left (misfits m p) (misfits m q) h'; right = nil-right (misfits m p) (misfits m q) h' }

-- the waiting places of the tree at rest are the marked ones of the program
pub waits-rest : (m : List ℕ) (t : Tree) → misfits m t ≡ [] → waits_o (rest_of m t) ≡ kept m (spots t)
unfolding rest_of misfits spots kept
waits-rest m (nop i) h = refl
waits-rest m (act i a v k) h = refl
waits-rest m (await i s e) h = leaf-rest m i (await i s e) (unfold waits in refl)
waits-rest m (emit i e y) h = refl
waits-rest m (break i) h = refl
waits-rest m (ifvar i v p q) h =
    let f = parts m (misfit i (is_some (rest_of m p) && is_some (rest_of m q))) p q h in
    rw kept_append (if-rest i (rest_of m p) (rest_of m q) (kept m (spots p)) (kept m (spots q)) (waits-rest m p f.left) (waits-rest m q f.right) f.here)
waits-rest m (seq i p q) h =
    let f = parts m (misfit i (is_some (rest_of m p) && is_some (rest_of m q))) p q h in
    rw kept_append (seq-rest i q (rest_of m p) (rest_of m q) (kept m (spots p)) (kept m (spots q)) (waits-rest m p f.left) (waits-rest m q f.right) f.here)
waits-rest m (loop i p) h = loop-rest i p (rest_of m p) ∙ waits-rest m p h
waits-rest m (every i s e p) h = leaf-rest m i (every i s e p) (unfold waits in refl)
waits-rest m (par i o p q) h =
    let f = parts m (par_misfit i o (is_some (rest_of m p)) (is_some (rest_of m q))) p q h in
    rw kept_append (par-rest i o (rest_of m p) (rest_of m q) (kept m (spots p)) (kept m (spots q)) (waits-rest m p f.left) (waits-rest m q f.right))
waits-rest m (fin i p) h = leaf-rest m i (fin i p) (unfold waits in refl)
waits-rest m (canrun i k) h = refl
waits-rest m (at_loop i p q) h = refl
waits-rest m (at_par i o p q) h = refl
