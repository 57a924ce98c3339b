-- The events that the marked places of a program wait for are those of the tree at rest where the marks fit; and the event of one place.
-- Assumes nothing.
use Rattle.std.specs.Prelude.{if◌then◌else◌}
use mathlib.Core.Path.{◌≡◌, refl, sym, ◌∙◌}
use mathlib.Core.Bool.{Bool, true, false, ◌&&◌, ◌||◌}
use mathlib.Core.List.{List, []}
use mathlib.Core.Option.{Option, none, some}
use Prim.Native.Nat.{ℕ, ◌*◌, ◌%◌, ◌^◌, ◌≤◌}
use native.Mathlib.Omega.{arith}
use lib.Count.{ones}
use lib.Dec.{T, eqb}
use lib.ListN.{length, get_or}
use borrow.Author.Tests.{eqb-true}
use Rattle.rules.specs.Stages.{is_some, first_refusal}
use Rattle.rules.specs.Limits.{most_name}
use Rattle.rules.specs.Tree.{Tree, nop, act, await, emit, break, ifvar, seq, loop, every, par, fin, canrun, at_loop, at_par, Par, Source}
use Rattle.rules.specs.Table.{kind_at, name_at, program_of, in_kinds_table}
use Rattle.rules.specs.Marks.{marked, marks_stages, rest_seq, rest_if, rest_loop, rest_par, rest_of, or_nop, at_rest, misfit, par_misfit, misfits}
use Rattle.rules.specs.Query.{stirs, awaited}
use Rattle.theory.specs.Marks.{parts}
use Rattle.theory.proofs.Accepted.{fitting}
use Rattle.table.specs.Places.{tree_of}
use Rattle.marks.specs.Awaited.{event_set, heard_by, awaited_set, hears_at, heard_at, lowest_bit}
use Rattle.marks.proofs.Ranges.{name-range, event-name}
use Rattle.marks.proofs.EventSets.{same_set, no-events, one_shifted, set-number, set-lowest}

-- some marked await or every of a program that the test names
unfoldable pub listens : List ℕ → (ℕ → Source → ℕ → Bool) → Tree → Bool
listens m w (nop i) = false
listens m w (act i a v k) = false
listens m w (await i s e) = w i s e && marked m i
listens m w (emit i e y) = false
listens m w (break i) = false
listens m w (ifvar i v p q) = listens m w p || listens m w q
listens m w (seq i p q) = listens m w p || listens m w q
listens m w (loop i p) = listens m w p
listens m w (every i s e p) = w i s e && marked m i
listens m w (par i o p q) = listens m w p || listens m w q
listens m w (fin i p) = false
listens m w (canrun i k) = false
listens m w (at_loop i p q) = false
listens m w (at_par i o p q) = false

pub or-none : (x : Bool) → x ≡ (x || false)
or-none true = refl
or-none false = refl

-- ---- where the marks fit, what listens is what stirs in the tree at rest

module _ (w : ℕ → Source → ℕ → Bool) where
  abbrev stirs_o : Option Tree → Bool
  stirs_o none = false
  stirs_o (some t) = stirs w t

  seq-stirs : (i : ℕ) (q : Tree) (a b : Option Tree) → misfit i (is_some a && is_some b) ≡ [] → stirs_o (rest_seq i a q b) ≡ (stirs_o a || stirs_o b)
  unfolding stirs
  seq-stirs i q none b h = refl
  seq-stirs i q (some p) none h = or-none (stirs w p)
  seq-stirs i q (some p) (some r) h = cc

  if-stirs : (i : ℕ) (a b : Option Tree) → misfit i (is_some a && is_some b) ≡ [] → stirs_o (rest_if a b) ≡ (stirs_o a || stirs_o b)
  if-stirs i none b h = refl
  if-stirs i (some p) none h = or-none (stirs w p)
  if-stirs i (some p) (some r) h = cc

  par-stirs : (i : ℕ) (o : Par) (a b : Option Tree) → stirs_o (rest_par i o a b) ≡ (stirs_o a || stirs_o b)
  unfolding stirs
  par-stirs i o none b = refl
  par-stirs i o (some p) none = or-none (stirs w p)
  par-stirs i o (some p) (some q) = refl

  loop-stirs : (i : ℕ) (p : Tree) (a : Option Tree) → stirs_o (rest_loop i p a) ≡ stirs_o a
  unfolding stirs
  loop-stirs i p none = refl
  loop-stirs i p (some r) = refl

  self-stirs : (x y : Bool) (t : Tree) → stirs w t ≡ y → stirs_o (if x then some t else none) ≡ (y && x)
  self-stirs true true t e = e
  self-stirs true false t e = e
  self-stirs false true t e = refl
  self-stirs false false t e = refl

  fin-stirs : (x : Bool) (i : ℕ) (p : Tree) → stirs_o (if x then some (fin i p) else none) ≡ false
  unfolding stirs
  fin-stirs true i p = refl
  fin-stirs false i p = refl

  rest-stirs : (m : List ℕ) (t : Tree) → misfits m t ≡ [] → stirs_o (rest_of m t) ≡ listens m w t
  unfolding rest_of misfits listens
  rest-stirs m (nop i) h = refl
  rest-stirs m (act i a v k) h = refl
  rest-stirs m (await i s e) h = self-stirs (marked m i) (w i s e) (await i s e) (unfold stirs in refl)
  rest-stirs m (emit i e y) h = refl
  rest-stirs m (break i) h = refl
  rest-stirs m (ifvar i v p q) h =
      let f = parts m (misfit i (is_some (rest_of m p) && is_some (rest_of m q))) p q h in
      rw (← rest-stirs m p f.left, ← rest-stirs m q f.right) (if-stirs i (rest_of m p) (rest_of m q) f.here)
  rest-stirs m (seq i p q) h =
      let f = parts m (misfit i (is_some (rest_of m p) && is_some (rest_of m q))) p q h in
      rw (← rest-stirs m p f.left, ← rest-stirs m q f.right) (seq-stirs i q (rest_of m p) (rest_of m q) f.here)
  rest-stirs m (loop i p) h = loop-stirs i p (rest_of m p) ∙ rest-stirs m p h
  rest-stirs m (every i s e p) h = self-stirs (marked m i) (w i s e) (every i s e p) (unfold stirs in refl)
  rest-stirs m (par i o p q) h =
      let f = parts m (par_misfit i o (is_some (rest_of m p)) (is_some (rest_of m q))) p q h in
      rw (← rest-stirs m p f.left, ← rest-stirs m q f.right) (par-stirs i o (rest_of m p) (rest_of m q))
  rest-stirs m (fin i p) h = fin-stirs (marked m i) i p
  rest-stirs m (canrun i k) h = refl
  rest-stirs m (at_loop i p q) h = refl
  rest-stirs m (at_par i o p q) h = refl

  or-nop : (o : Option Tree) → stirs w (or_nop o) ≡ stirs_o o
  unfolding stirs
  or-nop none = refl
  or-nop (some t) = refl

  stirs-rest : (m : List ℕ) (t : Tree) → misfits m t ≡ [] → listens m w t ≡ stirs w (at_rest m t)
  unfolding at_rest
  stirs-rest m t h = sym (or-nop (rest_of m t) ∙ rest-stirs m t h)

pub set_rest : (b m : List ℕ) → first_refusal (marks_stages b m) ≡ none → event_set (λ e. listens m (heard_by e) (tree_of b 0)) ≡ awaited_set (at_rest m (program_of b))
unfolding awaited_set tree_of program_of
set_rest b m h = same_set (λ e. listens m (heard_by e) (program_of b)) (λ e. stirs (heard_by e) (at_rest m (program_of b))) (λ e. stirs-rest (heard_by e) m (program_of b) (fitting b m h))

pub awaited-number : (t : Tree) → ones (awaited_set t) ≡ length (awaited t)
unfolding awaited_set awaited
awaited-number t = set-number (λ e. stirs (heard_by e) t)

pub awaited-lowest : (t : Tree) → lowest_bit (awaited_set t) ≡ get_or (awaited t) 0 0
unfolding awaited_set awaited
awaited-lowest t = set-lowest (λ e. stirs (heard_by e) t)

-- ---- what a record listens for by itself

-- await input or every input
data Hears (k : ℕ) : Type 0 where
  awaits : k ≡ 8 → Hears k
  everies : k ≡ 15 → Hears k

hears : (k : ℕ) → (eqb k 8 || eqb k 15) ≡ true → Hears k
hears k h = go (eqb k 8) refl (eqb k 15) refl h
  where
    go : (x : Bool) → eqb k 8 ≡ x → (y : Bool) → eqb k 15 ≡ y → (x || y) ≡ true → Hears k
    go true e y f h = awaits (eqb-true k 8 e)
    go false e true f h = everies (eqb-true k 15 f)
    go false e false f h = let z : ◌≡◌ {A = ℕ} 0 1 = cc in absurd (omega arith)

-- stage 3 at an await or an every
name-most : (b : List ℕ) (i : ℕ) → T (in_kinds_table b i) → {k : ℕ} → k ≡ kind_at b i → (eqb k 8 || eqb k 15) ≡ true → (1 ≤ name_at b i) × (name_at b i ≤ most_name)
name-most b i t {k} q h = go (hears k h)
  where
    go : Hears k → (1 ≤ name_at b i) × (name_at b i ≤ most_name)
    go (awaits e) = event-name (name_at b i) (rw (sym q ∙ e) at (name-range b i t))
    go (everies e) = event-name (name_at b i) (rw (sym q ∙ e) at (name-range b i t))

and-false : (x : Bool) → (x && false) ≡ false
and-false true = refl
and-false false = refl

and-true : (x : Bool) → (x && true) ≡ x
and-true true = refl
and-true false = refl

-- as the code finds it: k is the kind here
module _ (b m : List ℕ) (i : ℕ) where
  -- by a test that agrees
  set-by : (f : ℕ → Bool) → ((e : ℕ) → hears_at b m i e ≡ f e) → heard_at b m i ≡ event_set f
  unfolding heard_at
  set-by f h = same_set (hears_at b m i) f h

  pub hears-nothing : marked m i ≡ false → 0 ≡ heard_at b m i
  hears-nothing n = sym (set-by (λ e. false) (λ e. rw (n, and-false (eqb e (name_at b i))) (and-false (eqb (kind_at b i) 8 || eqb (kind_at b i) 15))) ∙ no-events)

  module _ {k : ℕ} (q : kind_at b i ≡ k) where
    pub hears-other : (eqb k 8 || eqb k 15) ≡ false → 0 ≡ heard_at b m i
    hears-other h = sym (set-by (λ e. false) (λ e. rw (q, h)) ∙ no-events)

    pub hears-name : (eqb k 8 || eqb k 15) ≡ true → T (in_kinds_table b i) → {n : ℕ} → n ≡ name_at b i → marked m i ≡ true → (1 * 2 ^ n) % 2 ^ 64 ≡ heard_at b m i
    hears-name h t {n} g e =
        let l = name-most b i t (sym q) h in
        rw g (one_shifted (name_at b i) l.0 l.1 ∙ sym (set-by (λ x. eqb x (name_at b i)) (λ x. rw (q, h, e) (and-true (eqb x (name_at b i))))))
