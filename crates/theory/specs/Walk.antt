-- What the check's walk over a program says of the tree: stages 4, 5 and 7, and the counts N, E, D, P, Q.
use Rattle.std.specs.Prelude.{◌≡◌, refl, Bool, not, ◌&&◌, ◌||◌, ℕ, ◌+◌, ◌≤◌, max, eqb, T, length, if◌then◌else◌}
use Rattle.std.proofs.Common.{sym, ap, subst, ◌∙◌, arith, length-append}
use Rattle.std.proofs.Math.Bool.{true, false}
use mathlib.Core.List.{List, [], ◌∷◌, ◌++◌}
use Rattle.rules.specs.Tree.{Tree, act, and, assign, at_loop, at_par, await, break, canrun, compare, copy, divide, emit, every, fin, head_of, ifvar, increase, input, internal, loop, nop, or, output, par, seq, span_of, subtract}
use Rattle.rules.specs.Check.{Around, Visit, a_fin, a_loop, an_every, count, deepest, endless_loop, hits, inside_every, is_kind, is_plain, loose_break, may_end, not_plain, outside_every, visit, walk}
use Rattle.theory.specs.Logic.{or_cases, clash, nil-left, nil-right, or_right, false-not}
use Rattle.theory.specs.Program.{loose, calm-good, outputs_outside, outputs_inside, Calm, Good, Program, loop_depth, emit_count}

-- ---- hits of a walk
hits-append : (f : Visit → Bool) (a b : List Visit) → hits f (a ++ b) ≡ hits f a ++ hits f b
unfolding hits
hits-append f [] b = refl
hits-append f (v ∷ vs) b = go (f v) (hits-append f vs b)
  where
    go : (c : Bool) → hits f (vs ++ b) ≡ hits f vs ++ hits f b → (if c then v.place ∷ hits f (vs ++ b) else hits f (vs ++ b)) ≡ (if c then v.place ∷ hits f vs else hits f vs) ++ hits f b
    go true h = ap (λ l. v.place ∷ l) h
    go false h = h

-- a test hits nothing
pub record Misses (f : Visit → Bool) (vs : List Visit) : Type 0 where
  pub misses : hits f vs ≡ []

head-misses : {f : Visit → Bool} {v : Visit} {vs : List Visit} → Misses f (v ∷ vs) → f v ≡ false
head-misses {f} {v} {vs} m = go (f v) refl (unfold hits in m.misses)
  where
    go : (b : Bool) → f v ≡ b → (if b then v.place ∷ hits f vs else hits f vs) ≡ [] → f v ≡ false
    go true x y = clash (cc)
    go false x y = x

tail-misses : {f : Visit → Bool} {v : Visit} {vs : List Visit} → Misses f (v ∷ vs) → Misses f vs
tail-misses {f} {v} {vs} m = go (f v) (unfold hits in m.misses)
  where
    go : (b : Bool) → (if b then v.place ∷ hits f vs else hits f vs) ≡ [] → Misses f vs
    go true y = clash (cc)
    go false y = record { misses = y }

left-misses : (f : Visit → Bool) (a b : List Visit) → Misses f (a ++ b) → Misses f a
left-misses f a b m = record { misses = nil-left (hits f a) (hits f b) (sym (hits-append f a b) ∙ m.misses) }

right-misses : (f : Visit → Bool) (a b : List Visit) → Misses f (a ++ b) → Misses f b
right-misses f a b m = record { misses = nil-right (hits f a) (hits f b) (sym (hits-append f a b) ∙ m.misses) }

-- ---- stage 5: under an every or a fin all is calm
bad : (a : Around) (k i : ℕ) → T (a.in_every || a.in_fin) → T (not (is_plain (visit i k a))) → not_plain (visit i k a) ≡ false → ⊥
bad a k i t n e = go (a.in_every || a.in_fin) (is_plain (visit i k a)) t n e
  where
    go : (x y : Bool) → T x → T (not y) → (x && not y) ≡ false → ⊥
    go true true t n e = n
    go true false t n e = clash (cc)
    go false y t n e = t

calm_walk : (a : Around) (t : Tree) → T (a.in_every || a.in_fin) → Program t → Misses not_plain (walk a t) → Calm t
unfolding walk Calm Program head_of
calm_walk a (nop i) u h m = tt
calm_walk a (act i o v k) u h m = tt
calm_walk a (await i input e) u h m = bad a 8 i u tt (head-misses m)
calm_walk a (await i internal e) u h m = bad a 9 i u tt (head-misses m)
calm_walk a (emit i e y) u h m = bad a 10 i u tt (head-misses m)
calm_walk a (break i) u h m = bad a 11 i u tt (head-misses m)
calm_walk a (ifvar i v p q) u h m = (calm_walk a p u h.0 (left-misses not_plain (walk a p) (walk a q) (tail-misses m)), calm_walk a q u h.1 (right-misses not_plain (walk a p) (walk a q) (tail-misses m)))
calm_walk a (seq i p q) u h m = (calm_walk a p u h.0 (left-misses not_plain (walk a p) (walk a q) (tail-misses m)), calm_walk a q u h.1 (right-misses not_plain (walk a p) (walk a q) (tail-misses m)))
calm_walk a (loop i p) u h m = bad a 14 i u tt (head-misses m)
calm_walk a (every i input e p) u h m = bad a 15 i u tt (head-misses m)
calm_walk a (every i internal e p) u h m = bad a 16 i u tt (head-misses m)
calm_walk a (par i and p q) u h m = bad a 17 i u tt (head-misses m)
calm_walk a (par i or p q) u h m = bad a 18 i u tt (head-misses m)
calm_walk a (fin i p) u h m = bad a 19 i u tt (head-misses m)
calm_walk a (canrun i n) u h m = absurd h
calm_walk a (at_loop i p q) u h m = absurd h
calm_walk a (at_par i o p q) u h m = absurd h

-- stages 5 and 7 passed: a good tree
pub good-walk : (a : Around) (t : Tree) → Program t → Misses not_plain (walk a t) → Misses endless_loop (walk a t) → Good t
unfolding walk Good Program may_end head_of
good-walk a (nop i) h m n = tt
good-walk a (act i o v k) h m n = tt
good-walk a (await i s e) h m n = tt
good-walk a (emit i e y) h m n = tt
good-walk a (break i) h m n = tt
good-walk a (ifvar i v p q) h m n = (
  good-walk a p h.0 (left-misses not_plain (walk a p) (walk a q) (tail-misses m)) (left-misses endless_loop (walk a p) (walk a q) (tail-misses n)),
  good-walk a q h.1 (right-misses not_plain (walk a p) (walk a q) (tail-misses m)) (right-misses endless_loop (walk a p) (walk a q) (tail-misses n)),
)
good-walk a (seq i p q) h m n = (
  good-walk a p h.0 (left-misses not_plain (walk a p) (walk a q) (tail-misses m)) (left-misses endless_loop (walk a p) (walk a q) (tail-misses n)),
  good-walk a q h.1 (right-misses not_plain (walk a p) (walk a q) (tail-misses m)) (right-misses endless_loop (walk a p) (walk a q) (tail-misses n)),
)
good-walk a (loop i p) h m n = (good-walk (a_loop a) p h (tail-misses m) (tail-misses n), false-not (may_end p) (head-misses n))
good-walk a (every i s e p) h m n = calm_walk (an_every a) p tt h (tail-misses m)
good-walk a (par i o p q) h m n = (
  good-walk a p h.0 (left-misses not_plain (walk a p) (walk a q) (tail-misses m)) (left-misses endless_loop (walk a p) (walk a q) (tail-misses n)),
  good-walk a q h.1 (right-misses not_plain (walk a p) (walk a q) (tail-misses m)) (right-misses endless_loop (walk a p) (walk a q) (tail-misses n)),
)
good-walk a (fin i p) h m n = calm_walk (a_fin a) p (or_right a.in_every true tt) h (tail-misses m)
good-walk a (canrun i k) h m n = absurd h
good-walk a (at_loop i p q) h m n = absurd h
good-walk a (at_par i o p q) h m n = absurd h

-- ---- the counts
pub walk-size : (a : Around) (t : Tree) → Program t → length (walk a t) ≡ span_of t
unfolding walk span_of Program
walk-size a (nop i) h = refl
walk-size a (act i o v k) h = refl
walk-size a (await i s e) h = refl
walk-size a (emit i e y) h = refl
walk-size a (break i) h = refl
walk-size a (ifvar i v p q) h = omega (arith, length-append (walk a p) (walk a q), walk-size a p h.0, walk-size a q h.1)
walk-size a (seq i p q) h = omega (arith, length-append (walk a p) (walk a q), walk-size a p h.0, walk-size a q h.1)
walk-size a (loop i p) h = omega (arith, walk-size (a_loop a) p h)
walk-size a (every i s e p) h = omega (arith, walk-size (an_every a) p h)
walk-size a (par i o p q) h = omega (arith, length-append (walk a p) (walk a q), walk-size a p h.0, walk-size a q h.1)
walk-size a (fin i p) h = omega (arith, walk-size (a_fin a) p h)
walk-size a (canrun i k) h = absurd h
walk-size a (at_loop i p q) h = absurd h
walk-size a (at_par i o p q) h = absurd h

pub count-append : (f : Visit → Bool) (a b : List Visit) → count f (a ++ b) ≡ count f a + count f b
count-append f a b = ap length (hits-append f a b) ∙ length-append (hits f a) (hits f b)

pub walk-emits : (a : Around) (t : Tree) → Program t → length (hits (is_kind 10) (walk a t)) ≡ emit_count t
unfolding walk emit_count Program hits head_of
walk-emits a (nop i) h = refl
walk-emits a (act i assign v k) h = refl
walk-emits a (act i increase v k) h = refl
walk-emits a (act i copy v k) h = refl
walk-emits a (act i subtract v k) h = refl
walk-emits a (act i compare v k) h = refl
walk-emits a (act i divide v k) h = refl
walk-emits a (act i output v k) h = refl
walk-emits a (await i input e) h = refl
walk-emits a (await i internal e) h = refl
walk-emits a (emit i e y) h = refl
walk-emits a (break i) h = refl
walk-emits a (ifvar i v p q) h = omega (arith, count-append (is_kind 10) (walk a p) (walk a q), walk-emits a p h.0, walk-emits a q h.1)
walk-emits a (seq i p q) h = omega (arith, count-append (is_kind 10) (walk a p) (walk a q), walk-emits a p h.0, walk-emits a q h.1)
walk-emits a (loop i p) h = walk-emits (a_loop a) p h
walk-emits a (every i input e p) h = walk-emits (an_every a) p h
walk-emits a (every i internal e p) h = walk-emits (an_every a) p h
walk-emits a (par i and p q) h = omega (arith, count-append (is_kind 10) (walk a p) (walk a q), walk-emits a p h.0, walk-emits a q h.1)
walk-emits a (par i or p q) h = omega (arith, count-append (is_kind 10) (walk a p) (walk a q), walk-emits a p h.0, walk-emits a q h.1)
walk-emits a (fin i p) h = walk-emits (a_fin a) p h
walk-emits a (canrun i k) h = absurd h
walk-emits a (at_loop i p q) h = absurd h
walk-emits a (at_par i o p q) h = absurd h

pub deepest-append : (a b : List Visit) → deepest (a ++ b) ≡ max (deepest a) (deepest b)
unfolding deepest
deepest-append [] b = omega arith
deepest-append (v ∷ vs) b = omega (arith, deepest-append vs b)

pub walk-deep : (a : Around) (t : Tree) → Program t → loop_depth t + a.loops ≤ max (deepest (walk a t)) a.loops
unfolding walk loop_depth deepest Program head_of
walk-deep a (nop i) h = omega arith
walk-deep a (act i o v k) h = omega arith
walk-deep a (await i s e) h = omega arith
walk-deep a (emit i e y) h = omega arith
walk-deep a (break i) h = omega arith
walk-deep a (ifvar i v p q) h = omega (arith, deepest-append (walk a p) (walk a q), walk-deep a p h.0, walk-deep a q h.1)
walk-deep a (seq i p q) h = omega (arith, deepest-append (walk a p) (walk a q), walk-deep a p h.0, walk-deep a q h.1)
walk-deep a (loop i p) h = omega (arith, walk-deep (a_loop a) p h)
walk-deep a (every i s e p) h = omega (arith, walk-deep (an_every a) p h)
walk-deep a (par i o p q) h = omega (arith, deepest-append (walk a p) (walk a q), walk-deep a p h.0, walk-deep a q h.1)
walk-deep a (fin i p) h = omega (arith, walk-deep (a_fin a) p h)
walk-deep a (canrun i k) h = absurd h
walk-deep a (at_loop i p q) h = absurd h
walk-deep a (at_par i o p q) h = absurd h

-- ---- the outputs, outside and inside an every
calm-outside : (a : Around) (t : Tree) → a.in_every ≡ true → Calm t → count outside_every (walk a t) ≡ 0
unfolding walk Calm hits head_of
calm-outside a (nop i) e c = refl
calm-outside a (act i assign v k) e c = refl
calm-outside a (act i increase v k) e c = refl
calm-outside a (act i copy v k) e c = refl
calm-outside a (act i subtract v k) e c = refl
calm-outside a (act i compare v k) e c = refl
calm-outside a (act i divide v k) e c = refl
calm-outside a (act i output v k) e c = rw e
calm-outside a (await i s x) e c = absurd c
calm-outside a (emit i x y) e c = absurd c
calm-outside a (break i) e c = absurd c
calm-outside a (ifvar i v p q) e c = omega (arith, count-append outside_every (walk a p) (walk a q), calm-outside a p e c.0, calm-outside a q e c.1)
calm-outside a (seq i p q) e c = omega (arith, count-append outside_every (walk a p) (walk a q), calm-outside a p e c.0, calm-outside a q e c.1)
calm-outside a (loop i p) e c = absurd c
calm-outside a (every i s x p) e c = absurd c
calm-outside a (par i o p q) e c = absurd c
calm-outside a (fin i p) e c = absurd c
calm-outside a (canrun i m) e c = absurd c
calm-outside a (at_loop i p q) e c = absurd c
calm-outside a (at_par i o p q) e c = absurd c

calm-inside : (a : Around) (t : Tree) → a.in_every ≡ true → Calm t → count inside_every (walk a t) ≡ outputs_outside t
unfolding walk Calm hits head_of outputs_outside
calm-inside a (nop i) e c = refl
calm-inside a (act i assign v k) e c = refl
calm-inside a (act i increase v k) e c = refl
calm-inside a (act i copy v k) e c = refl
calm-inside a (act i subtract v k) e c = refl
calm-inside a (act i compare v k) e c = refl
calm-inside a (act i divide v k) e c = refl
calm-inside a (act i output v k) e c = rw e
calm-inside a (await i s x) e c = absurd c
calm-inside a (emit i x y) e c = absurd c
calm-inside a (break i) e c = absurd c
calm-inside a (ifvar i v p q) e c = omega (arith, count-append inside_every (walk a p) (walk a q), calm-inside a p e c.0, calm-inside a q e c.1)
calm-inside a (seq i p q) e c = omega (arith, count-append inside_every (walk a p) (walk a q), calm-inside a p e c.0, calm-inside a q e c.1)
calm-inside a (loop i p) e c = absurd c
calm-inside a (every i s x p) e c = absurd c
calm-inside a (par i o p q) e c = absurd c
calm-inside a (fin i p) e c = absurd c
calm-inside a (canrun i m) e c = absurd c
calm-inside a (at_loop i p q) e c = absurd c
calm-inside a (at_par i o p q) e c = absurd c

pub walk-outside : (a : Around) (t : Tree) → a.in_every ≡ false → Program t → Good t → count outside_every (walk a t) ≡ outputs_outside t
unfolding walk Program Good hits head_of outputs_outside
walk-outside a (nop i) e h g = refl
walk-outside a (act i assign v k) e h g = refl
walk-outside a (act i increase v k) e h g = refl
walk-outside a (act i copy v k) e h g = refl
walk-outside a (act i subtract v k) e h g = refl
walk-outside a (act i compare v k) e h g = refl
walk-outside a (act i divide v k) e h g = refl
walk-outside a (act i output v k) e h g = rw e
walk-outside a (await i input x) e h g = refl
walk-outside a (await i internal x) e h g = refl
walk-outside a (emit i x y) e h g = refl
walk-outside a (break i) e h g = refl
walk-outside a (ifvar i v p q) e h g = omega (arith, count-append outside_every (walk a p) (walk a q), walk-outside a p e h.0 g.0, walk-outside a q e h.1 g.1)
walk-outside a (seq i p q) e h g = omega (arith, count-append outside_every (walk a p) (walk a q), walk-outside a p e h.0 g.0, walk-outside a q e h.1 g.1)
walk-outside a (loop i p) e h g = walk-outside (a_loop a) p e h g.0
walk-outside a (every i input x p) e h g = calm-outside (an_every a) p refl g
walk-outside a (every i internal x p) e h g = calm-outside (an_every a) p refl g
walk-outside a (par i and p q) e h g = omega (arith, count-append outside_every (walk a p) (walk a q), walk-outside a p e h.0 g.0, walk-outside a q e h.1 g.1)
walk-outside a (par i or p q) e h g = omega (arith, count-append outside_every (walk a p) (walk a q), walk-outside a p e h.0 g.0, walk-outside a q e h.1 g.1)
walk-outside a (fin i p) e h g = walk-outside (a_fin a) p e h (calm-good p g)
walk-outside a (canrun i m) e h g = absurd h
walk-outside a (at_loop i p q) e h g = absurd h
walk-outside a (at_par i o p q) e h g = absurd h

pub walk_inside : (a : Around) (t : Tree) → a.in_every ≡ false → Program t → Good t → count inside_every (walk a t) ≡ outputs_inside t
unfolding walk Program Good hits head_of outputs_inside
walk_inside a (nop i) e h g = refl
walk_inside a (act i assign v k) e h g = refl
walk_inside a (act i increase v k) e h g = refl
walk_inside a (act i copy v k) e h g = refl
walk_inside a (act i subtract v k) e h g = refl
walk_inside a (act i compare v k) e h g = refl
walk_inside a (act i divide v k) e h g = refl
walk_inside a (act i output v k) e h g = rw e
walk_inside a (await i input x) e h g = refl
walk_inside a (await i internal x) e h g = refl
walk_inside a (emit i x y) e h g = refl
walk_inside a (break i) e h g = refl
walk_inside a (ifvar i v p q) e h g = omega (arith, count-append inside_every (walk a p) (walk a q), walk_inside a p e h.0 g.0, walk_inside a q e h.1 g.1)
walk_inside a (seq i p q) e h g = omega (arith, count-append inside_every (walk a p) (walk a q), walk_inside a p e h.0 g.0, walk_inside a q e h.1 g.1)
walk_inside a (loop i p) e h g = walk_inside (a_loop a) p e h g.0
walk_inside a (every i input x p) e h g = calm-inside (an_every a) p refl g
walk_inside a (every i internal x p) e h g = calm-inside (an_every a) p refl g
walk_inside a (par i and p q) e h g = omega (arith, count-append inside_every (walk a p) (walk a q), walk_inside a p e h.0 g.0, walk_inside a q e h.1 g.1)
walk_inside a (par i or p q) e h g = omega (arith, count-append inside_every (walk a p) (walk a q), walk_inside a p e h.0 g.0, walk_inside a q e h.1 g.1)
walk_inside a (fin i p) e h g = walk_inside (a_fin a) p e h (calm-good p g)
walk_inside a (canrun i m) e h g = absurd h
walk_inside a (at_loop i p q) e h g = absurd h
walk_inside a (at_par i o p q) e h g = absurd h

-- ---- stage 4: no break with no loop around it
loose-here : (a : Around) (i : ℕ) → a.loops ≡ 0 → loose_break (visit i 11 a) ≡ false → ⊥
loose-here a i e m = let z : eqb 0 0 ≡ false = subst (λ n. eqb n 0 ≡ false) e m in clash (cc)

closed-both : (p q : Tree) (vs ws : List Visit) → Misses loose_break (vs ++ ws) → (Misses loose_break vs → T (loose p) → ⊥) → (Misses loose_break ws → T (loose q) → ⊥) → T (loose p || loose q) → ⊥
closed-both p q vs ws m f g x = or_cases (loose p) (loose q) (f (left-misses loose_break vs ws m)) (g (right-misses loose_break vs ws m)) x

pub closed-walk : (a : Around) (t : Tree) → a.loops ≡ 0 → Program t → Misses loose_break (walk a t) → T (loose t) → ⊥
unfolding walk loose Program
closed-walk a (nop i) e h m x = x
closed-walk a (act i o v k) e h m x = x
closed-walk a (await i s b) e h m x = x
closed-walk a (emit i b y) e h m x = x
closed-walk a (break i) e h m x = loose-here a i e (head-misses m)
closed-walk a (ifvar i v p q) e h m x = closed-both p q (walk a p) (walk a q) (tail-misses m) (closed-walk a p e h.0) (closed-walk a q e h.1) x
closed-walk a (seq i p q) e h m x = closed-both p q (walk a p) (walk a q) (tail-misses m) (closed-walk a p e h.0) (closed-walk a q e h.1) x
closed-walk a (loop i p) e h m x = x
closed-walk a (every i s b p) e h m x = x
closed-walk a (par i o p q) e h m x = closed-both p q (walk a p) (walk a q) (tail-misses m) (closed-walk a p e h.0) (closed-walk a q e h.1) x
closed-walk a (fin i p) e h m x = x
closed-walk a (canrun i k) e h m x = absurd h
closed-walk a (at_loop i p q) e h m x = absurd h
closed-walk a (at_par i o p q) e h m x = absurd h
