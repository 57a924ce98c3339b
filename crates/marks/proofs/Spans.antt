-- Spans of what remains: at least 1 where something does, and always below 65536.
-- Assumes nothing.
use Rattle.std.specs.Prelude.{if◌then◌else◌}
use mathlib.Core.Path.{◌≡◌, refl}
use mathlib.Core.Bool.{Bool, true, false}
use mathlib.Core.List.{List}
use mathlib.Core.Option.{Option, none, some}
use Prim.Native.Nat.{ℕ, zero, suc, ◌+◌, ◌-◌, ◌≤◌, ◌<◌}
use native.Mathlib.Omega.{arith}
use lib.Dec.{eqb}
use borrow.Author.Tests.{ne_eqb}
use Rattle.rules.specs.Limits.{most_records}
use Rattle.rules.specs.Tree.{Tree, nop, act, await, emit, break, ifvar, seq, loop, every, par, fin, canrun, at_loop, at_par, Par, span_of}
use Rattle.rules.specs.Marks.{marked, rest_seq, rest_if, rest_loop, rest_par, rest_of}
use Rattle.marks.specs.Rest.{span_o, rest_span}

span_pos : (t : Tree) → 1 ≤ span_of t
unfolding span_of
span_pos (nop i) = omega arith
span_pos (act i a v k) = omega arith
span_pos (await i s e) = omega arith
span_pos (emit i e y) = omega arith
span_pos (break i) = omega arith
span_pos (ifvar i v p q) = omega arith
span_pos (seq i p q) = omega arith
span_pos (loop i p) = omega arith
span_pos (every i s e p) = omega arith
span_pos (par i o p q) = omega arith
span_pos (fin i p) = omega arith
span_pos (canrun i m) = omega arith
span_pos (at_loop i p q) = omega arith
span_pos (at_par i o p q) = omega arith

-- what remains is never 0 records
pub something : (t : Tree) → eqb (span_of t) 0 ≡ false
something t = ne_eqb (span_of t) 0 (λ e. omega (arith, span_pos t))

-- ---- the bound: 1 + 2 + .. + n for a span of n

unfoldable up_to : ℕ → ℕ
up_to zero = 0
up_to (suc n) = suc n + up_to n

up_le : (n : ℕ) → n ≤ up_to n
unfolding up_to
up_le zero = omega arith
up_le (suc n) = omega arith

up-add : (m n : ℕ) → up_to m + up_to n ≤ up_to (m + n)
unfolding up_to
up-add zero n = let e : 0 + n ≡ n = omega arith in rw e (omega arith)
up-add (suc m) n = let e : suc m + n ≡ suc (m + n) = omega arith in rw e (omega (arith, up-add m n))

up_one : (n : ℕ) → up_to (1 + n) ≡ 1 + n + up_to n
unfolding up_to
up_one n = let e : 1 + n ≡ suc n = omega arith in rw e

up-mono : (m n : ℕ) → m ≤ n → up_to m ≤ up_to n
up-mono m n h = let e : n ≡ m + (n - m) = omega arith in rw e (omega (arith, up-add m (n - m)))

up-two : (p q : ℕ) → 1 + up_to p + up_to q ≤ up_to (1 + (p + q))
up-two p q = omega (arith, up_one (p + q), up-add p q)

if-most : (a c : Option Tree) (x y : ℕ) → span_o a ≤ up_to x → span_o c ≤ up_to y → span_o (rest_if a c) ≤ up_to (1 + (x + y))
if-most none c x y h g = omega (arith, up-two x y)
if-most (some p) c x y h g = omega (arith, up-two x y)

seq-most : (i : ℕ) (q : Tree) (a c : Option Tree) (x : ℕ) → span_o a ≤ up_to x → span_o c ≤ up_to (span_of q) → span_o (rest_seq i a q c) ≤ up_to (1 + (x + span_of q))
unfolding span_of
seq-most i q none c x h g = omega (arith, up-two x (span_of q))
seq-most i q (some p) c x h g = omega (arith, up-two x (span_of q), up_le (span_of q))

loop-most : (i : ℕ) (p : Tree) (a : Option Tree) → span_o a ≤ up_to (span_of p) → span_o (rest_loop i p a) ≤ up_to (1 + span_of p)
unfolding span_of
loop-most i p none h = omega arith
loop-most i p (some r) h = omega (arith, up_one (span_of p))

par-most : (i : ℕ) (o : Par) (a c : Option Tree) (x y : ℕ) → span_o a ≤ up_to x → span_o c ≤ up_to y → span_o (rest_par i o a c) ≤ up_to (1 + (x + y))
unfolding span_of
par-most i o none c x y h g = omega (arith, up-two x y)
par-most i o (some p) none x y h g = omega (arith, up-two x y)
par-most i o (some p) (some q) x y h g = omega (arith, up-two x y)

self-most : (z : Bool) (t : Tree) → span_o (if z then some t else none) ≤ up_to (span_of t)
self-most true t = up_le (span_of t)
self-most false t = omega arith

rest-most : (m : List ℕ) (t : Tree) → span_o (rest_of m t) ≤ up_to (span_of t)
unfolding rest_of span_of
rest-most m (nop i) = omega arith
rest-most m (act i a v k) = omega arith
rest-most m (await i s e) = self-most (marked m i) (await i s e)
rest-most m (emit i e y) = omega arith
rest-most m (break i) = omega arith
rest-most m (ifvar i v p q) = if-most (rest_of m p) (rest_of m q) (span_of p) (span_of q) (rest-most m p) (rest-most m q)
rest-most m (seq i p q) = seq-most i q (rest_of m p) (rest_of m q) (span_of p) (rest-most m p) (rest-most m q)
rest-most m (loop i p) = loop-most i p (rest_of m p) (rest-most m p)
rest-most m (every i s e p) = self-most (marked m i) (every i s e p)
rest-most m (par i o p q) = par-most i o (rest_of m p) (rest_of m q) (span_of p) (span_of q) (rest-most m p) (rest-most m q)
rest-most m (fin i p) = self-most (marked m i) (fin i p)
rest-most m (canrun i k) = omega arith
rest-most m (at_loop i p q) = omega arith
rest-most m (at_par i o p q) = omega arith

pub rest-fits : (m : List ℕ) (t : Tree) → span_of t ≤ most_records → rest_span m t < 65536
unfolding rest_span up_to
rest-fits m t h = let n : up_to 256 ≡ 32896 = refl in omega (arith, rest-most m t, up-mono (span_of t) 256 h, n)
