-- What examples 1 to 12 do not show of the definitions: laws that an easy error would break.
-- Assumes nothing.
use mathlib.Core.Path.{◌≡◌, refl}
use mathlib.Core.Bool.{true, false}
use Prim.Native.Nat.{ℕ, suc, ◌+◌, min}
use native.Mathlib.Omega.{arith}
use lib.IntN.{ℤ}
use borrow.Author.Tests.{lt-ltb}
use Rattle.rules.specs.Limits.{top_total}
use Rattle.rules.specs.Tree.{Tree, await, emit, seq, at_par, input, internal, Par}
use Rattle.rules.specs.Check.{may_end}
use Rattle.rules.specs.Memory.{Memory}
use Rattle.rules.specs.Step.{Nested, stuck, moved, going, front, blocked, clear, in_part, par_step, nested_step, input_event, internal_event, wakes, awake}
use Rattle.rules.specs.Calls.{count_reaction}

-- the tree after a nested step
abbrev stepped : Nested → Tree → Tree
stepped stuck t = t
stepped (moved w u) t = u

-- an emit's trail is blocked at the level that its event is pushed to: it does not go on before those it woke are blocked
pub emitter-waits : (n i e : ℕ) (y : ℤ) (m : Memory) → blocked (suc n) (stepped (nested_step n m (emit i e y)) (emit i e y)) ≡ true
unfolding nested_step blocked
emitter-waits n i e y m = lt-ltb n (suc n) (omega arith)

-- while the left of an and or or is not blocked, the left alone steps
pub left-first : (n i : ℕ) (o : Par) (p q : Tree) (m : Memory) → front p ≡ going → blocked n p ≡ false → nested_step n m (at_par i o p q) ≡ in_part (λ p'. at_par i o p' q) (nested_step n m p)
unfolding nested_step par_step
left-first n i o p q m f b = rw (f, b)

-- what a fin protects on the left runs before what one protects on the right
pub clear-left-first : (i : ℕ) (o : Par) (p q : Tree) → clear (at_par i o p q) ≡ seq i (clear p) (clear q)
unfolding clear
clear-left-first i o p q = refl

-- an internal await is no guard: a loop around it may go round at once
pub internal-await-may-end : (i e : ℕ) → may_end (await i internal e) ≡ true
unfolding may_end
internal-await-may-end i e = refl

pub input-await-may-not-end : (i e : ℕ) → may_end (await i input e) ≡ false
unfolding may_end
input-await-may-not-end i e = refl

-- an input event wakes no internal await, and an internal one no input await, even where numbers agree
pub input-wakes-no-internal : (i e f : ℕ) → awake (wakes (input_event f)) (await i internal e) ≡ await i internal e
unfolding awake
input-wakes-no-internal i e f = refl

pub internal-wakes-no-input : (i e f : ℕ) → awake (wakes (internal_event f)) (await i input e) ≡ await i input e
unfolding awake
internal-wakes-no-input i e f = refl

-- the running totals stop at the largest value
pub totals-stop : (s : ℕ) → count_reaction s (record { reactions = top_total; steps = top_total }) ≡ record { reactions = top_total; steps = top_total }
totals-stop s =
    let one : min top_total (top_total + 1) ≡ top_total = omega arith in
    let many : min top_total (top_total + s) ≡ top_total = omega arith in
    rw (one, many)
