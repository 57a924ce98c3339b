-- Sets of events as bits: one event, two sets together, their number and the lowest.
-- Assumes nothing.
use Rattle.std.specs.Prelude.{if◌then◌else◌}
use mathlib.Core.Path.{◌≡◌, refl, sym, ap, ap₂, ◌∙◌}
use mathlib.Core.Bool.{Bool, true, false, not, ◌||◌}
use mathlib.Core.List.{[], ◌∷◌}
use Prim.Native.Nat.{ℕ, zero, suc, ◌+◌, ◌*◌, ◌/◌, ◌%◌, ◌^◌, ◌≤◌, ◌<◌, max}
use native.Mathlib.Omega.{arith}
use native.Mathlib.Nat.{pow-suc, one-mul}
use lib.Pow.{shl_exact}
use lib.Bits.{bit_or, or_step}
use lib.Count.{ones, ones_step, count_trailing_zeros, under}
use lib.Dec.{eqb}
use lib.ListN.{length, get_or}
use borrow.Author.Tests.{eq-eqb, ne_eqb}
use Rattle.rules.specs.Stages.{failing}
use Rattle.rules.specs.Limits.{most_name}
use Rattle.marks.specs.Awaited.{bits, event_set, lowest_bit}

abbrev bit : Bool → ℕ
bit x = if x then 1 else 0

low : (x : Bool) (n : ℕ) → (bit x + 2 * n) % 2 ≡ bit x
low true n = omega arith
low false n = omega arith

high : (x : Bool) (n : ℕ) → (bit x + 2 * n) / 2 ≡ n
high true n = omega arith
high false n = omega arith

-- a set of events has nothing at bit 0
above : (n : ℕ) → 2 * n ≡ bit false + 2 * n
above n = omega arith

-- ---- tests that agree make one set

same_bits : (f g : ℕ → Bool) → ((e : ℕ) → f e ≡ g e) → (e k : ℕ) → bits f e k ≡ bits g e k
unfolding bits
same_bits f g h e zero = refl
same_bits f g h e (suc k) = ap₂ (λ (x : Bool) (n : ℕ). bit x + 2 * n) (h e) (same_bits f g h (suc e) k)

pub same_set : (f g : ℕ → Bool) → ((e : ℕ) → f e ≡ g e) → event_set f ≡ event_set g
same_set f g h = ap (λ (n : ℕ). 2 * n) (same_bits f g h 1 most_name)

-- ---- no event

no_bits : (e k : ℕ) → bits (λ x. false) e k ≡ 0
unfolding bits
no_bits e zero = refl
no_bits e (suc k) = omega (arith, no_bits (suc e) k)

pub no-events : event_set (λ x. false) ≡ 0
no-events = omega (arith, no_bits 1 most_name)

-- ---- one event

past : (n e k : ℕ) → n < e → bits (λ x. eqb x n) e k ≡ 0
unfolding bits
past n e zero h = refl
past n e (suc k) h = rw (ne_eqb e n (λ q. omega arith)) (omega (arith, past n (suc e) k (omega arith)))

one_bit : (n e k d : ℕ) → n ≡ e + d → d < k → bits (λ x. eqb x n) e k ≡ 2 ^ d
unfolding bits
one_bit n e zero d h l = absurd (omega arith)
one_bit n e (suc k) zero h l = rw (eq-eqb e n (omega arith), past n (suc e) k (omega arith))
one_bit n e (suc k) (suc d) h l = rw (ne_eqb e n (λ q. omega arith), one_bit n (suc e) k d (omega arith) (omega arith)) (omega (arith, pow-suc 2 d))

one-event : (n : ℕ) → 1 ≤ n → n ≤ most_name → event_set (λ x. eqb x n) ≡ 2 ^ n
one-event zero h l = absurd (omega arith)
one-event (suc d) h l = rw (one_bit (suc d) 1 most_name d (omega arith) (omega arith)) (omega (arith, pow-suc 2 d))

-- as a shift makes it
pub one_shifted : (n : ℕ) → 1 ≤ n → n ≤ most_name → (1 * 2 ^ n) % 2 ^ 64 ≡ event_set (λ x. eqb x n)
one_shifted n h l = shl_exact 1 n 64 (omega arith) (omega arith) ∙ (one-mul (2 ^ n) ∙ sym (one-event n h l))

-- ---- two sets together

or-bit : (x y : Bool) → max (bit x) (bit y) ≡ bit (x || y)
or-bit true true = refl
or-bit true false = refl
or-bit false true = refl
or-bit false false = refl

or-digit : (x y : Bool) (a b : ℕ) → bit_or (bit x + 2 * a) (bit y + 2 * b) ≡ bit (x || y) + 2 * bit_or a b
or-digit x y a b =
    or_step (bit x + 2 * a) (bit y + 2 * b)
    ∙ rw (low x a, low y b, high x a, high y b, or-bit x y) (omega arith)

or-bits : (f g : ℕ → Bool) (e k : ℕ) → bit_or (bits f e k) (bits g e k) ≡ bits (λ x. f x || g x) e k
unfolding bits
or-bits f g e zero = refl
or-bits f g e (suc k) = or-digit (f e) (g e) (bits f (suc e) k) (bits g (suc e) k) ∙ ap (λ (n : ℕ). bit (f e || g e) + 2 * n) (or-bits f g (suc e) k)

pub both-sets : (f g : ℕ → Bool) → bit_or (event_set f) (event_set g) ≡ event_set (λ x. f x || g x)
both-sets f g = rw (above (bits f 1 most_name), above (bits g 1 most_name)) (or-digit false false (bits f 1 most_name) (bits g 1 most_name) ∙ omega (arith, or-bits f g 1 most_name))

-- ---- their number

ones-digit : (x : Bool) (n : ℕ) → ones (bit x + 2 * n) ≡ bit x + ones n
ones-digit x n = ones_step (bit x + 2 * n) ∙ rw (low x n, high x n)

ones-bits : (f : ℕ → Bool) (e k : ℕ) → ones (bits f e k) ≡ length (failing (λ x. not (f x)) e k)
unfolding bits failing
ones-bits f e zero = unfold ones in refl
ones-bits f e (suc k) = ones-digit (f e) (bits f (suc e) k) ∙ go (f e) (ones-bits f (suc e) k)
  where
    go : (x : Bool) → ones (bits f (suc e) k) ≡ length (failing (λ y. not (f y)) (suc e) k) → bit x + ones (bits f (suc e) k) ≡ length (if not x then failing (λ y. not (f y)) (suc e) k else e ∷ failing (λ y. not (f y)) (suc e) k)
    go true h = omega (arith, h)
    go false h = omega (arith, h)

pub set-number : (f : ℕ → Bool) → ones (event_set f) ≡ length (failing (λ x. not (f x)) 1 most_name)
set-number f = rw (above (bits f 1 most_name)) (ones-digit false (bits f 1 most_name) ∙ omega (arith, ones-bits f 1 most_name))

-- ---- the lowest

zeros-digit : (x : Bool) (n k : ℕ) → count_trailing_zeros (suc k) (bit x + 2 * n) ≡ under (bit x) (count_trailing_zeros k n)
unfolding count_trailing_zeros
zeros-digit x n k = rw (low x n, high x n)

empty-bits : (f : ℕ → Bool) (e k : ℕ) → bits f e k ≡ 0 → failing (λ x. not (f x)) e k ≡ []
unfolding bits failing
empty-bits f e zero h = refl
empty-bits f e (suc k) h = go (f e) h (empty-bits f (suc e) k)
  where
    go : (x : Bool) → bit x + 2 * bits f (suc e) k ≡ 0 → (bits f (suc e) k ≡ 0 → failing (λ y. not (f y)) (suc e) k ≡ []) → (if not x then failing (λ y. not (f y)) (suc e) k else e ∷ failing (λ y. not (f y)) (suc e) k) ≡ []
    go true h r = absurd (omega arith)
    go false h r = r (omega arith)

zeros-bits : (f : ℕ → Bool) (e k : ℕ) → (bits f e k ≡ 0 → ⊥) → get_or (failing (λ x. not (f x)) e k) 0 0 ≡ e + count_trailing_zeros k (bits f e k)
unfolding bits failing
zeros-bits f e zero h = absurd (h refl)
zeros-bits f e (suc k) h = go (f e) h (zeros-bits f (suc e) k) ∙ ap (λ (n : ℕ). e + n) (sym (zeros-digit (f e) (bits f (suc e) k) k))
  where
    go : (x : Bool) → (bit x + 2 * bits f (suc e) k ≡ 0 → ⊥) → ((bits f (suc e) k ≡ 0 → ⊥) → get_or (failing (λ y. not (f y)) (suc e) k) 0 0 ≡ suc e + count_trailing_zeros k (bits f (suc e) k)) →
        get_or (if not x then failing (λ y. not (f y)) (suc e) k else e ∷ failing (λ y. not (f y)) (suc e) k) 0 0 ≡ e + under (bit x) (count_trailing_zeros k (bits f (suc e) k))
    go true h r = omega arith
    go false h r = omega (arith, r (λ z. h (omega arith)))

pub set-lowest : (f : ℕ → Bool) → lowest_bit (event_set f) ≡ get_or (failing (λ x. not (f x)) 1 most_name) 0 0
set-lowest f = go (bits f 1 most_name) refl
  where
    go : (n : ℕ) → bits f 1 most_name ≡ n → lowest_bit (2 * n) ≡ get_or (failing (λ x. not (f x)) 1 most_name) 0 0
    go zero h = sym (rw (empty-bits f 1 most_name h))
    go (suc n) h = sym (zeros-bits f 1 most_name (λ z. omega (arith, z, h)) ∙ rw h (sym (rw (ne_eqb (2 * suc n) 0 (λ z. omega arith), above (suc n)) (zeros-digit false (suc n) 63 ∙ omega arith))))
