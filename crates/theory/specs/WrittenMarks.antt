-- The marks that are written are the waiting places: the next reaction reads from them the tree that this one leaves,
-- and they are all zero exactly where that tree is @nop.
use Rattle.std.specs.Prelude.{◌≡◌, refl, Bool, true, false, ◌||◌, List, [], ◌∷◌, ℕ, zero, suc, ◌<◌, ◌+◌, ◌≤◌, eqb, T, get_or, replicate, length, set}
use Rattle.std.proofs.Math.Path.{sym}
use Rattle.std.proofs.Common.{◌∙◌, ap, arith, eqb→eq, length-set, get_or-set_same, get_or-set_other, eqb-true}
use Rattle.std.proofs.lemmas.List.{length-replicate, get_or-replicate}
use Rattle.std.proofs.lemmas.Bool.{eqb-false}
use Rattle.rules.specs.Tree.{Tree, act, at_loop, at_par, await, break, canrun, emit, every, fin, ifvar, loop, nop, par, seq, span_of}
use Rattle.rules.specs.Marks.{all_zero, mark_all, marks_of, waits}
use Rattle.rules.specs.Step.{Front, blocked, front, is_done, nop_or_blocked}
use Rattle.theory.specs.Logic.{both_left, both_right, or_cases, T→true, never}
use Rattle.theory.specs.Program.{Program, Seen, is-nop, is-brk, is-other, seen}
use Rattle.theory.specs.Blocked.{blocked-going}
use Rattle.theory.specs.Again.{member, NoRun, waits_in, Placed, member-here, member-left, Agree, Reads, again}
use Rattle.theory.specs.Residue.{Left}

mark-length : (ws m : List ℕ) → length (mark_all ws m) ≡ length m
unfolding mark_all
mark-length [] m = refl
mark-length (i ∷ is) m = length-set (mark_all is m) i 1 ∙ mark-length is m

-- the mark of a place that waits, or does not
abbrev pub bit : Bool → ℕ
bit true = 1
bit false = 0

mark-bit : (ws m : List ℕ) (j : ℕ) → j < length m → get_or m j 0 ≡ 0 → get_or (mark_all ws m) j 0 ≡ bit (member j ws)
unfolding mark_all member
mark-bit [] m j l z = z
mark-bit (i ∷ is) m j l z = go (eqb j i) refl (mark-bit is m j l z)
  where
    go : (b : Bool) → eqb j i ≡ b → get_or (mark_all is m) j 0 ≡ bit (member j is) → get_or (set (mark_all is m) i 1) j 0 ≡ bit (b || member j is)
    go true e h =
        let q : j ≡ i = eqb-true j i e in
        let k : i < length (mark_all is m) = omega (arith, mark-length is m) in
        rw q (get_or-set_same (mark_all is m) i 1 0 k)
    go false e h = get_or-set_other (mark_all is m) i j 1 0 (eqb-false j i e) ∙ h

-- the mark that is written at a place
pub written : (n : ℕ) (r : Tree) (j : ℕ) → j < n → get_or (marks_of n r) j 0 ≡ bit (member j (waits r))
unfolding marks_of
written n r j l = mark-bit (waits r) (replicate n 0) j (omega (arith, length-replicate n (zero' n))) (get_or-replicate n j 0 0 l)
  where
    zero' : ℕ → ℕ
    zero' n = 0

pub written-length : (n : ℕ) (r : Tree) → length (marks_of n r) ≡ n
unfolding marks_of
written-length n r = mark-length (waits r) (replicate n 0) ∙ length-replicate n _

marked-bit : (b : Bool) → eqb (bit b) 1 ≡ b
marked-bit true = refl
marked-bit false = refl

agree-written : (n k : ℕ) (t r : Tree) → k + span_of t ≤ n → Agree (marks_of n r) (waits r) k (span_of t)
unfolding Agree
agree-written n k t r l j w = ap (λ x. eqb x 1) (written n r j (omega (arith, w.below))) ∙ marked-bit (member j (waits r))

-- the tree that is left is read again from the marks that are written, and they fit
pub read_again : (n : ℕ) {t r : Tree} → Left t r → Program t → Placed 0 t → span_of t ≡ n → NoRun r → T (blocked 0 r) → Reads (marks_of n r) t r
read_again n {t} {r} l h p e o b = again (marks_of n r) 0 l h p o b (agree-written n 0 t r (omega arith))

-- ---- all marks are zero

all-zero : (m : List ℕ) (j : ℕ) → T (all_zero m) → get_or m j 0 ≡ 0
unfolding all_zero
all-zero [] j t = refl
all-zero (x ∷ xs) zero t = eqb→eq x 0 (both_left (eqb x 0) (all_zero xs) t)
all-zero (x ∷ xs) (suc j) t = all-zero xs j (both_right (eqb x 0) (all_zero xs) t)

zeros : (n : ℕ) → T (all_zero (replicate n 0))
unfolding all_zero
zeros zero = tt
zeros (suc n) = zeros n

-- a place where t waits
record Some (t : Tree) : Type 0 where
  pub place : ℕ
  pub is_in : T (member place (waits t))

-- what is blocked at level 0 waits somewhere
some-wait : (t : Tree) → NoRun t → T (blocked 0 t) → Some t
unfolding NoRun blocked waits
some-wait (nop i) o h = absurd h
some-wait (act i a v k) o h = absurd h
some-wait (await i s e) o h = record { place = i; is_in = member-here i [] }
some-wait (emit i e y) o h = absurd h
some-wait (break i) o h = absurd h
some-wait (ifvar i v p q) o h = absurd h
some-wait (seq i p q) o h = let w = some-wait p o h in record { place = w.place; is_in = w.is_in }
some-wait (loop i p) o h = absurd h
some-wait (every i s e p) o h = record { place = i; is_in = member-here i [] }
some-wait (par i o' p q) o h = absurd h
some-wait (fin i p) o h = record { place = i; is_in = member-here i [] }
some-wait (canrun i m) o h = absurd o
some-wait (at_loop i p q) o h = let w = some-wait p o h in record { place = w.place; is_in = w.is_in }
some-wait (at_par i o' p q) o h = let w = some-wait p o.0 (both_left (blocked 0 p) (blocked 0 q) h) in record { place = w.place; is_in = member-left w.place (waits p) (waits q) w.is_in }

-- some place of n is marked
marked-some : (n : ℕ) (t : Tree) (w : Some t) → w.place < n → T (all_zero (marks_of n t)) → ⊥
marked-some n t w l z = one (member w.place (waits t)) w.is_in (sym (written n t w.place l) ∙ all-zero (marks_of n t) w.place z)
  where
    one : (b : Bool) → T b → bit b ≡ 0 → ⊥
    one true t e = omega arith
    one false t e = t

pub done-waits : (t : Tree) → T (is_done (front t)) → waits t ≡ []
unfolding waits
done-waits t h = go (seen t) h
  where
    go : {u : Tree} {f : Front} → Seen u f → T (is_done f) → waits u ≡ []
    go is-nop x = refl
    go is-brk x = absurd x
    go is-other x = absurd x

pub finished-is : (n : ℕ) {p t : Tree} → Left p t → Program p → Placed 0 p → span_of p ≡ n → NoRun t → T (nop_or_blocked 0 t) → all_zero (marks_of n t) ≡ is_done (front t)
finished-is n {p} {t} of h l e o i = or_cases (is_done (front t)) (blocked 0 t) over waiting i
  where
    over : T (is_done (front t)) → all_zero (marks_of n t) ≡ is_done (front t)
    over d = T→true (all_zero (marks_of n t)) (unfold marks_of mark_all in rw (done-waits t d) (zeros n)) ∙ sym (T→true (is_done (front t)) d)

    waiting : T (blocked 0 t) → all_zero (marks_of n t) ≡ is_done (front t)
    waiting b =
        let w = some-wait t o b in
        let j = waits_in 0 w.place of h l w.is_in in
        rw (blocked-going 0 t b) (never (all_zero (marks_of n t)) (marked-some n t w (omega (arith, j.below))))
