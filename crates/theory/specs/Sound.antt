-- An accepted program, or a part of one.
use Rattle.std.specs.Prelude.{◌≡◌, refl, Bool, true, false, not, ℕ, ◌+◌, ◌≤◌, T, if◌then◌else◌}
use Rattle.std.proofs.Common.{ap, ◌∙◌}
use Rattle.rules.specs.Number.{is_zero}
use Rattle.rules.specs.Tree.{Tree, act, at_loop, at_par, await, break, canrun, emit, every, fin, ifvar, loop, nop, par, seq}
use Rattle.rules.specs.Check.{may_end}
use Rattle.rules.specs.Memory.{Memory, read}
use Rattle.theory.specs.Logic.{clash}
use Rattle.theory.specs.Program.{Calm, Good, Program}
use Rattle.theory.specs.Ranges.{Ranged, from_one}
use Rattle.theory.specs.Progress.{calm-program, program-live}
use Rattle.theory.specs.Big.{Fate, ends, breaks, waits, amiss, rings, Out, result, later, Calmed, after, settle, seq_f, resume, Meets, resume-is, guarded}

-- its loops are guarded, its everys and fins have calm bodies, and no event of it is 0
unfoldable pub Sound : Tree → Type 0
unfolding Calm may_end
Sound (nop i) = Unit {0}
Sound (act i a v k) = Unit {0}
Sound (await i s e) = 1 ≤ e
Sound (emit i e y) = 1 ≤ e
Sound (break i) = Unit {0}
Sound (ifvar i v p q) = Sound p × Sound q
Sound (seq i p q) = Sound p × Sound q
Sound (loop i p) = T (not (may_end p)) × Sound p
Sound (every i s e p) = (1 ≤ e) × Calm p
Sound (par i o p q) = Sound p × Sound q
Sound (fin i p) = Calm p
Sound (canrun i m) = ⊥
Sound (at_loop i p q) = ⊥
Sound (at_par i o p q) = ⊥

pub sound-good : (t : Tree) → Sound t → Good t
unfolding Sound Good
sound-good (nop i) h = tt
sound-good (act i a v k) h = tt
sound-good (await i s e) h = tt
sound-good (emit i e y) h = tt
sound-good (break i) h = tt
sound-good (ifvar i v p q) h = (sound-good p h.0, sound-good q h.1)
sound-good (seq i p q) h = (sound-good p h.0, sound-good q h.1)
sound-good (loop i p) h = (sound-good p h.1, h.0)
sound-good (every i s e p) h = h.1
sound-good (par i o p q) h = (sound-good p h.0, sound-good q h.1)
sound-good (fin i p) h = h
sound-good (canrun i m) h = absurd h
sound-good (at_loop i p q) h = absurd h
sound-good (at_par i o p q) h = absurd h

pub sound-program : (t : Tree) → Sound t → Program t
unfolding Sound Program
sound-program (nop i) h = tt
sound-program (act i a v k) h = tt
sound-program (await i s e) h = tt
sound-program (emit i e y) h = tt
sound-program (break i) h = tt
sound-program (ifvar i v p q) h = (sound-program p h.0, sound-program q h.1)
sound-program (seq i p q) h = (sound-program p h.0, sound-program q h.1)
sound-program (loop i p) h = sound-program p h.1
sound-program (every i s e p) h = calm-program p h.1
sound-program (par i o p q) h = (sound-program p h.0, sound-program q h.1)
sound-program (fin i p) h = calm-program p h
sound-program (canrun i m) h = absurd h
sound-program (at_loop i p q) h = absurd h
sound-program (at_par i o p q) h = absurd h

pub sound : (t : Tree) → Program t → Good t → Ranged t → Sound t
unfolding Sound Program Good Ranged
sound (nop i) h g n = tt
sound (act i a v k) h g n = tt
sound (await i s e) h g n = from_one e n
sound (emit i e y) h g n = from_one e n.0
sound (break i) h g n = tt
sound (ifvar i v p q) h g n = (sound p h.0 g.0 n.1, sound q h.1 g.1 n.2)
sound (seq i p q) h g n = (sound p h.0 g.0 n.0, sound q h.1 g.1 n.1)
sound (loop i p) h g n = (g.1, sound p h g.0 n)
sound (every i s e p) h g n = (from_one e n.0, g)
sound (par i o p q) h g n = (sound p h.0 g.0 n.0, sound q h.1 g.1 n.1)
sound (fin i p) h g n = g
sound (canrun i m) h g n = absurd h
sound (at_loop i p q) h g n = absurd h
sound (at_par i o p q) h g n = absurd h

-- ---- its whole runs

-- the body of an accepted loop does not end at once
fate-ends : (n : ℕ) → 1 ≤ n → (p : Tree) (m : Memory) → T (not (may_end p)) → Good p → (f : Fate) (r : Out) → Meets n p m f r.tree r.mem r.steps → f ≡ ends → ⊥
fate-ends n g p m e k ends r h q = guarded n g p r.tree m r.mem r.steps k e h.0 h.1
fate-ends n g p m e k breaks r h q = clash (cc)
fate-ends n g p m e k waits r h q = clash (cc)
fate-ends n g p m e k amiss r h q = h
fate-ends n g p m e k (rings v) r h q = clash (cc)

pub never_ends : (n : ℕ) → 1 ≤ n → (p : Tree) → T (not (may_end p)) → Sound p → (m : Memory) → (resume n p m).fate ≡ ends → ⊥
never_ends n g p e s m = fate-ends n g p m e (sound-good p s) (resume n p m).fate (resume n p m) (resume-is n g p (sound-good p s) (program-live n p (sound-program p s)) m)

-- a calm tree settles
abbrev pub settled : Calmed → Out
settled c = result ends (nop c.at) c.mem c.steps

pub resume-calm : (n : ℕ) (t : Tree) (m : Memory) → Calm t → resume n t m ≡ settled (settle t m)
unfolding resume settle seq_f Calm
resume-calm n (nop i) m k = refl
resume-calm n (act i a v z) m k = refl
resume-calm n (await i s e) m k = absurd k
resume-calm n (emit i e y) m k = absurd k
resume-calm n (break i) m k = absurd k
resume-calm n (ifvar i v p q) m k = go (is_zero (read m v)) (resume-calm n p m k.0) (resume-calm n q m k.1)
  where
    go : (x : Bool) → resume n p m ≡ settled (settle p m) → resume n q m ≡ settled (settle q m) → later 1 (if x then resume n q m else resume n p m) ≡ settled (after 1 (if x then settle q m else settle p m))
    go true h g = ap (λ (o : Out). later 1 o) g
    go false h g = ap (λ (o : Out). later 1 o) h
resume-calm n (seq i p q) m k =
    ap (λ (o : Out). seq_f i o.fate o q (resume n q)) (resume-calm n p m k.0) ∙ ap (λ (o : Out). later ((settle p m).steps + 1) o) (resume-calm n q (settle p m).mem k.1)
resume-calm n (loop i p) m k = absurd k
resume-calm n (every i s e p) m k = absurd k
resume-calm n (par i o p q) m k = absurd k
resume-calm n (fin i p) m k = absurd k
resume-calm n (canrun i c) m k = absurd k
resume-calm n (at_loop i p q) m k = absurd k
resume-calm n (at_par i o p q) m k = absurd k
