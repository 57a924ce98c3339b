-- Trees of a program and of what is left of one; how a break in a sequence counts; the counts of a program.
use Rattle.std.specs.Prelude.{◌≡◌, refl, Bool, true, false, not, ◌&&◌, ◌||◌, ℕ, suc, ◌+◌, max, T}
use Rattle.std.proofs.Common.{sym, subst}
use Rattle.rules.specs.Tree.{Tree, act, at_loop, at_par, await, break, canrun, emit, every, fin, ifvar, loop, nop, par, seq}
use Rattle.rules.specs.Check.{may_break, may_end}
use Rattle.rules.specs.Step.{Front, broken, clear, done, front, going}
use Rattle.theory.specs.Memory.{is_out}
use Rattle.theory.specs.Logic.{clash, or_left, or_right, or_map, or_cases, and_in, and-map, and_none}

-- what stands in front of a tree
pub data Seen : Tree → Front → Type 0 where
  is-nop : {i : ℕ} → Seen (nop i) done
  is-brk : {i : ℕ} → Seen (break i) (broken i)
  is-other : {t : Tree} → Seen t going

pub seen : (t : Tree) → Seen t (front t)
unfolding front
seen (nop i) = is-nop
seen (act i a v k) = is-other
seen (await i s e) = is-other
seen (emit i e y) = is-other
seen (break i) = is-brk
seen (ifvar i v p q) = is-other
seen (seq i p q) = is-other
seen (loop i p) = is-other
seen (every i s e p) = is-other
seen (par i o p q) = is-other
seen (fin i p) = is-other
seen (canrun i m) = is-other
seen (at_loop i p q) = is-other
seen (at_par i o p q) = is-other

-- a break with no loop around it stands in the tree
unfoldable pub loose : Tree → Bool
loose (nop i) = false
loose (act i a v k) = false
loose (await i s e) = false
loose (emit i e y) = false
loose (break i) = true
loose (ifvar i v p q) = loose p || loose q
loose (seq i p q) = loose p || loose q
loose (loop i p) = false
loose (every i s e p) = false
loose (par i o p q) = loose p || loose q
loose (fin i p) = false
loose (canrun i m) = false
loose (at_loop i p q) = false
loose (at_par i o p q) = loose p || loose q

-- ---- a break on the right of a sequence

-- it counts always, or, with the mode bit set, only where the left may end at once
abbrev pub gate : Bool → Bool → Bool
gate false left_ends = true
gate true left_ends = left_ends

abbrev pub seq_breaks : Bool → Bool → Bool → Bool → Bool
seq_breaks mode left_breaks left_ends right_breaks = left_breaks || (gate mode left_ends && right_breaks)

-- the mode that the rules have. A change of that rule turns this bit; `seq-may-break` ties it to the rules, and all else stands in both modes
abbrev pub mode : Bool
mode = false

pub seq-may-break : (i : ℕ) (p q : Tree) → may_break (seq i p q) ≡ seq_breaks mode (may_break p) (may_end p) (may_break q)
unfolding may_break
seq-may-break i p q = refl

-- all that the proofs use of it holds in both modes
mode-no-break : (m a e b : Bool) → (T a → ⊥) → (T b → ⊥) → T (seq_breaks m a e b) → ⊥
mode-no-break m a e b f g t = or_cases a (gate m e && b) f (and_none (gate m e) b g) t

mode-left-breaks : (m a e b : Bool) → T a → T (seq_breaks m a e b)
mode-left-breaks m a e b t = or_left a (gate m e && b) t

gate-open : (m e : Bool) → T e → T (gate m e)
gate-open false e t = tt
gate-open true e t = t

mode-right-breaks : (m a e b : Bool) → T e → T b → T (seq_breaks m a e b)
mode-right-breaks m a e b s t = or_right a (gate m e && b) (and_in (gate m e) b (gate-open m e s) t)

gate-map : (m e e' : Bool) → (T e' → T e) → T (gate m e') → T (gate m e)
gate-map false e e' f t = tt
gate-map true e e' f t = f t

mode-breaks : (m a a' e e' b : Bool) → (T e' → T e) → (T a' → T a) → T (seq_breaks m a' e' b) → T (seq_breaks m a e b)
mode-breaks m a a' e e' b f g t = or_map a' (gate m e' && b) a (gate m e && b) g (and-map (gate m e') b (gate m e) b (gate-map m e e' f) (λ x. x)) t

pub seq-no-break : (i : ℕ) (p q : Tree) → (T (may_break p) → ⊥) → (T (may_break q) → ⊥) → T (may_break (seq i p q)) → ⊥
seq-no-break i p q f g t = mode-no-break mode (may_break p) (may_end p) (may_break q) f g (subst T (seq-may-break i p q) t)

pub seq-left-breaks : (i : ℕ) (p q : Tree) → T (may_break p) → T (may_break (seq i p q))
seq-left-breaks i p q t = subst T (sym (seq-may-break i p q)) (mode-left-breaks mode (may_break p) (may_end p) (may_break q) t)

pub seq-right-breaks : (i : ℕ) (p q : Tree) → T (may_end p) → T (may_break q) → T (may_break (seq i p q))
seq-right-breaks i p q s t = subst T (sym (seq-may-break i p q)) (mode-right-breaks mode (may_break p) (may_end p) (may_break q) s t)

pub seq-breaks : (i : ℕ) (p p' q : Tree) → (T (may_end p') → T (may_end p)) → (T (may_break p') → T (may_break p)) → T (may_break (seq i p' q)) → T (may_break (seq i p q))
seq-breaks i p p' q f g t =
    subst T (sym (seq-may-break i p q)) (mode-breaks mode (may_break p) (may_break p') (may_end p) (may_end p') (may_break q) f g (subst T (seq-may-break i p' q) t))

-- ---- a tree that an accepted program can come to

-- kinds 0 to 7, 12, 13 only
unfoldable pub Calm : Tree → Type 0
Calm (nop i) = Unit {0}
Calm (act i a v k) = Unit {0}
Calm (await i s e) = ⊥
Calm (emit i e y) = ⊥
Calm (break i) = ⊥
Calm (ifvar i v p q) = Calm p × Calm q
Calm (seq i p q) = Calm p × Calm q
Calm (loop i p) = ⊥
Calm (every i s e p) = ⊥
Calm (par i o p q) = ⊥
Calm (fin i p) = ⊥
Calm (canrun i m) = ⊥
Calm (at_loop i p q) = ⊥
Calm (at_par i o p q) = ⊥

-- the body of an every or a fin is calm, and no body of a loop may end at once
unfoldable pub Good : Tree → Type 0
Good (nop i) = Unit {0}
Good (act i a v k) = Unit {0}
Good (await i s e) = Unit {0}
Good (emit i e y) = Unit {0}
Good (break i) = Unit {0}
Good (ifvar i v p q) = Good p × Good q
Good (seq i p q) = Good p × Good q
Good (loop i p) = Good p × T (not (may_end p))
Good (every i s e p) = Calm p
Good (par i o p q) = Good p × Good q
Good (fin i p) = Calm p
Good (canrun i m) = Unit {0}
Good (at_loop i p q) = Good p × Good q × T (not (may_end q))
Good (at_par i o p q) = Good p × Good q

pub calm-good : (t : Tree) → Calm t → Good t
unfolding Calm Good
calm-good (nop i) c = tt
calm-good (act i a v k) c = tt
calm-good (await i s e) c = tt
calm-good (emit i e y) c = tt
calm-good (break i) c = tt
calm-good (ifvar i v p q) c = (calm-good p c.0, calm-good q c.1)
calm-good (seq i p q) c = (calm-good p c.0, calm-good q c.1)
calm-good (loop i p) c = absurd c
calm-good (every i s e p) c = absurd c
calm-good (par i o p q) c = absurd c
calm-good (fin i p) c = absurd c
calm-good (canrun i m) c = tt
calm-good (at_loop i p q) c = absurd c
calm-good (at_par i o p q) c = absurd c

pub calm-break : (t : Tree) → Calm t → T (may_break t) → ⊥
unfolding Calm may_break
calm-break (nop i) c h = h
calm-break (act i a v k) c h = h
calm-break (await i s e) c h = c
calm-break (emit i e y) c h = c
calm-break (break i) c h = c
calm-break (ifvar i v p q) c h = or_cases (may_break p) (may_break q) (calm-break p c.0) (calm-break q c.1) h
calm-break (seq i p q) c h = seq-no-break i p q (calm-break p c.0) (calm-break q c.1) h
calm-break (loop i p) c h = c
calm-break (every i s e p) c h = c
calm-break (par i o p q) c h = c
calm-break (fin i p) c h = c
calm-break (canrun i m) c h = c
calm-break (at_loop i p q) c h = c
calm-break (at_par i o p q) c h = c

pub calm-loose : (t : Tree) → Calm t → T (loose t) → ⊥
unfolding Calm loose
calm-loose (nop i) c h = h
calm-loose (act i a v k) c h = h
calm-loose (await i s e) c h = c
calm-loose (emit i e y) c h = c
calm-loose (break i) c h = c
calm-loose (ifvar i v p q) c h = or_cases (loose p) (loose q) (calm-loose p c.0) (calm-loose q c.1) h
calm-loose (seq i p q) c h = or_cases (loose p) (loose q) (calm-loose p c.0) (calm-loose q c.1) h
calm-loose (loop i p) c h = c
calm-loose (every i s e p) c h = c
calm-loose (par i o p q) c h = c
calm-loose (fin i p) c h = c
calm-loose (canrun i m) c h = c
calm-loose (at_loop i p q) c h = c
calm-loose (at_par i o p q) c h = c

pub clear-calm : (t : Tree) → Good t → Calm (clear t)
unfolding Good Calm clear
clear-calm (nop i) g = tt
clear-calm (act i a v k) g = tt
clear-calm (await i s e) g = tt
clear-calm (emit i e y) g = tt
clear-calm (break i) g = tt
clear-calm (ifvar i v p q) g = tt
clear-calm (seq i p q) g = clear-calm p g.0
clear-calm (loop i p) g = tt
clear-calm (every i s e p) g = tt
clear-calm (par i o p q) g = tt
clear-calm (fin i p) g = g
clear-calm (canrun i m) g = tt
clear-calm (at_loop i p q) g = clear-calm p g.0
clear-calm (at_par i o p q) g = (clear-calm p g.0, clear-calm q g.1)

-- @nop may end, a break may break
pub done-ends : (t : Tree) → front t ≡ done → T (may_end t)
unfolding may_end
done-ends t e = go (seen t) e
  where
    go : {u : Tree} {f : Front} → Seen u f → f ≡ done → T (may_end u)
    go is-nop x = tt
    go is-brk x = clash (cc)
    go is-other x = clash (cc)

pub broken-breaks : (t : Tree) (b : ℕ) → front t ≡ broken b → T (may_break t)
unfolding may_break
broken-breaks t b e = go (seen t) e
  where
    go : {u : Tree} {f : Front} → Seen u f → f ≡ broken b → T (may_break u)
    go is-nop x = clash (cc)
    go is-brk x = tt
    go is-other x = clash (cc)

pub broken-loose : (t : Tree) (b : ℕ) → front t ≡ broken b → T (loose t)
unfolding loose
broken-loose t b e = go (seen t) e
  where
    go : {u : Tree} {f : Front} → Seen u f → f ≡ broken b → T (loose u)
    go is-nop x = clash (cc)
    go is-brk x = tt
    go is-other x = clash (cc)

-- ---- the counts of a program

-- emits (E)
unfoldable pub emit_count : Tree → ℕ
emit_count (nop i) = 0
emit_count (act i a v k) = 0
emit_count (await i s e) = 0
emit_count (emit i e y) = 1
emit_count (break i) = 0
emit_count (ifvar i v p q) = emit_count p + emit_count q
emit_count (seq i p q) = emit_count p + emit_count q
emit_count (loop i p) = emit_count p
emit_count (every i s e p) = emit_count p
emit_count (par i o p q) = emit_count p + emit_count q
emit_count (fin i p) = emit_count p
emit_count (canrun i m) = 0
emit_count (at_loop i p q) = 0
emit_count (at_par i o p q) = 0

-- deepest loop nesting (D)
unfoldable pub loop_depth : Tree → ℕ
loop_depth (nop i) = 0
loop_depth (act i a v k) = 0
loop_depth (await i s e) = 0
loop_depth (emit i e y) = 0
loop_depth (break i) = 0
loop_depth (ifvar i v p q) = max (loop_depth p) (loop_depth q)
loop_depth (seq i p q) = max (loop_depth p) (loop_depth q)
loop_depth (loop i p) = suc (loop_depth p)
loop_depth (every i s e p) = loop_depth p
loop_depth (par i o p q) = max (loop_depth p) (loop_depth q)
loop_depth (fin i p) = loop_depth p
loop_depth (canrun i m) = 0
loop_depth (at_loop i p q) = 0
loop_depth (at_par i o p q) = 0

-- the kinds of a program only
unfoldable pub Program : Tree → Type 0
Program (nop i) = Unit {0}
Program (act i a v k) = Unit {0}
Program (await i s e) = Unit {0}
Program (emit i e y) = Unit {0}
Program (break i) = Unit {0}
Program (ifvar i v p q) = Program p × Program q
Program (seq i p q) = Program p × Program q
Program (loop i p) = Program p
Program (every i s e p) = Program p
Program (par i o p q) = Program p × Program q
Program (fin i p) = Program p
Program (canrun i m) = ⊥
Program (at_loop i p q) = ⊥
Program (at_par i o p q) = ⊥

-- outputs outside an every (P)
unfoldable pub outputs_outside : Tree → ℕ
outputs_outside (nop i) = 0
outputs_outside (act i a v k) = is_out a
outputs_outside (await i s e) = 0
outputs_outside (emit i e y) = 0
outputs_outside (break i) = 0
outputs_outside (ifvar i v p q) = outputs_outside p + outputs_outside q
outputs_outside (seq i p q) = outputs_outside p + outputs_outside q
outputs_outside (loop i p) = outputs_outside p
outputs_outside (every i s e p) = 0
outputs_outside (par i o p q) = outputs_outside p + outputs_outside q
outputs_outside (fin i p) = outputs_outside p
outputs_outside (canrun i m) = 0
outputs_outside (at_loop i p q) = 0
outputs_outside (at_par i o p q) = 0

-- outputs inside an every (Q)
unfoldable pub outputs_inside : Tree → ℕ
unfolding outputs_outside
outputs_inside (nop i) = 0
outputs_inside (act i a v k) = 0
outputs_inside (await i s e) = 0
outputs_inside (emit i e y) = 0
outputs_inside (break i) = 0
outputs_inside (ifvar i v p q) = outputs_inside p + outputs_inside q
outputs_inside (seq i p q) = outputs_inside p + outputs_inside q
outputs_inside (loop i p) = outputs_inside p
outputs_inside (every i s e p) = outputs_outside p
outputs_inside (par i o p q) = outputs_inside p + outputs_inside q
outputs_inside (fin i p) = outputs_inside p
outputs_inside (canrun i m) = 0
outputs_inside (at_loop i p q) = 0
outputs_inside (at_par i o p q) = 0
