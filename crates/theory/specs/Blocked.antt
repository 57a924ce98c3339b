-- A blocked tree is neither @nop nor a break, and no step is left inside it.
use Rattle.std.specs.Prelude.{◌≡◌, refl, ℕ, T}
use Rattle.std.proofs.Common.{arith, ltb→lt, ne_eqb}
use Rattle.rules.specs.Tree.{Tree, act, at_loop, at_par, await, break, canrun, emit, every, fin, ifvar, loop, nop, par, seq}
use Rattle.rules.specs.Memory.{Memory}
use Rattle.rules.specs.Step.{blocked, front, going, in_part, loop_step, nested_step, par_step, right_step, seq_step, stuck}
use Rattle.theory.specs.Logic.{both_left, both_right, T→true}

-- a blocked tree is neither @nop nor a break
pub blocked-going : (n : ℕ) (t : Tree) → T (blocked n t) → front t ≡ going
unfolding blocked front
blocked-going n (nop i) h = absurd h
blocked-going n (act i a v k) h = absurd h
blocked-going n (await i s e) h = refl
blocked-going n (emit i e y) h = absurd h
blocked-going n (break i) h = absurd h
blocked-going n (ifvar i v p q) h = absurd h
blocked-going n (seq i p q) h = refl
blocked-going n (loop i p) h = refl
blocked-going n (every i s e p) h = refl
blocked-going n (par i o p q) h = refl
blocked-going n (fin i p) h = refl
blocked-going n (canrun i m) h = refl
blocked-going n (at_loop i p q) h = refl
blocked-going n (at_par i o p q) h = refl

-- a blocked tree has no step inside it
pub blocked-stuck : (n : ℕ) (x : Memory) (t : Tree) → T (blocked n t) → nested_step n x t ≡ stuck
unfolding blocked nested_step seq_step loop_step par_step right_step in_part
blocked-stuck n x (nop i) h = absurd h
blocked-stuck n x (act i a v k) h = absurd h
blocked-stuck n x (await i s e) h = refl
blocked-stuck n x (emit i e y) h = absurd h
blocked-stuck n x (break i) h = absurd h
blocked-stuck n x (ifvar i v p q) h = absurd h
blocked-stuck n x (seq i p q) h = rw (blocked-going n p h, blocked-stuck n x p h)
blocked-stuck n x (loop i p) h = absurd h
blocked-stuck n x (every i s e p) h = refl
blocked-stuck n x (par i o p q) h = absurd h
blocked-stuck n x (fin i p) h = refl
blocked-stuck n x (canrun i m) h = rw (ne_eqb m n (λ e. omega (arith, ltb→lt m n h, e)))
blocked-stuck n x (at_loop i p q) h = rw (blocked-going n p h, blocked-stuck n x p h)
blocked-stuck n x (at_par i o p q) h =
    let hp : T (blocked n p) = both_left (blocked n p) (blocked n q) h in
    let hq : T (blocked n q) = both_right (blocked n p) (blocked n q) h in
    rw (blocked-going n p hp, T→true (blocked n p) hp, blocked-going n q hq, blocked-stuck n x q hq)
