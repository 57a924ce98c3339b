-- Arrays that stand for a memory go on standing for it: a step more, kinds 1 to 7, the test of an if.
-- Assumes nothing.
use Rattle.std.specs.Prelude.{if◌then◌else◌}
use Rattle.std.proofs.Common.{◌≡◌, ℕ, suc, ◌+◌, ◌/◌, ◌<◌, ◌≤◌, min, Bool, true, false, not, ltb, List, [], ◌∷◌, ◌++◌, length, get_or, set, ℤ, pos, sym, refl, ap, ◌∙◌, append_assoc, add-one, arith, length-append, length-set, ltb-false, ltb-true}
use lib.Signed.{mag}
use lib.ListN.{get_or-eq_default}
use lib.Seq.{set_out, take-nil}
use Rattle.rules.specs.Limits.{record_bytes, variables, top_total}
use Rattle.rules.specs.Number.{is_zero}
use Rattle.rules.specs.Tree.{Act, assign, increase, copy, subtract, compare, divide, output}
use Rattle.rules.specs.Memory.{Memory, Output, Deed, quiet, does, raises, read, read_number, write, write_out, effect}
use Rattle.rules.specs.Calls.{out_bytes, onto}
use Rattle.memory.specs.Arrays.{Arrays, arrays, tick, variable, set_variable, is_nonzero, store, make_output, acts}
use Rattle.memory.specs.Stands.{Stands}
use Rattle.memory.proofs.Written.{made, fitting-all, fitting-more}

-- a count that stops at the largest value
counted-more : (n : ℕ) (f : ℕ → List ℕ) → (if ltb (min top_total n) top_total then f (min top_total n + 1) else f (min top_total n)) ≡ f (min top_total (suc n))
counted-more n f = go (ltb (min top_total n) top_total) refl
  where
    go : (b : Bool) → ltb (min top_total n) top_total ≡ b → (if b then f (min top_total n + 1) else f (min top_total n)) ≡ f (min top_total (suc n))
    go true e = let h : min top_total n + 1 ≡ min top_total (suc n) = omega (arith, ltb-true (min top_total n) top_total e) in ap f h
    go false e = let h : min top_total n ≡ min top_total (suc n) = omega (arith, ltb-false (min top_total n) top_total e) in ap f h

-- with all 64 variables the tests of the index change nothing
pub variable-read : (l : List ℤ) (v : ℕ) → length l ≡ variables → variable l v ≡ get_or l v (pos 0)
variable-read l v n = go (ltb v variables) refl
  where
    go : (b : Bool) → ltb v variables ≡ b → (if b then get_or l v (pos 0) else pos 0) ≡ get_or l v (pos 0)
    go true e = refl
    go false e = sym (get_or-eq_default l (pos 0) (omega (arith, ltb-false v variables e)))

pub variable-set : (l : List ℤ) (v : ℕ) (z : ℤ) → length l ≡ variables → set_variable l v z ≡ set l v z
variable-set l v z n = go (ltb v variables) refl
  where
    go : (b : Bool) → ltb v variables ≡ b → (if b then set l v z else l) ≡ set l v z
    go true e = refl
    go false e = sym (set_out l v z (omega (arith, ltb-false v variables e)))

module _ {room : List ℕ} {a : Arrays} {m : Memory} {steps : ℕ} (s : Stands room a m steps) where
  pub stands-tick : Stands room (tick a) m (suc steps)
  unfolding tick
  stands-tick = record {
    same_vars = s.same_vars;
    all_vars = s.all_vars;
    room_size = s.room_size;
    counted = rw s.counted (counted-more steps (λ n. n ∷ min top_total (length m.outs) ∷ []));
    written = s.written;
  }

  pub stands-variable : (v : ℕ) → variable a.vars v ≡ read m v
  stands-variable v = rw s.same_vars (variable-read m.vars v s.all_vars)

  pub stands-test : (v : ℕ) → is_nonzero a v ≡ not (is_zero (read m v))
  unfolding is_nonzero
  stands-test v = rw (stands-variable v)

  pub stands-store : (v : ℕ) (z y : ℤ) → z ≡ y → Stands room (store a v z) (write m v y) steps
  stands-store v z y e = record {
    same_vars = rw (s.same_vars, e) (variable-set m.vars v y s.all_vars);
    all_vars = length-set m.vars v y ∙ s.all_vars;
    room_size = s.room_size;
    counted = s.counted;
    written = s.written;
  }

  pub stands-output : (o : ℕ) (z y : ℤ) → o < 256 → z ≡ y → Stands room (make_output a o z) (write_out m o y) steps
  stands-output o z y b e = record {
    same_vars = s.same_vars;
    all_vars = s.all_vars;
    room_size = s.room_size;
    counted = rw (s.counted, length-append m.outs (made o y ∷ []), add-one (length m.outs)) (counted-more (length m.outs) (λ n. min top_total steps ∷ n ∷ []));
    written = rw (s.counted, s.written, e) (fitting-more room m.outs o y (min top_total (length m.outs)) b s.room_size refl);
  }

  -- a name is a byte
  pub stands-acts : (x : Act) (v : ℕ) (k : ℤ) → v < 256 → Stands room (acts x v k a) (effect (does x v k) m) steps
  unfolding acts effect
  stands-acts assign v k b = stands-store v k k refl
  stands-acts increase v k b = stands-store v _ _ (rw (stands-variable v))
  stands-acts copy v w b = stands-store v _ _ (stands-variable (mag w))
  stands-acts subtract v w b = stands-store v _ _ (rw (stands-variable v, stands-variable (mag w)))
  stands-acts compare v w b = stands-store v _ _ (rw (stands-variable v, stands-variable (mag w)))
  stands-acts divide v w b = stands-store v _ _ (rw (stands-variable v, stands-variable (mag w)))
  stands-acts output o w b = stands-output o _ _ b (stands-variable (mag w))

  -- where the room has all outputs, they stand at its front
  pub stands-room : length m.outs ≤ length room / record_bytes → a.out ≡ onto (out_bytes m.outs) room
  stands-room h = s.written ∙ ap (λ os. onto (out_bytes os) room) (fitting-all room m.outs h)

-- ---- a memory whose outputs come after others, as in a list of events

abbrev pub after : List Output → Memory → Memory
after os m = record { vars = m.vars; outs = os ++ m.outs }

pub effect-after : (os : List Output) (d : Deed) (m : Memory) → effect d (after os m) ≡ after os (effect d m)
unfolding effect
effect-after os quiet m = refl
effect-after os (does assign v k) m = refl
effect-after os (does increase v k) m = refl
effect-after os (does copy v w) m = refl
effect-after os (does subtract v w) m = refl
effect-after os (does compare v w) m = refl
effect-after os (does divide v w) m = refl
effect-after os (does output o w) m = rw (append_assoc os m.outs (made o (read_number m w) ∷ []))
effect-after os (raises e y) m = refl

-- before the first step
pub stands-start : (vars : List ℤ) (room : List ℕ) → length vars ≡ variables → length room ≤ top_total → Stands room (arrays vars room (0 ∷ 0 ∷ [])) (record { vars = vars; outs = [] }) 0
unfolding arrays out_bytes
stands-start vars room v r = record { same_vars = refl; all_vars = v; room_size = r; counted = refl; written = rw (take-nil {A = Output} (length room / record_bytes)) }
