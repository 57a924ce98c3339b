-- All that the theorems use of what a step does to the memory: quiet does nothing, and how many variables and outputs there are then.
use Rattle.std.specs.Prelude.{◌≡◌, refl, ℕ, ◌+◌, length}
use Rattle.std.proofs.Common.{arith, length-set, length-append}
use Rattle.rules.specs.Tree.{Act, assign, compare, copy, divide, increase, output, subtract}
use Rattle.rules.specs.Memory.{Deed, Memory, does, effect, quiet, raises}

pub effect-quiet : (m : Memory) → effect quiet m ≡ m
unfolding effect
effect-quiet m = refl

-- the number of variables stays
pub effect-vars : (w : Deed) (m : Memory) → length (effect w m).vars ≡ length m.vars
unfolding effect
effect-vars quiet m = refl
effect-vars (does assign v k) m = length-set m.vars v _
effect-vars (does increase v k) m = length-set m.vars v _
effect-vars (does copy v k) m = length-set m.vars v _
effect-vars (does subtract v k) m = length-set m.vars v _
effect-vars (does compare v k) m = length-set m.vars v _
effect-vars (does divide v k) m = length-set m.vars v _
effect-vars (does output v k) m = refl
effect-vars (raises e y) m = refl

-- the outputs that an action writes
abbrev pub is_out : Act → ℕ
is_out assign = 0
is_out increase = 0
is_out copy = 0
is_out subtract = 0
is_out compare = 0
is_out divide = 0
is_out output = 1

abbrev pub writes : Deed → ℕ
writes quiet = 0
writes (does a v k) = is_out a
writes (raises e y) = 0

pub effect-outs : (w : Deed) (m : Memory) → length (effect w m).outs ≡ length m.outs + writes w
unfolding effect
effect-outs quiet m = omega arith
effect-outs (does assign v k) m = omega arith
effect-outs (does increase v k) m = omega arith
effect-outs (does copy v k) m = omega arith
effect-outs (does subtract v k) m = omega arith
effect-outs (does compare v k) m = omega arith
effect-outs (does divide v k) m = omega arith
effect-outs (does output v k) m = length-append m.outs _
effect-outs (raises e y) m = omega arith
