-- The memory of a reaction, and all that a step does to it: nothing else looks into it but the test of an if.
use Rattle.std.specs.Prelude.{List, [], ◌∷◌, ◌++◌, ℕ, ℤ, pos, get_or, set}
use Rattle.std.specs.Int.Signed.{mag}
use Rattle.rules.specs.Number.{sum, difference, quotient, is_less}
use Rattle.rules.specs.Tree.{Act, assign, increase, copy, subtract, compare, divide, output}

pub record Output : Type 0 where
  pub name : ℕ
  pub value : ℤ

-- the variables, and the outputs so far
pub record Memory : Type 0 where
  pub vars : List ℤ
  pub outs : List Output

-- what a step does besides changing the tree: nothing, what a kind 1 to 7 does, an emit
pub data Deed : Type 0 where
  quiet : Deed
  does : Act → ℕ → ℤ → Deed  -- name, number
  raises : ℕ → ℤ → Deed  -- event, number

abbrev pub read : Memory → ℕ → ℤ
read m v = get_or m.vars v (pos 0)

-- the variable that a number names
abbrev pub read_number : Memory → ℤ → ℤ
read_number m w = read m (mag w)

abbrev pub write : Memory → ℕ → ℤ → Memory
write m v z = record { vars = set m.vars v z; outs = m.outs }

abbrev pub write_out : Memory → ℕ → ℤ → Memory
write_out m o z = record { vars = m.vars; outs = m.outs ++ record { name = o; value = z } ∷ [] }

unfoldable pub effect : Deed → Memory → Memory
unfolding sum difference quotient
effect quiet m = m
effect (does assign v k) m = write m v k
effect (does increase v k) m = write m v (sum (read m v) k)
effect (does copy v w) m = write m v (read_number m w)
effect (does subtract v w) m = write m v (difference (read m v) (read_number m w))
effect (does compare v w) m = write m v (is_less (read m v) (read_number m w))
effect (does divide v w) m = write m v (quotient (read m v) (read_number m w))
effect (does output o w) m = write_out m o (read_number m w)
effect (raises e y) m = m
