-- The number falls.
use Rattle.lines.proofs.buffer.Front.+decimal.Given as goal

abbrev pub decreases-decimal : goal.decreases-decimal
decreases-decimal l = l.n
