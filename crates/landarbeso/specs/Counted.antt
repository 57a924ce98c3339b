-- What a reaction or a list answers and leaves, with the running totals.
use Rattle.std.specs.Prelude.{List, ◌≡◌, ℕ, ℤ}
use Rattle.rules.specs.Calls.{Outcome}
use Rattle.totals.specs.declared.Totals.{Totals}
use Rattle.totals.specs.Sum.{totals_of}
use Rattle.landarbeso.specs.Answers.{answer_of}
use Rattle.landarbeso.specs.declared.answers.Answer.{Answer}

-- the whole answer and all that was lent
pub record Meant (o : Outcome) (r : Answer) (marks : List ℕ) (vars : List ℤ) (room : List ℕ) (t : Totals) : Type 0 where
  pub answer : r ≡ answer_of o
  pub marks-are : marks ≡ o.lent.marks
  pub vars-are : vars ≡ o.lent.vars
  pub room-is : room ≡ o.lent.room
  pub totals-are : totals_of t ≡ o.lent.totals
