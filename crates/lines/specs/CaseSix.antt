-- What the runner prints of case 6 with one event 1 of value 40.
use Rattle.std.specs.Prelude.{◌≡◌, refl, List, [], ◌∷◌, ℕ}
use Rattle.lines.specs.Lines.{ascii}
use Rattle.lines.specs.Printed.{printed}

-- (fin output 2 v0) or (await 1)
abbrev table : List ℕ
table =
    18 ∷ 0 ∷ 4 ∷ 0 ∷ 0 ∷ 0 ∷ 0 ∷ 0 ∷
    19 ∷ 0 ∷ 2 ∷ 0 ∷ 0 ∷ 0 ∷ 0 ∷ 0 ∷
    7 ∷ 2 ∷ 1 ∷ 0 ∷ 0 ∷ 0 ∷ 0 ∷ 0 ∷
    8 ∷ 1 ∷ 1 ∷ 0 ∷ 0 ∷ 0 ∷ 0 ∷ 0 ∷
    []

abbrev events : List ℕ
events = 1 ∷ 0 ∷ 0 ∷ 0 ∷ 40 ∷ 0 ∷ 0 ∷ 0 ∷ []

pub case_six : printed table events ≡ ascii "0 0 5 0 1 0 waiting\n1 40 4 0 1 1 finished\nout 2 40\n"
unfolding printed
case_six = refl
