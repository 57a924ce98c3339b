-- The waiting marks: stage 8, the tree at rest that they stand for, and the marks of a tree at rest.
use Rattle.std.specs.Prelude.{Bool, true, false, not, ◌&&◌, ◌||◌, List, [], ◌∷◌, ◌++◌, ℕ, eqb, length, get_or, set, replicate, if◌then◌else◌}
use Rattle.std.proofs.Math.Option.{Option, none, some}
use Rattle.rules.specs.Stages.{is_some, failing, unless, Stage, stage}
use Rattle.rules.specs.Table.{kind_at, records_of, program_of}
use Rattle.rules.specs.Tree.{Tree, nop, act, await, emit, break, ifvar, seq, loop, every, par, fin, canrun, at_loop, at_par, Par, and, or}

abbrev pub marked : List ℕ → ℕ → Bool
marked m i = eqb (get_or m i 0) 1

-- ---- the tree at rest, none for a construct with no marks

-- marked on its left it keeps its right; on one side only it is that side
abbrev pub rest_seq : ℕ → Option Tree → Tree → Option Tree → Option Tree
rest_seq i none q r = r
rest_seq i (some p) q r = some (seq i p q)

abbrev pub rest_if : Option Tree → Option Tree → Option Tree
rest_if none r = r
rest_if (some p) r = some p

-- its marked body @loop its body
abbrev pub rest_loop : ℕ → Tree → Option Tree → Option Tree
rest_loop i p none = none
rest_loop i p (some r) = some (at_loop i r p)

-- marked on both sides it is @and or @or; on one side only it is that side
abbrev pub rest_par : ℕ → Par → Option Tree → Option Tree → Option Tree
rest_par i o none r = r
rest_par i o (some p) none = some p
rest_par i o (some p) (some q) = some (at_par i o p q)

unfoldable pub rest_of : List ℕ → Tree → Option Tree
rest_of m (nop i) = none
rest_of m (act i a v k) = none
rest_of m (await i s e) = if marked m i then some (await i s e) else none
rest_of m (emit i e y) = none
rest_of m (break i) = none
rest_of m (ifvar i v p q) = rest_if (rest_of m p) (rest_of m q)
rest_of m (seq i p q) = rest_seq i (rest_of m p) q (rest_of m q)
rest_of m (loop i p) = rest_loop i p (rest_of m p)
rest_of m (every i s e p) = if marked m i then some (every i s e p) else none
rest_of m (par i o p q) = rest_par i o (rest_of m p) (rest_of m q)
rest_of m (fin i p) = if marked m i then some (fin i p) else none
rest_of m (canrun i k) = none
rest_of m (at_loop i p q) = none
rest_of m (at_par i o p q) = none

abbrev pub or_nop : Option Tree → Tree
or_nop none = nop 0
or_nop (some t) = t

unfoldable pub at_rest : List ℕ → Tree → Tree
unfolding rest_of
at_rest m t = or_nop (rest_of m t)

-- ---- fitting: the constructs that fail

abbrev pub misfit : ℕ → Bool → List ℕ
misfit i true = i ∷ []
misfit i false = []

-- an or: marks on both sides or on neither
abbrev pub par_misfit : ℕ → Par → Bool → Bool → List ℕ
par_misfit i and a b = []
par_misfit i or true b = misfit i (not b)
par_misfit i or false b = misfit i b

-- a sequence or an if: no marks on both sides
unfoldable pub misfits : List ℕ → Tree → List ℕ
unfolding rest_of
misfits m (nop i) = []
misfits m (act i a v k) = []
misfits m (await i s e) = []
misfits m (emit i e y) = []
misfits m (break i) = []
misfits m (ifvar i v p q) = misfit i (is_some (rest_of m p) && is_some (rest_of m q)) ++ (misfits m p ++ misfits m q)
misfits m (seq i p q) = misfit i (is_some (rest_of m p) && is_some (rest_of m q)) ++ (misfits m p ++ misfits m q)
misfits m (loop i p) = misfits m p
misfits m (every i s e p) = []
misfits m (par i o p q) = par_misfit i o (is_some (rest_of m p)) (is_some (rest_of m q)) ++ (misfits m p ++ misfits m q)
misfits m (fin i p) = []
misfits m (canrun i k) = []
misfits m (at_loop i p q) = []
misfits m (at_par i o p q) = []

-- ---- stage 8

abbrev pub may_mark : ℕ → Bool
may_mark k = eqb k 8 || eqb k 9 || eqb k 15 || eqb k 16 || eqb k 19

-- 0, or a 1 on a kind that waits
abbrev pub mark_right : List ℕ → List ℕ → ℕ → Bool
mark_right b m i = eqb (get_or m i 0) 0 || (eqb (get_or m i 0) 1 && may_mark (kind_at b i))

-- one byte for each record
abbrev pub length_stage : List ℕ → List ℕ → Stage
length_stage b m = stage 8 (unless (eqb (length m) (records_of b)))

unfoldable pub marks_stages : List ℕ → List ℕ → List Stage
unfolding failing misfits program_of
marks_stages b m =
    length_stage b m ∷
    stage 8 (failing (mark_right b m) 0 (records_of b)) ∷
    stage 8 (misfits m (program_of b)) ∷
    []

-- ---- the marks of a tree at rest: a 1 at every await, every and fin on the spine

unfoldable pub waits : Tree → List ℕ
waits (nop i) = []
waits (act i a v k) = []
waits (await i s e) = i ∷ []
waits (emit i e y) = []
waits (break i) = []
waits (ifvar i v p q) = []
waits (seq i p q) = waits p
waits (loop i p) = []
waits (every i s e p) = i ∷ []
waits (par i o p q) = []
waits (fin i p) = i ∷ []
waits (canrun i k) = []
waits (at_loop i p q) = waits p
waits (at_par i o p q) = waits p ++ waits q

unfoldable pub mark_all : List ℕ → List ℕ → List ℕ
mark_all [] m = m
mark_all (i ∷ is) m = set (mark_all is m) i 1

-- of a program of n records
unfoldable pub marks_of : ℕ → Tree → List ℕ
unfolding waits mark_all
marks_of n t = mark_all (waits t) (replicate n 0)

-- all zero means finished
unfoldable pub all_zero : List ℕ → Bool
all_zero [] = true
all_zero (m ∷ ms) = eqb m 0 && all_zero ms
