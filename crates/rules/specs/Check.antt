-- What the check refuses, stages 1 to 7, and the announced numbers.
use Rattle.std.specs.Prelude.{Bool, true, false, not, ◌&&◌, ◌||◌, List, [], ◌∷◌, ◌++◌, ℕ, suc, ◌%◌, max, eqb, leb, length, if◌then◌else◌}
use Rattle.std.proofs.Math.Option.{Option, none, some}
use Rattle.rules.specs.Stages.{failing, unless, Refusal, Stage, stage, first_refusal}
use Rattle.rules.specs.Limits.{record_bytes, most_table_bytes, most_loops, Announced, announce}
use Rattle.rules.specs.Table.{records_of, program_of, shape_right, in_kinds_table}
use Rattle.rules.specs.Tree.{Tree, nop, act, await, emit, break, ifvar, seq, loop, every, par, fin, canrun, at_loop, at_par, Source, input, internal, Par, and, or, head_of}

-- ---- may end at once, may break

-- an input await guards a loop, an internal one does not
abbrev pub guards : Source → Bool
guards input = true
guards internal = false

-- and where both may, or where either may
abbrev pub par_ends : Par → Bool → Bool → Bool
par_ends and x y = x && y
par_ends or x y = x || y

-- The last three kinds are in no program: they say the same of what is left of one.
unfoldable mutual
  pub may_end : Tree → Bool
  may_end (nop i) = true
  may_end (act i a v k) = true
  may_end (await i s e) = not (guards s)
  may_end (emit i e y) = true
  may_end (break i) = false
  may_end (ifvar i v p q) = may_end p || may_end q
  may_end (seq i p q) = may_end p && may_end q
  may_end (loop i p) = may_break p
  may_end (every i s e p) = false
  may_end (par i o p q) = par_ends o (may_end p) (may_end q)
  may_end (fin i p) = false
  may_end (canrun i m) = true
  may_end (at_loop i p q) = may_break p || (may_end p && may_break q)
  may_end (at_par i o p q) = par_ends o (may_end p) (may_end q)

  -- a break of its own, one with no nearer loop, stands in it; under an every or a fin none can (stage 5)
  pub may_break : Tree → Bool
  may_break (nop i) = false
  may_break (act i a v k) = false
  may_break (await i s e) = false
  may_break (emit i e y) = false
  may_break (break i) = true
  may_break (ifvar i v p q) = may_break p || may_break q
  may_break (seq i p q) = may_break p || may_break q
  may_break (loop i p) = false
  may_break (every i s e p) = false
  may_break (par i o p q) = may_break p || may_break q
  may_break (fin i p) = false
  may_break (canrun i m) = false
  may_break (at_loop i p q) = false
  may_break (at_par i o p q) = may_break p || may_break q

-- ---- a walk over a program, in preorder

-- what stands around a node: so many loops, an every, a fin
pub record Around : Type 0 where
  pub loops : ℕ
  pub in_every : Bool
  pub in_fin : Bool

abbrev pub nothing_around : Around
nothing_around = record { loops = 0; in_every = false; in_fin = false }

abbrev pub a_loop : Around → Around
a_loop a = record { loops = suc a.loops; in_every = a.in_every; in_fin = a.in_fin }

abbrev pub an_every : Around → Around
an_every a = record { loops = a.loops; in_every = true; in_fin = a.in_fin }

abbrev pub a_fin : Around → Around
a_fin a = record { loops = a.loops; in_every = a.in_every; in_fin = true }

-- a node of the walk; `endless` is set at a loop whose body may end at once
pub record Visit : Type 0 where
  pub place : ℕ
  pub kind : ℕ
  pub around : Around
  pub endless : Bool

abbrev pub visit : ℕ → ℕ → Around → Visit
visit i k a = record { place = i; kind = k; around = a; endless = false }

unfoldable pub walk : Around → Tree → List Visit
unfolding may_end head_of
walk a (nop i) = visit i 0 a ∷ []
walk a (act i o v k) = visit i (head_of (act i o v k)).kind a ∷ []
walk a (await i s e) = visit i (head_of (await i s e)).kind a ∷ []
walk a (emit i e y) = visit i 10 a ∷ []
walk a (break i) = visit i 11 a ∷ []
walk a (ifvar i v p q) = visit i 12 a ∷ (walk a p ++ walk a q)
walk a (seq i p q) = visit i 13 a ∷ (walk a p ++ walk a q)
walk a (loop i p) = record { place = i; kind = 14; around = a; endless = may_end p } ∷ walk (a_loop a) p
walk a (every i s e p) = visit i (head_of (every i s e p)).kind a ∷ walk (an_every a) p
walk a (par i o p q) = visit i (head_of (par i o p q)).kind a ∷ (walk a p ++ walk a q)
walk a (fin i p) = visit i 19 a ∷ walk (a_fin a) p
walk a (canrun i m) = []
walk a (at_loop i p q) = []
walk a (at_par i o p q) = []

-- the places of the visits that a test hits
unfoldable pub hits : (Visit → Bool) → List Visit → List ℕ
hits f [] = []
hits f (v ∷ vs) = if f v then v.place ∷ hits f vs else hits f vs

abbrev pub is_kind : ℕ → Visit → Bool
is_kind k v = eqb v.kind k

-- ---- stages 4 to 7, at one node

-- a break with no loop around it
abbrev pub loose_break : Visit → Bool
loose_break v = is_kind 11 v && eqb v.around.loops 0

-- kinds 0 to 7, 12, 13
abbrev pub is_plain : Visit → Bool
is_plain v = leb v.kind 7 || is_kind 12 v || is_kind 13 v

-- another kind under an every or a fin
abbrev pub not_plain : Visit → Bool
not_plain v = (v.around.in_every || v.around.in_fin) && not (is_plain v)

-- a loop inside eight others
abbrev pub deep_loop : Visit → Bool
deep_loop v = is_kind 14 v && leb most_loops v.around.loops

-- a loop whose body may end at once
abbrev pub endless_loop : Visit → Bool
endless_loop v = v.endless

-- ---- announced numbers

abbrev pub count : (Visit → Bool) → List Visit → ℕ
count f vs = length (hits f vs)

unfoldable pub deepest : List Visit → ℕ
deepest [] = 0
deepest (v ∷ vs) = max (if is_kind 14 v then suc v.around.loops else 0) (deepest vs)

abbrev pub outside_every : Visit → Bool
outside_every v = is_kind 7 v && not v.around.in_every

abbrev pub inside_every : Visit → Bool
inside_every v = is_kind 7 v && v.around.in_every

abbrev pub numbers : List Visit → Announced
numbers vs = announce (length vs) (count (is_kind 10) vs) (deepest vs) (count outside_every vs) (count inside_every vs)

unfoldable pub visits_of : List ℕ → List Visit
unfolding program_of walk
visits_of b = walk nothing_around (program_of b)

unfoldable pub announced : List ℕ → Announced
unfolding visits_of hits deepest
announced b = numbers (visits_of b)

-- ---- the check

abbrev pub good_length : List ℕ → Bool
good_length b = not (eqb (length b) 0) && eqb (length b % record_bytes) 0 && leb (length b) most_table_bytes

unfoldable pub table_stages : List ℕ → List Stage
unfolding visits_of failing hits
table_stages b =
    stage 1 (unless (good_length b)) ∷
    stage 2 (failing (shape_right b (records_of b)) 0 (records_of b)) ∷
    stage 3 (failing (in_kinds_table b) 0 (records_of b)) ∷
    stage 4 (hits loose_break (visits_of b)) ∷
    stage 5 (hits not_plain (visits_of b)) ∷
    stage 6 (hits deep_loop (visits_of b)) ∷
    stage 7 (hits endless_loop (visits_of b)) ∷
    []

pub data Verdict : Type 0 where
  refused : Refusal → Verdict
  accepted : Announced → Verdict

abbrev pub verdict : Option Refusal → Announced → Verdict
verdict none a = accepted a
verdict (some r) a = refused r

unfoldable pub check : List ℕ → Verdict
unfolding table_stages announced first_refusal
check b = verdict (first_refusal (table_stages b)) (announced b)
