-- A construct and what stands around it as a node of the rules' walk, and what that walk goes through from it on.
use Rattle.std.specs.Prelude.{◌≡◌, List, [], ◌++◌, Bool, not, ◌&&◌, ◌||◌, ℕ, zero, suc, ◌+◌, ◌<◌, eqb, if◌then◌else◌}
use Rattle.rules.specs.Table.{kind_at, span_at, second_at}
use Rattle.rules.specs.Check as Rules
use Rattle.rules.specs.Check.{may_end, walk, a_loop, an_every, a_fin, loose_break, not_plain, deep_loop, endless_loop}
use Rattle.table.specs.Constructs.{tree}
use Rattle.table.specs.Places.{tree_of}
use Rattle.acceptance.specs.declared.visit.Around.{Around}
use Rattle.acceptance.specs.declared.visit.Visit.{Visit}

abbrev pub around_of : Around → Rules.Around
around_of a = record { loops = a.loops; in_every = a.in_every; in_fin = a.in_fin }

-- what stands around the children of a record of kind k
unfoldable pub inner : ℕ → Rules.Around → Rules.Around
inner k a = if eqb k 14 then a_loop a else (if eqb k 15 || eqb k 16 then an_every a else (if eqb k 19 then a_fin a else a))

-- the record at place i as a node of the walk
abbrev pub visit_at : List ℕ → Rules.Around → ℕ → Rules.Visit
visit_at b a i = record { place = i; kind = kind_at b i; around = a; endless = eqb (kind_at b i) 14 && may_end (tree_of b (i + 1)) }

-- what the walk goes through below a record with so many children
abbrev pub below_at : ℕ → List ℕ → Rules.Around → ℕ → List Rules.Visit
below_at zero b a i = []
below_at (suc zero) b a i = walk a (tree_of b (i + 1))
below_at (suc (suc n)) b a i = walk a (tree_of b (i + 1)) ++ walk a (tree_of b (second_at b i))

abbrev pub visit_of : Visit → Rules.Visit
visit_of v = visit_at v.at.table.now (around_of v.around) v.at.place

abbrev pub walk_of : Visit → List Rules.Visit
walk_of v = walk (around_of v.around) (tree v.at)

-- it fails no stage from 4 to 7
abbrev pub passes : Rules.Visit → Bool
passes v = not (not_plain v || loose_break v || deep_loop v || endless_loop v)

-- w is the first child of v: its place, that its span is less, and what stands around it
pub record IsFirst (v w : Visit) : Type 0 where
  pub table : w.at.table.now ≡ v.at.table.now
  pub place : w.at.place ≡ v.at.place + 1
  pub smaller : span_at w.at.table.now w.at.place < span_at v.at.table.now v.at.place
  pub around : around_of w.around ≡ inner (kind_at v.at.table.now v.at.place) (around_of v.around)

pub record IsSecond (v w : Visit) : Type 0 where
  pub table : w.at.table.now ≡ v.at.table.now
  pub place : w.at.place ≡ second_at v.at.table.now v.at.place
  pub smaller : span_at w.at.table.now w.at.place < span_at v.at.table.now v.at.place
  pub around : around_of w.around ≡ inner (kind_at v.at.table.now v.at.place) (around_of v.around)
