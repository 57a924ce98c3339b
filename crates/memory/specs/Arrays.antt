-- The memory of a running program as the arrays that are lent down every walk, and what kinds 1 to 7 do to them.
use Rattle.std.specs.Prelude.{ℕ, ◌+◌, ◌*◌, ◌/◌, ◌%◌, Bool, not, List, [], ◌∷◌, length, ℤ, pos, nat_lt, slice_index, slice_index_or, slice_set, if◌then◌else◌}
use Rattle.std.proofs.Math.Option.{Option, none, some}
use Rattle.std.specs.Int.Signed.{mag}
use Rattle.std.proofs.lemmas.List.Edits.{sets}
use Rattle.rules.specs.Stages.{option}
use Rattle.rules.specs.Limits.{record_bytes, variables, top_total}
use Rattle.rules.specs.Number.{sum, difference, quotient, is_less, is_zero}
use Rattle.rules.specs.Tree.{Act, assign, increase, copy, subtract, compare, divide, output}
use Rattle.rules.specs.Calls.{out_record}

-- the variables; the output room; the steps taken and the outputs made
pub record Arrays : Type 0 where
  pub vars : List ℤ
  pub out : List ℕ
  pub counts : List ℕ

unfoldable pub arrays : List ℤ → List ℕ → List ℕ → Arrays
arrays v o c = record { vars = v; out = o; counts = c }

-- one more at i, stopping at the largest value
abbrev pub one_more : ℕ → List ℕ → List ℕ
one_more i c = if nat_lt (slice_index c i) top_total then slice_set c i (slice_index c i + 1) else c

-- one step more
unfoldable pub tick : Arrays → Arrays
tick a = record { vars = a.vars; out = a.out; counts = one_more 0 a.counts }

abbrev pub variable : List ℤ → ℕ → ℤ
variable l v = if nat_lt v variables then slice_index_or l v (pos 0) else pos 0

abbrev pub set_variable : List ℤ → ℕ → ℤ → List ℤ
set_variable l v z = if nat_lt v variables then slice_set l v z else l

-- what an if tests
unfoldable pub is_nonzero : Arrays → ℕ → Bool
is_nonzero a v = not (is_zero (variable a.vars v))

-- the output after n others: name, three zeros, value, where the room has them
abbrev pub put_output : List ℕ → ℕ → ℕ → ℤ → List ℕ
put_output room n o z = if nat_lt n (length room / record_bytes) then sets room (record_bytes * n) (out_record (o % 256) z) else room

abbrev pub store : Arrays → ℕ → ℤ → Arrays
store a v z = record { vars = set_variable a.vars v z; out = a.out; counts = a.counts }

abbrev pub make_output : Arrays → ℕ → ℤ → Arrays
make_output a o z = record { vars = a.vars; out = put_output a.out (slice_index a.counts 1) o z; counts = one_more 1 a.counts }

-- name, number
unfoldable pub acts : Act → ℕ → ℤ → Arrays → Arrays
unfolding sum difference quotient
acts assign v k a = store a v k
acts increase v k a = store a v (sum (variable a.vars v) k)
acts copy v w a = store a v (variable a.vars (mag w))
acts subtract v w a = store a v (difference (variable a.vars v) (variable a.vars (mag w)))
acts compare v w a = store a v (is_less (variable a.vars v) (variable a.vars (mag w)))
acts divide v w a = store a v (quotient (variable a.vars v) (variable a.vars (mag w)))
acts output o w a = make_output a o (variable a.vars (mag w))

-- by kind, from kind 0 on
abbrev pub acts_by_kind : List (Option Act)
acts_by_kind = none ∷ some assign ∷ some increase ∷ some copy ∷ some subtract ∷ some compare ∷ some divide ∷ some output ∷ []

abbrev pub act_at : ℕ → Option Act
act_at k = slice_index_or acts_by_kind k none

-- any other kind does nothing
unfoldable pub kind_acts : ℕ → ℕ → ℤ → Arrays → Arrays
unfolding acts
kind_acts k v n a = option a (λ x. acts x v n a) (act_at k)
