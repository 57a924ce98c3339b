-- What remains of a construct: how many records, and which.
use Rattle.std.specs.Prelude.{◌≡◌, List, [], ◌∷◌, ℕ, ◌/◌, ◌%◌}
use Rattle.std.proofs.Math.Option.{Option, none, some}
use Rattle.rules.specs.Tree.{Tree, span_of}
use Rattle.rules.specs.Table.{records_of}
use Rattle.rules.specs.Marks.{rest_of}
use Rattle.rules.specs.Remaining.{records_for}
use Rattle.table.specs.Places.{tree_of}
use Rattle.marks.specs.Fitting.{Known}

-- 0 records where nothing remains
abbrev pub span_o : Option Tree → ℕ
span_o none = 0
span_o (some t) = span_of t

abbrev pub records_o : Option Tree → List ℕ
records_o none = []
records_o (some t) = records_for t

unfoldable pub rest_span : List ℕ → Tree → ℕ
unfolding rest_of span_of
rest_span m t = span_o (rest_of m t)

unfoldable pub rest_records : List ℕ → Tree → List ℕ
unfolding rest_of records_for
rest_records m t = records_o (rest_of m t)

-- a record with name and number 0
abbrev pub head_bytes : ℕ → ℕ → List ℕ
head_bytes k n = k ∷ 0 ∷ n % 256 ∷ n / 256 ∷ 0 ∷ 0 ∷ 0 ∷ 0 ∷ []

-- how many records remain at each place from i on
abbrev pub Rests : List ℕ → List ℕ → ℕ → List ℕ → Type 0
Rests b m i rests = Known 0 (λ j n. n ≡ rest_span m (tree_of b j)) (records_of b) i rests
