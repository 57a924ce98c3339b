-- What a table has that passes stages 1 to 7.
-- Assumes nothing.
use mathlib.Core.Path.{◌≡◌, refl, ap}
use mathlib.Core.List.{List, [], ◌∷◌}
use mathlib.Core.Option.{none}
use Prim.Native.Nat.{ℕ, ◌+◌, ◌*◌, ◌≤◌}
use native.Mathlib.Omega.{arith}
use lib.ListN.{length}
use Rattle.rules.specs.Stages.{Stage, failing, first_refusal, stage, unless}
use Rattle.rules.specs.Limits.{most_emitted, most_loops, most_records}
use Rattle.rules.specs.Table.{in_kinds_table, program_of, records_of, shape_right}
use Rattle.rules.specs.Check.{announced, count, deep_loop, deepest, endless_loop, good_length, hits, is_kind, loose_break, not_plain, nothing_around, table_stages, visits_of}
use Rattle.rules.proofs.Products.{product-bound}
use Rattle.theory.specs.Stages.{next}
use Rattle.theory.specs.Walk.{walk-size}
use Rattle.theory.proofs.Accepted.{accepted-check, accepts}
use Rattle.table.specs.Places.{Place, Spot, tree_of}
use Rattle.table.specs.Found.{first_of}
use Rattle.table.proofs.Passed as Table
use Rattle.acceptance.proofs.Refusals.{few-loops}
use Rattle.acceptance.proofs.Tallies.{count_most}
use Rattle.engine.specs.Running.{most_rounds}

module _ (b : List ℕ) (e : first_refusal (table_stages b) ≡ none) where
  abbrev s2 : Stage
  s2 = stage 2 (failing (shape_right b (records_of b)) 0 (records_of b))

  abbrev s3 : Stage
  s3 = stage 3 (failing (in_kinds_table b) 0 (records_of b))

  abbrev s4 : Stage
  s4 = stage 4 (hits loose_break (visits_of b))

  abbrev s5 : Stage
  s5 = stage 5 (hits not_plain (visits_of b))

  abbrev s6 : Stage
  s6 = stage 6 (hits deep_loop (visits_of b))

  abbrev s7 : Stage
  s7 = stage 7 (hits endless_loop (visits_of b))

  later : first_refusal (s2 ∷ s3 ∷ s4 ∷ s5 ∷ s6 ∷ s7 ∷ []) ≡ none
  unfolding table_stages
  later = (next (stage 1 (unless (good_length b))) (s2 ∷ s3 ∷ s4 ∷ s5 ∷ s6 ∷ s7 ∷ []) e).later

  has : Table.Passed b
  has = Table.passed b (announced b) (accepted-check b e)

  pub passed-few : records_of b ≤ most_records
  passed-few = has.size.most

  pub passed-place : Place b 0
  passed-place = Table.passed-place b has

  pub passed-spot : Spot b 0
  passed-spot = record { place = passed-place; small = passed-few }

  shallow : deepest (visits_of b) ≤ most_loops
  shallow =
      let p2 = next s2 (s3 ∷ s4 ∷ s5 ∷ s6 ∷ s7 ∷ []) later in
      let p3 = next s3 (s4 ∷ s5 ∷ s6 ∷ s7 ∷ []) p2.later in
      let p4 = next s4 (s5 ∷ s6 ∷ s7 ∷ []) p3.later in
      let p5 = next s5 (s6 ∷ s7 ∷ []) p4.later in
      few-loops b refl (ap first_of (next s6 (s7 ∷ []) p5.later).clean)

  visits-most : length (visits_of b) ≤ 256
  unfolding visits_of
  visits-most = let k = accepts b (announced b) (accepted-check b e) in omega (arith, walk-size nothing_around (program_of b) k.program, k.sized, passed-few)

  emitted-most : (announced b).emitted ≤ 2304
  unfolding announced
  emitted-most = product-bound (count (is_kind 10) (visits_of b)) (deepest (visits_of b) + 1) 256 9 (omega (arith, count_most (is_kind 10) (visits_of b), visits-most)) (omega (arith, shallow))

  -- so the announced numbers are small, and every count of a list fits 64 bits
  pub passed-emitted : (announced b).emitted ≤ most_rounds
  passed-emitted = omega (arith, emitted-most)

  pub passed-steps : (announced b).steps ≤ most_rounds
  unfolding announced
  passed-steps =
      let D : ℕ = deepest (visits_of b) in
      let N : ℕ = length (visits_of b) in
      omega (arith, product-bound (5 * N) (D + 1) 1280 9 (omega (arith, visits-most)) (omega (arith, shallow)), product-bound (1 + most_emitted (count (is_kind 10) (visits_of b)) D) (N + 2) 2305 258 (omega (arith, emitted-most)) (omega (arith, visits-most)))

  pub program-is : tree_of b 0 ≡ program_of b
  unfolding tree_of program_of
  program-is = refl
