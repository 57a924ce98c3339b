-- What an accepted table is: a program in preorder that is good, and the announced numbers of its counts; and what stage 8 says of marks.
use Rattle.std.specs.Prelude.{◌≡◌, refl, not, ◌&&◌, List, [], ◌∷◌, ℕ, ◌%◌, ◌≤◌, ◌<◌, eqb, leb, T, length}
use Rattle.std.proofs.Common.{sym, subst, ◌∙◌, arith, eqb→eq}
use Rattle.std.proofs.Math.Option.{Option, none, some}
use Rattle.rules.specs.Stages.{Refusal, Stage, failing, first_refusal, stage, unless}
use Rattle.rules.specs.Limits.{Announced, most_table_bytes, record_bytes}
use Rattle.rules.specs.Tree.{Tree, span_of}
use Rattle.rules.specs.Table.{in_kinds_table, program_of, records_of, row_at, shape_right, span_at, span_fits}
use Rattle.rules.specs.Check.{accepted, announced, check, deep_loop, deepest, endless_loop, good_length, hits, loose_break, not_plain, nothing_around, refused, table_stages, verdict, visits_of}
use Rattle.rules.specs.Marks.{length_stage, mark_right, marks_stages, misfits}
use Rattle.theory.specs.Logic.{clash, both_left, both_right}
use Rattle.theory.specs.Program.{Program, Good, loose, loop_depth}
use Rattle.theory.specs.Decode.{Waiting, markable, tree-whole}
use Rattle.theory.specs.Ranges.{Ranged, tree-ranged}
use Rattle.theory.specs.Walk.{good-walk, closed-walk, walk-size, walk-emits, walk-deep, walk-outside, walk_inside}
use Rattle.theory.specs.Again.{Placed}
use Rattle.theory.proofs.DemandOnTrees.{promised}
use Rattle.theory.specs.Stages.{next, unless-true, none-fails}

-- what a verdict says of the refusal and the announced numbers that it is made of
pub verdict-refused : (o : Option Refusal) (a : Announced) {r : Refusal} → verdict o a ≡ refused r → o ≡ some r
verdict-refused none a e = clash (cc)
verdict-refused (some q) a e = cc

pub verdict-accepted : (o : Option Refusal) (a : Announced) {a' : Announced} → verdict o a ≡ accepted a' → (o ≡ none) × (a ≡ a')
verdict-accepted none a e = (refl, cc)
verdict-accepted (some r) a e = clash (cc)

pub record Accepted (b : List ℕ) (a : Announced) : Type 0 where
  -- stages 1 to 3, on the table
  pub whole : T (good_length b)
  pub shaped : (i : ℕ) → i < records_of b → T (shape_right b (records_of b) i)
  pub named : (i : ℕ) → i < records_of b → T (in_kinds_table b i)
  -- its tree
  pub program : Program (program_of b)
  pub sized : span_of (program_of b) ≡ records_of b
  pub placed : Placed 0 (program_of b)
  pub waiting : Waiting (markable b) (program_of b)
  pub ranged : Ranged (program_of b)
  pub good : Good (program_of b)
  pub closed : T (loose (program_of b)) → ⊥
  pub depth : ℕ
  pub deeper : loop_depth (program_of b) ≤ depth
  pub number : a ≡ promised (program_of b) depth program
  pub same : announced b ≡ a

some-records : (b : List ℕ) → T (good_length b) → 0 < records_of b
some-records b t =
    let s = both_left (not (eqb (length b) 0) && eqb (length b % record_bytes) 0) (leb (length b) most_table_bytes) t in
    let x = both_left (not (eqb (length b) 0)) (eqb (length b % record_bytes) 0) s in
    let y = both_right (not (eqb (length b) 0)) (eqb (length b % record_bytes) 0) s in
    omega (arith, eqb→eq (length b % record_bytes) 0 y, ne (length b) x)
  where
    ne : (n : ℕ) → T (not (eqb n 0)) → n ≡ 0 → ⊥
    ne n t e = subst (λ m. T (not (eqb m 0))) e t

pub accepts : (b : List ℕ) (a : Announced) → check b ≡ accepted a → Accepted b a
unfolding check table_stages visits_of program_of announced
accepts b a e =
    let s2 : Stage = stage 2 (failing (shape_right b (records_of b)) 0 (records_of b)) in
    let s3 : Stage = stage 3 (failing (in_kinds_table b) 0 (records_of b)) in
    let s4 : Stage = stage 4 (hits loose_break (visits_of b)) in
    let s5 : Stage = stage 5 (hits not_plain (visits_of b)) in
    let s6 : Stage = stage 6 (hits deep_loop (visits_of b)) in
    let s7 : Stage = stage 7 (hits endless_loop (visits_of b)) in
    let v = verdict-accepted (first_refusal (table_stages b)) (announced b) e in
    let p1 = next (stage 1 (unless (good_length b))) (s2 ∷ s3 ∷ s4 ∷ s5 ∷ s6 ∷ s7 ∷ []) v.0 in
    let p2 = next s2 (s3 ∷ s4 ∷ s5 ∷ s6 ∷ s7 ∷ []) p1.later in
    let p3 = next s3 (s4 ∷ s5 ∷ s6 ∷ s7 ∷ []) p2.later in
    let p4 = next s4 (s5 ∷ s6 ∷ s7 ∷ []) p3.later in
    let p5 = next s5 (s6 ∷ s7 ∷ []) p4.later in
    let p6 = next s6 (s7 ∷ []) p5.later in
    let p7 = next s7 [] p6.later in
    let n : ℕ = records_of b in
    let t : Tree = program_of b in
    let long : T (good_length b) = unless-true (good_length b) p1.clean in
    let filled : 0 < n = some-records b long in
    let right : (i : ℕ) → i < n → T (shape_right b n i) = λ i l. none-fails (shape_right b n) 0 n p2.clean i (omega arith) (omega arith) in
    let ranges : (i : ℕ) → i < n → T (in_kinds_table b i) = λ i l. none-fails (in_kinds_table b) 0 n p3.clean i (omega arith) (omega arith) in
    let w = tree-whole b n right n 0 filled (omega arith) in
    let h : Program t = w.made.program in
    let g : Good t = good-walk nothing_around t h (record { misses = p5.clean }) (record { misses = p7.clean }) in
    record {
      whole = long;
      shaped = right;
      named = ranges;
      program = h;
      sized = w.made.sized ∙ eqb→eq (span_at b 0) n (both_right (span_fits (row_at b 0).children b n 0) (eqb (span_at b 0) n) (right 0 filled));
      placed = w.made.placed;
      waiting = w.made.waiting;
      ranged = tree-ranged b n right ranges n 0 filled (omega arith);
      good = g;
      closed = closed-walk nothing_around t refl h (record { misses = p4.clean });
      depth = deepest (visits_of b);
      deeper = omega (arith, walk-deep nothing_around t h);
      number = sym v.1 ∙ rw (walk-size nothing_around t h, walk-emits nothing_around t h, walk-outside nothing_around t refl h g, walk_inside nothing_around t refl h g);
      same = v.1;
    }

-- a table that no stage refuses is accepted
pub accepted-check : (b : List ℕ) → first_refusal (table_stages b) ≡ none → check b ≡ accepted (announced b)
unfolding check
accepted-check b e = rw e

-- marks that stage 8 lets pass: one for each record, each 0 or a 1 where it may be, and they fit
pub record MarksPass (b m : List ℕ) : Type 0 where
  pub long : length m ≡ records_of b
  pub right : (j : ℕ) → j < records_of b → T (mark_right b m j)
  pub fits : misfits m (program_of b) ≡ []

pub marks-pass : (b m : List ℕ) → first_refusal (marks_stages b m) ≡ none → MarksPass b m
unfolding marks_stages
marks-pass b m e =
    let n : ℕ = records_of b in
    let s2 : Stage = stage 8 (failing (mark_right b m) 0 n) in
    let s3 : Stage = stage 8 (misfits m (program_of b)) in
    let p1 = next (length_stage b m) (s2 ∷ s3 ∷ []) e in
    let p2 = next s2 (s3 ∷ []) p1.later in
    record {
      long = eqb→eq (length m) n (unless-true (eqb (length m) n) p1.clean);
      right = λ j l. none-fails (mark_right b m) 0 n p2.clean j (omega arith) (omega arith);
      fits = (next s3 [] p2.later).clean;
    }

pub fitting : (b m : List ℕ) → first_refusal (marks_stages b m) ≡ none → misfits m (program_of b) ≡ []
fitting b m e = (marks-pass b m e).fits
