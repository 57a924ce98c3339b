-- Demand holds: the marks that a tree at rest writes pass stage 8 and read back to it, and the runs of an accepted table end as it says.
use Rattle.std.specs.Prelude.{◌≡◌, refl, Bool, true, false, ◌&&◌, ◌||◌, ℕ, eqb, ℤ, pos, length}
use Rattle.std.proofs.Common.{sym, subst, arith}
use mathlib.Core.List.{List, [], ◌∷◌}
use Rattle.std.proofs.Math.Option.{none}
use Rattle.std.proofs.Math.Dec.{eqb_refl, T}
use Rattle.rules.specs.Stages.{failing, first_refusal, stage}
use Rattle.rules.specs.Limits.{Announced}
use Rattle.rules.specs.Tree.{Tree}
use Rattle.rules.specs.Table.{kind_at, program_of, records_of}
use Rattle.rules.specs.Check.{announced}
use Rattle.rules.specs.Marks.{all_zero, at_rest, length_stage, mark_right, marks_of, marks_stages, may_mark, misfits, waits}
use Rattle.rules.specs.Step.{blocked, front, is_done, nop_or_blocked}
use Rattle.rules.specs.Run.{Ran, faced, nothing_yet, reaction, run, start}
use Rattle.theory.specs.Logic.{or_cases}
use Rattle.theory.specs.Decode.{markable, left-waiting}
use Rattle.theory.specs.Again.{member, Unmarked, Clean, clean, Reads}
use Rattle.theory.specs.Residue.{Left}
use Rattle.theory.specs.Progress.{Live, live-zero}
use Rattle.theory.specs.WrittenMarks.{bit, written, written-length, read_again, done-waits, finished-is}
use Rattle.theory.specs.Ready.{Ready, ready-rest, ready-start}
use Rattle.theory.proofs.DemandOnTrees.{Done, complete}
use Rattle.theory.specs.Stages.{join, no-stage, true-unless, all_pass_lem}
use Rattle.theory.proofs.Accepted.{Accepted, accepts, fitting}
use Rattle.theory.specs.Demand.{Ended, ReactionEnds, StartEnds}

-- ---- the marks that a tree at rest writes

module _ (b : List ℕ) (a : Announced) (k : Accepted b a) (r : Tree) (of : Left (program_of b) r) (live : Live 0 r) where
  abbrev marks : List ℕ
  marks = marks_of (records_of b) r

  -- the marks of a @nop are all zero
  nop-clean : T (is_done (front r)) → Clean marks (program_of b)
  unfolding Unmarked
  nop-clean d = clean marks 0 (program_of b) k.program k.placed (λ j w. rw (written (records_of b) r j (omega (arith, w.below, k.sized)), done-waits r d) (unfold member in refl))

  blocked-reads : T (blocked 0 r) → Reads marks (program_of b) r
  blocked-reads d = read_again (records_of b) of k.program k.placed k.sized (live-zero r live) d

  pub reads-back : T (blocked 0 r) → at_rest marks (program_of b) ≡ r
  unfolding at_rest
  reads-back d = rw (blocked-reads d).is

  pub reads-nop : T (is_done (front r)) → T (is_done (front (at_rest marks (program_of b))))
  unfolding at_rest front
  reads-nop d = rw (nop-clean d).nothing tt

  pub all-zero-is : T (nop_or_blocked 0 r) → all_zero marks ≡ is_done (front r)
  all-zero-is i = finished-is (records_of b) of k.program k.placed k.sized (live-zero r live) i

  right-mark : (j : ℕ) (x : Bool) → member j (waits r) ≡ x → T (eqb (bit x) 0 || (eqb (bit x) 1 && may_mark (kind_at b j)))
  right-mark j true e = left-waiting (markable b) j of k.program k.waiting (subst T (sym e) tt)
  right-mark j false e = tt

  pub passes-again : T (nop_or_blocked 0 r) → first_refusal (marks_stages b marks) ≡ none
  unfolding marks_stages
  passes-again i =
      join (length_stage b marks) (stage 8 (failing (mark_right b marks) 0 (records_of b)) ∷ stage 8 (misfits marks (program_of b)) ∷ [])
      (true-unless (eqb (length marks) (records_of b)) (subst (λ n. T (eqb n (records_of b))) (sym (written-length (records_of b) r)) (eqb_refl (records_of b))))
      (join (stage 8 (failing (mark_right b marks) 0 (records_of b))) (stage 8 (misfits marks (program_of b)) ∷ [])
      (all_pass_lem (mark_right b marks) 0 (records_of b) (λ j x y. rw (written (records_of b) r j (omega arith)) (right-mark j (member j (waits r)) refl)))
      (join (stage 8 (misfits marks (program_of b))) [] (or_cases (is_done (front r)) (blocked 0 r) (λ d. (nop-clean d).fits) (λ d. (blocked-reads d).fits) i) no-stage))

-- ---- the runs of an accepted table

run-done : (b : List ℕ) (a : Announced) (k : Accepted b a) (e : ℕ) (z : ℤ) (u : Tree) (x : List ℤ) → Ready k.depth (program_of b) u → Done (program_of b) a (run (announced b).steps (faced e z u x) nothing_yet)
run-done b a k e z u x r = rw (k.same, k.number) (complete (program_of b) k.depth k.program k.good e z u x r)

pub reaction-done : (b : List ℕ) (a : Announced) → Accepted b a → (m : List ℕ) → first_refusal (marks_stages b m) ≡ none → (x : List ℤ) (e : ℕ) (z : ℤ) → Done (program_of b) a (reaction b m x e z)
unfolding reaction
reaction-done b a k m f x e z = run-done b a k e z (at_rest m (program_of b)) x (ready-rest k.depth m (program_of b) k.program k.good k.closed k.deeper (fitting b m f))

pub start-done : (b : List ℕ) (a : Announced) → Accepted b a → (x : List ℤ) → Done (program_of b) a (start b x)
unfolding start
start-done b a k x = run-done b a k 0 (pos 0) (program_of b) x (ready-start k.depth (program_of b) k.program k.good k.closed)

ends : (b : List ℕ) (a : Announced) → Accepted b a → (r : Ran) → Done (program_of b) a r → Ended b a r
ends b a k r d = record {
  still = d.still;
  grounded = d.rests.grounded;
  heard = d.rests.heard;
  idles = d.rests.idles;
  fits = passes-again b a k r.last.tree d.of d.live d.rests.idles;
  finished = all-zero-is b a k r.last.tree d.of d.live d.rests.idles;
  again = reads-back b a k r.last.tree d.of d.live;
  over = reads-nop b a k r.last.tree d.of d.live;
  steps = omega (arith, d.steps);
  emitted = omega (arith, d.emitted);
  highest = omega (arith, d.highest);
  outputs = omega (arith, d.outputs);
}

pub reaction-ends : ReactionEnds
reaction-ends b a c m f x e z = ends b a (accepts b a c) (reaction b m x e z) (reaction-done b a (accepts b a c) m f x e z)

pub start-ends : StartEnds
start-ends b a c x = ends b a (accepts b a c) (start b x) (start-done b a (accepts b a c) x)
