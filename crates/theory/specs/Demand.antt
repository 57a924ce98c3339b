-- Demand 3. A start or a reaction of an accepted table comes to its end, at rest at level 0, within the announced numbers,
-- and leaves marks that stage 8 lets pass and that read back to the tree it left. Only the rules are cited here; DemandProof has the proof.
use Rattle.std.specs.Prelude.{◌≡◌, List, ℕ, ◌≤◌, T, ℤ, length}
use Rattle.std.proofs.Math.Option.{none}
use Rattle.rules.specs.Stages.{first_refusal}
use Rattle.rules.specs.Limits.{Announced}
use Rattle.rules.specs.Table.{program_of, records_of}
use Rattle.rules.specs.Check.{accepted, check}
use Rattle.rules.specs.Marks.{all_zero, at_rest, marks_of, marks_stages}
use Rattle.rules.specs.Step.{blocked, front, is_done, nop_or_blocked, step}
use Rattle.rules.specs.Run.{Ran, reaction, start}

-- how a run r of the table b, with the announced numbers a, ends
pub record Ended (b : List ℕ) (a : Announced) (r : Ran) : Type 0 where
  -- no rule is left, and not because the run got stuck: level 0, no event pending, the tree @nop or blocked
  pub still : step r.last ≡ none
  pub grounded : r.last.level ≡ 0
  pub heard : r.last.pending ≡ none
  pub idles : T (nop_or_blocked 0 r.last.tree)
  -- the marks written from the tree pass stage 8; none is set exactly where the tree is @nop: finished
  pub fits : first_refusal (marks_stages b (marks_of (records_of b) r.last.tree)) ≡ none
  pub finished : all_zero (marks_of (records_of b) r.last.tree) ≡ is_done (front r.last.tree)
  -- they read back to the tree, those of a @nop to a @nop
  pub again : T (blocked 0 r.last.tree) → at_rest (marks_of (records_of b) r.last.tree) (program_of b) ≡ r.last.tree
  pub over : T (is_done (front r.last.tree)) → T (is_done (front (at_rest (marks_of (records_of b) r.last.tree) (program_of b))))
  -- the announced numbers hold
  pub steps : r.count.steps ≤ a.steps
  pub emitted : r.count.emitted ≤ a.emitted
  pub highest : r.count.highest ≤ a.highest
  pub outputs : length r.last.memory.outs ≤ a.outputs

-- the reaction: for every table that the check accepts, all marks that stage 8 lets pass, all variables, every event and value
abbrev pub ReactionEnds : Type 0
ReactionEnds = (b : List ℕ) (a : Announced) → check b ≡ accepted a → (m : List ℕ) → first_refusal (marks_stages b m) ≡ none → (x : List ℤ) (e : ℕ) (z : ℤ) → Ended b a (reaction b m x e z)

-- the start: for every table that the check accepts, and all variables
abbrev pub StartEnds : Type 0
StartEnds = (b : List ℕ) (a : Announced) → check b ≡ accepted a → (x : List ℤ) → Ended b a (start b x)
