-- The announced numbers of a table that passes the stages, from the counts of its walk.
-- Assumes nothing.
use mathlib.Core.Path.{◌≡◌, ap}
use Prim.Native.Nat.{ℕ, ◌≤◌}
use native.Mathlib.Omega.{arith}
use Rattle.rules.specs.Limits.{announce}
use Rattle.rules.specs.Table.{records_of}
use Rattle.rules.specs.Check.{is_kind, outside_every, inside_every, visits_of, announced}
use Rattle.table.specs.declared.construct.Construct.{Construct}
use Rattle.acceptance.specs.Counts.{tally_of}
use Rattle.acceptance.specs.declared.counts.Tally.{Tally}
use Rattle.acceptance.proofs.Tallies.{count_most}
use Rattle.acceptance.proofs.Visiting.{whole-length, visits-most}
use Rattle.acceptance.proofs.Refusals.{Tallied, right-loops}

-- a program has at most 256 records, and at most 8 loops stand around one another
pub record Small (t : Tally) : Type 0 where
  pub emits : t.emits ≤ 256
  pub deepest : t.deepest ≤ 8
  pub outside : t.outside ≤ 256
  pub inside : t.inside ≤ 256

module _ (p : Construct) (e : p.place ≡ 0) {t : Tally} (h : Tallied p.table.now t) where
  pub small : Small t
  unfolding tally_of
  small =
      let n = visits-most p e in
      record {
        emits = omega (arith, ap (λ (t : Tally). t.emits) h.is, count_most (is_kind 10) (visits_of p.table.now));
        deepest = omega (arith, ap (λ (t : Tally). t.deepest) h.is, right-loops p.table.now h);
        outside = omega (arith, ap (λ (t : Tally). t.outside) h.is, count_most outside_every (visits_of p.table.now));
        inside = omega (arith, ap (λ (t : Tally). t.inside) h.is, count_most inside_every (visits_of p.table.now));
      }

  pub announces : {n : ℕ} → n ≡ records_of p.table.now → announce n t.emits t.deepest t.outside t.inside ≡ announced p.table.now
  unfolding announced tally_of
  announces q = rw (q, h.is, whole-length p.table.now (rw (← e) p.stands.place))
