-- The kinds as the code tells them apart: those that wait, those of two parts, the leaves.
-- Assumes nothing.
use mathlib.Core.Path.{◌≡◌}
use mathlib.Core.Logic.{◌⊎◌}
use Rattle.table.specs.declared.kind.Source.{Source}
use Rattle.table.specs.declared.kind.Par.{Par}
use Rattle.table.specs.declared.kind.Kind.{Kind}
use Rattle.table.specs.declared.kind.Kind.TheVariants as kind

abbrev pub Waits : Kind → Type 0
Waits k = ((s : Source) × (k ≡ kind.Await s)) ⊎ (((s : Source) × (k ≡ kind.Every s)) ⊎ (k ≡ kind.Fin))

abbrev pub TwoParts : Kind → Type 0
TwoParts k = (k ≡ kind.If) ⊎ ((k ≡ kind.Sequence) ⊎ ((o : Par) × (k ≡ kind.Par o)))

pub record Leaf (k : Kind) : Type 0 where
  pub no_await : (s : Source) → k ≡ kind.Await s → ⊥
  pub no_every : (s : Source) → k ≡ kind.Every s → ⊥
  pub no_fin : k ≡ kind.Fin → ⊥
  pub no_if : k ≡ kind.If → ⊥
  pub no_sequence : k ≡ kind.Sequence → ⊥
  pub no_par : (o : Par) → k ≡ kind.Par o → ⊥
  pub no_loop : k ≡ kind.Loop → ⊥
