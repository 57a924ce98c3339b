-- Under an every or a fin no construct with one child passes stages 4 to 7.
-- Assumes nothing.
use mathlib.Core.Path.{◌≡◌, sym, ◌∙◌}
use mathlib.Core.Bool.{Bool, true, false, ◌||◌}
use mathlib.Core.List.{List}
use Prim.Native.Nat.{ℕ}
use native.Mathlib.Omega.{arith}
use Rattle.rules.specs.Table.{kind_at}
use Rattle.rules.specs.Check.{Around}
use Rattle.theory.specs.Logic.{clash}
use Rattle.table.specs.Named.{kind_number, children}
use Rattle.table.specs.declared.kind.Source.TheVariants.{Input, Internal}
use Rattle.table.specs.declared.kind.Kind.{Kind}
use Rattle.table.specs.declared.kind.Kind.TheVariants as kind
use Rattle.acceptance.specs.Visits.{around_of, visit_at, visit_of, passes}
use Rattle.acceptance.specs.declared.visit.Around as Code
use Rattle.acceptance.specs.declared.visit.Visit.{Visit}

fails-confined : (b : List ℕ) (i : ℕ) (a : Around) (k : Kind) → kind_at b i ≡ kind_number k → (a.in_every || a.in_fin) ≡ true → children k ≡ 1 → passes (visit_at b a i) ≡ false
fails-confined b i a kind.Loop s c h = rw (s, c)
fails-confined b i a (kind.Every Input) s c h = rw (s, c)
fails-confined b i a (kind.Every Internal) s c h = rw (s, c)
fails-confined b i a kind.Fin s c h = rw (s, c)
fails-confined b i a kind.Nothing s c h = absurd (omega (arith, h))
fails-confined b i a (kind.Act _) s c h = absurd (omega (arith, h))
fails-confined b i a (kind.Await _) s c h = absurd (omega (arith, h))
fails-confined b i a kind.Emit s c h = absurd (omega (arith, h))
fails-confined b i a kind.Break s c h = absurd (omega (arith, h))
fails-confined b i a kind.If s c h = absurd (omega (arith, h))
fails-confined b i a kind.Sequence s c h = absurd (omega (arith, h))
fails-confined b i a (kind.Par _) s c h = absurd (omega (arith, h))

pub confined-many : (v : Visit) {w : Code.Around} → v.around ≡ w → (w.in_every || w.in_fin) ≡ true → {x : Bool} → x ≡ passes (visit_of v) → x ≡ true → children v.kind ≡ 1 → ⊥
confined-many v q c e t h =
    let z : ◌≡◌ {A = Bool} true false = sym t ∙ (e ∙ fails-confined v.at.table.now v.at.place (around_of v.around) v.kind v.number (rw q c) h) in
    clash (cc)
