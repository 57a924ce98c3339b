-- What every step keeps, a run keeps.
use Rattle.std.specs.Prelude.{◌≡◌, refl, ℕ, zero, suc}
use Rattle.std.proofs.Math.Option.{Option, none, some}
use Rattle.rules.specs.Step.{Description, step}
use Rattle.rules.specs.Run.{Count, Ran, run, tally}

abbrev At : (Description → Count → Type 0) → Ran → Type 0
At I r = I r.last r.count

pub run-keeps : (I : Description → Count → Type 0) → ((d : Description) (c : Count) (d' : Description) → I d c → step d ≡ some d' → I d' (tally d' c)) →
    (f : ℕ) (d : Description) (c : Count) → I d c → I (run f d c).last (run f d c).count
unfolding run
run-keeps I keeps zero d c i = i
run-keeps I keeps (suc f) d c i = go (λ d c i. run-keeps I keeps f d c i) (step d) refl
  where
    go : ((d : Description) (c : Count) → I d c → At I (run f d c)) → (o : Option Description) → step d ≡ o → At I (elim o [ none ↦ record { last = d; count = c } | some d' ↦ run f d' (tally d' c) ])
    go again none e = i
    go again (some d') e = again d' (tally d' c) (keeps d c d' i e)
