-- Every node of a walk passes stages 4 to 7 exactly where none of them hits.
-- Assumes nothing.
use Rattle.std.specs.Prelude.{if◌then◌else◌}
use mathlib.Core.Path.{◌≡◌, refl}
use mathlib.Core.Bool.{Bool, true, false, not, ◌||◌}
use mathlib.Core.List.{List, [], ◌∷◌}
use lib.Dec.{T}
use Rattle.rules.specs.Check.{Visit, hits, loose_break, not_plain, deep_loop, endless_loop}
use Rattle.theory.specs.Logic.{clash, both_left, both_right}
use Rattle.acceptance.specs.Visits.{passes}
use Rattle.acceptance.specs.Counts.{all_pass}

-- what passes fails no stage
record Passed (n l d e : Bool) : Type 0 where
  plain : n ≡ false
  held : l ≡ false
  shallow : d ≡ false
  ending : e ≡ false

passed : (n l d e : Bool) → T (not (n || l || d || e)) → Passed n l d e
passed true l d e t = absurd t
passed false true d e t = absurd t
passed false false true e t = absurd t
passed false false false true t = absurd t
passed false false false false t = record { plain = refl; held = refl; shallow = refl; ending = refl }

none-by : (f : Visit → Bool) → ((v : Visit) → Passed (not_plain v) (loose_break v) (deep_loop v) (endless_loop v) → f v ≡ false) → (vs : List Visit) → T (all_pass vs) → hits f vs ≡ []
unfolding all_pass hits
none-by f h [] t = refl
none-by f h (v ∷ vs) t = rw (h v (passed (not_plain v) (loose_break v) (deep_loop v) (endless_loop v) (both_left (passes v) (all_pass vs) t))) (none-by f h vs (both_right (passes v) (all_pass vs) t))

module _ (vs : List Visit) (t : T (all_pass vs)) where
  pub none-4 : hits loose_break vs ≡ []
  none-4 = none-by loose_break (λ v p. p.held) vs t

  pub none-5 : hits not_plain vs ≡ []
  none-5 = none-by not_plain (λ v p. p.plain) vs t

  pub none-6 : hits deep_loop vs ≡ []
  none-6 = none-by deep_loop (λ v p. p.shallow) vs t

  pub none-7 : hits endless_loop vs ≡ []
  none-7 = none-by endless_loop (λ v p. p.ending) vs t

missed : (f : Visit → Bool) (v : Visit) (vs : List Visit) → hits f (v ∷ vs) ≡ [] → (f v ≡ false) × (hits f vs ≡ [])
unfolding hits
missed f v vs = go (f v)
  where
    go : (x : Bool) → (if x then v.place ∷ hits f vs else hits f vs) ≡ [] → (x ≡ false) × (hits f vs ≡ [])
    go true e = clash (cc)
    go false e = (refl, e)

-- where no stage hits, every node passes
pub hit-by-none : (vs : List Visit) → hits loose_break vs ≡ [] → hits not_plain vs ≡ [] → hits deep_loop vs ≡ [] → hits endless_loop vs ≡ [] → all_pass vs ≡ true
unfolding all_pass
hit-by-none [] e4 e5 e6 e7 = refl
hit-by-none (v ∷ vs) e4 e5 e6 e7 =
    let m4 = missed loose_break v vs e4 in
    let m5 = missed not_plain v vs e5 in
    let m6 = missed deep_loop v vs e6 in
    let m7 = missed endless_loop v vs e7 in
    rw (m5.0, m4.0, m6.0, m7.0) (hit-by-none vs m4.1 m5.1 m6.1 m7.1)
