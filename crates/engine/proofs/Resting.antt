-- Where all states wait, a push lets nothing run but what it woke.
-- Assumes nothing.
use mathlib.Core.Path.{◌≡◌}
use mathlib.Core.Bool.{true}
use mathlib.Core.List.{List}
use Prim.Native.Nat.{ℕ, ◌≤◌, ◌<◌}
use native.Mathlib.Omega.{arith}
use lib.ListN.{get_or}
use borrow.Author.Tests.{ne_eqb}
use Rattle.rules.specs.Table.{kind_at, name_at, records_of}
use Rattle.rules.specs.Step.{wakes}
use Rattle.theory.specs.State.{still_at, awake}
use Rattle.table.specs.Places.{Place, tree_of}
use Rattle.table.specs.declared.kind.Source.{Source}
use Rattle.walks.specs.Walks.{event_from, hears}
use Rattle.walks.specs.declared.part.Reach.{Reach}
use Rattle.walks.specs.Listening.{Hear}
use Rattle.walks.proofs.Listening.{not_so, awake-kept}
use Rattle.engine.specs.Parts.{AllWait, Runs}

own-still : (n x : ℕ) → 2 ≤ n → x < 2 → still_at n x ≡ true
own-still n x h g = rw (ne_eqb x 2 (λ e. omega arith), ne_eqb x n (λ e. omega arith))

-- what it woke stands where its event is awaited, and nothing else runs
pub woken-runs : (b l : List ℕ) (s : Source) (e : ℕ) (r : Reach) → Place b 0 → {n : ℕ} → 2 ≤ n → AllWait b l → Hear b s e r → Runs b n (awake (wakes (event_from s e)) (tree_of b 0) l) r
woken-runs b l s e r p {n} h w hear = record { before = λ k y z. rests k z (λ q. omega (arith, (hear k z q).0)); behind = λ k y z. rests k z (λ q. omega (arith, (hear k z q).1)) }
  where
    rests : (k : ℕ) → k < records_of b → (hears (kind_at b k) (name_at b k) s e ≡ true → ⊥) → still_at n (get_or (awake (wakes (event_from s e)) (tree_of b 0) l) k 0) ≡ true
    rests k z d = rw (awake-kept b s e k (not_so (hears (kind_at b k) (name_at b k) s e) d) 0 p l) (own-still n (get_or l k 0) h (w.low k z))
