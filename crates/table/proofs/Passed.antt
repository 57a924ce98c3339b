-- What an accepted table has: its size, its shape, and names and numbers in their ranges.
-- Assumes nothing.
use mathlib.Core.Path.{◌≡◌, refl}
use mathlib.Core.Bool.{Bool, true, false, not, ◌&&◌}
use mathlib.Core.List.{List}
use Prim.Native.Nat.{ℕ, ◌*◌, ◌%◌, ◌≤◌, ◌<◌}
use native.Mathlib.Omega.{arith}
use lib.Dec.{T, eqb, leb}
use lib.ListN.{length}
use borrow.Author.Tests.{eqb-true, eqb-false, leb-true}
use Rattle.rules.specs.Limits.{Announced, record_bytes, most_records, most_table_bytes}
use Rattle.rules.specs.Table.{records_of, in_kinds_table}
use Rattle.rules.specs.Check.{check, accepted, good_length}
use Rattle.theory.specs.Logic.{clash, T→true}
use Rattle.theory.proofs.Accepted.{accepts}
use Rattle.table.specs.Places.{Place, Shape}

-- stage 1: 1 to 256 records, and no byte more
pub record Sized (b : List ℕ) : Type 0 where
  pub whole : length b ≡ record_bytes * records_of b
  pub some : 0 < records_of b
  pub most : records_of b ≤ most_records

pub record Passed (b : List ℕ) : Type 0 where
  pub size : Sized b
  pub shape : Shape b
  pub ranges : (i : ℕ) → i < records_of b → T (in_kinds_table b i)

pub passed-place : (b : List ℕ) → Passed b → Place b 0
passed-place b p = record { shape = p.shape; inside = p.size.some }

pub sized : (b : List ℕ) → good_length b ≡ true → Sized b
sized b t = go (eqb (length b) 0) refl (eqb (length b % record_bytes) 0) refl (leb (length b) most_table_bytes) refl t
  where
    go : (u : Bool) → eqb (length b) 0 ≡ u → (v : Bool) → eqb (length b % record_bytes) 0 ≡ v → (w : Bool) → leb (length b) most_table_bytes ≡ w → (not u && v && w) ≡ true → Sized b
    go true p v q w r t = clash (cc)
    go false p true q true r t = record {
      whole = omega (arith, eqb-true (length b % record_bytes) 0 q);
      some = omega (arith, eqb-false (length b) 0 p, eqb-true (length b % record_bytes) 0 q);
      most = omega (arith, leb-true (length b) most_table_bytes r);
    }
    go false p true q false r t = clash (cc)
    go false p false q w r t = clash (cc)

pub passed : (b : List ℕ) (a : Announced) → check b ≡ accepted a → Passed b
passed b a e =
    let k = accepts b a e in
    record { size = sized b (T→true (good_length b) k.whole); shape = k.shaped; ranges = k.named }
