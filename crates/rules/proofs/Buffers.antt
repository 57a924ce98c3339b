-- Outputs as bytes, and a buffer that is written from its front on.
-- Assumes nothing.
use mathlib.Core.Path.{◌≡◌, refl}
use mathlib.Core.List.{List, [], ◌∷◌}
use Prim.Native.Nat.{ℕ, ◌*◌, ◌≤◌}
use native.Mathlib.Omega.{arith}
use lib.ListN.{length, drop, length-append, length-drop}
use Rattle.rules.specs.Limits.{record_bytes}
use Rattle.rules.specs.Memory.{Output}
use Rattle.rules.specs.Calls.{onto, out_bytes}

pub bytes-length : (os : List Output) → length (out_bytes os) ≡ record_bytes * length os
unfolding out_bytes
bytes-length [] = refl
bytes-length (o ∷ os) = omega (arith, bytes-length os)

-- its length stays
pub onto-length : (new old : List ℕ) → length new ≤ length old → length (onto new old) ≡ length old
onto-length new old h = omega (arith, length-append new (drop (length new) old), length-drop (length new) old)
