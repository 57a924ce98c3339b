-- Only 0 has no bit set.
-- Assumes nothing.
use Rattle.std.proofs.Common.{◌≡◌, suc, ◌-◌, ◌^◌, ◌<◌, ℤ, pos, negsuc, eqb, refl, arith, w32, SFits, of_z, ne_eqb}
use Rattle.rules.specs.Number.{is_zero}

pub zero_bits : (z : ℤ) → SFits w32 z → eqb (of_z w32 z) 0 ≡ is_zero z
zero_bits (pos n) f = refl
zero_bits (negsuc n) f =
    let l : n < 2 ^ 31 = f.sfits in
    ne_eqb (2 ^ 32 - suc n) 0 (λ e. omega arith)
