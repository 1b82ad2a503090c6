-- Half of a number, truncated.
-- Assumes nothing.
use mathlib.Core.Path.{◌≡◌, refl}
use Prim.Native.Nat.{◌+◌, ◌*◌, ◌≤◌, ◌<◌}
use native.Mathlib.Omega.{arith}
use lib.IntN.{ℤ, pos, negsuc}
use lib.Signed.{quot_z}
use mir.Syntax.{w32}
use mir.Val.{SFits}
use Rattle.laws.proofs.Signed.{zp, zn, quot_p, quot_n}
use Rattle.laws.proofs.Bounded.{within_quot, within_fits, fits_within}
use Rattle.pmv.specs.Chroma.{trunc_half}

-- the code's division gives it
pub trunc_is : (z : ℤ) → quot_z z (pos 2) ≡ trunc_half z
unfolding trunc_half
trunc_is (pos n) = refl
trunc_is (negsuc n) = refl

-- it has the sign of z, or is 0, and twice it reaches z or one less far from 0
pub record IsTruncated (z q : ℤ) : Type 0 where
  pub up : 2 * zp q ≤ zp z
  pub down : 2 * zn q ≤ zn z
  pub near : zp z + zn z < 2 * zp q + 2 * zn q + 2

pub trunc_near : (z : ℤ) → IsTruncated z (trunc_half z)
trunc_near z =
    rw (← trunc_is z)
    (let p = quot_p z in let n = quot_n z in record { up = omega arith; down = omega arith; near = at z })
  where
    at : (z : ℤ) → zp z + zn z < 2 * zp (quot_z z (pos 2)) + 2 * zn (quot_z z (pos 2)) + 2
    at (pos n) = omega (arith, quot_p (pos n))
    at (negsuc n) = omega (arith, quot_n (negsuc n))

pub trunc_fits : {z : ℤ} → SFits w32 z → SFits w32 (trunc_half z)
trunc_fits {z} f = rw (← trunc_is z) (within_fits (within_quot (fits_within f)) (omega arith))
