-- A signed local holds bits, so that a value z stands in a need as `to_z w (of_z w z)`. These laws take the bits off.
-- Assumes nothing.
use mathlib.Core.Path.{◌≡◌, ap, ◌∙◌}
use Prim.Native.Nat.{◌^◌, ◌<◌}
use lib.IntN.{ℤ}
use lib.Signed.{mag}
use mir.Syntax.{Width, w32, w64}
use mir.Val.{SFits, hbits, of_z, to_z}
use mir.Facts.{to_z-of_z, sfits_widen}

-- a signed result of a call: `back w32 c.f.result c.f.ok`
pub back : (w : Width) (z : ℤ) → mag z < 2 ^ hbits w → to_z w (of_z w z) ≡ z
back w z h = to_z-of_z (record { sfits = h })

-- an i32 cast to an i64
pub widened : (z : ℤ) → SFits w32 z → to_z w64 (of_z w64 (to_z w32 (of_z w32 z))) ≡ z
widened z f = ap (λ (y : ℤ). to_z w64 (of_z w64 y)) (to_z-of_z f) ∙ to_z-of_z {w = w64} (sfits_widen {w = w32} {w' = w64} tt f)
