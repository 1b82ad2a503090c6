-- `//` rounds to the nearest number, and a half upwards: q - 1/2 ≤ n/d < q + 1/2 for q = n // d, with 2d multiplied out.
-- Assumes nothing.
use mathlib.Core.Path.{◌≡◌}
use Prim.Native.Nat.{ℕ, suc, ◌+◌, ◌*◌, ◌/◌, ◌≤◌, ◌<◌}
use native.Mathlib.Nat.{div-add-mod', mod-lt, suc-mul, lt_of_mul-lt-mul_right}
use native.Mathlib.Omega.{arith}
use Rattle.combine_predictions.specs.Rounding.{◌//◌}

pub record Nearest (n d q : ℕ) : Type 0 where
  pub above : 2 * (q * d) ≤ 2 * n + d
  pub below : 2 * n < 2 * (q * d) + d

pub nearest : (n d : ℕ) → 0 < d → Nearest n d (n // d)
nearest n d h =
    let q = div-add-mod' (n + d / 2) d in
    let r = mod-lt (n + d / 2) h in
    record { above = omega arith; below = omega arith }

-- there is no other such number
at_most : (n d p q : ℕ) → Nearest n d p → Nearest n d q → p ≤ q
at_most n d p q a b =
    let less : p * d < suc q * d = omega (arith, suc-mul q d, a.above, b.below) in
    omega (arith, lt_of_mul-lt-mul_right d less)

pub nearest_only : (n d p q : ℕ) → Nearest n d p → Nearest n d q → p ≡ q
nearest_only n d p q a b = omega (arith, at_most n d p q a b, at_most n d q p b a)
