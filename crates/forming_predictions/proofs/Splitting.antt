-- The whole part is the floor of half, and the half flag is the lowest bit.
-- Assumes nothing.
use mathlib.Core.Path.{◌≡◌, refl, ap, ◌∙◌}
use mathlib.Core.Bool.{true, not}
use Prim.Native.Nat.{ℕ, suc, ◌+◌, ◌-◌, ◌*◌, ◌/◌, ◌^◌, ◌≤◌}
use native.Mathlib.Omega.{arith}
use lib.Bits.{bit_and, and_mask}
use lib.Dec.{eqb}
use lib.IntN.{ℤ, pos, negsuc, nat_abs, ◌+ℤ◌, ◌-ℤ◌, ◌*ℤ◌}
use lib.Signed.{le_z, lt_z, shr_z}
use mir.Syntax.{w32}
use mir.Val.{SFits, of_z}
use Rattle.laws.proofs.Signed.{zp, zn, eq_z, zn_zero, add_z, sub_z, mul_p, mul_n, half_lo, half_hi, abs_z, le_yes, lt_yes, yes_le, yes_lt}
use Rattle.laws.proofs.Bounded.{Within, within_half, within_fits, fits_within}
use Rattle.forming_predictions.specs.Splitting.{floor_half, half_flag}

-- q is the floor of half of z: 2q ≤ z < 2q + 2
pub record IsFloor (z q : ℤ) : Type 0 where
  pub below : le_z (q *ℤ pos 2) z ≡ true
  pub above : lt_z z (q *ℤ pos 2 +ℤ pos 2) ≡ true

-- the code's shift gives it
pub half_is : (z : ℤ) → shr_z z 2 ≡ floor_half z
unfolding floor_half
half_is (pos n) = refl
half_is (negsuc n) = refl

pub floor_lo : (z : ℤ) → 2 * zp (floor_half z) + zn z ≤ zp z + 2 * zn (floor_half z)
floor_lo z = rw (← half_is z) (half_lo z)

pub floor_hi : (z : ℤ) → zp z + 2 * zn (floor_half z) ≤ 2 * zp (floor_half z) + zn z + 1
floor_hi z = rw (← half_is z) (half_hi z)

pub floor_is : (z : ℤ) → IsFloor z (floor_half z)
floor_is z =
    let q = floor_half z in
    let t = q *ℤ pos 2 in
    let a = mul_p q 2 in
    let b = mul_n q 2 in
    let l = floor_lo z in
    let h = floor_hi z in
    record {
      below = yes_le t z (omega arith);
      above = yes_lt z (t +ℤ pos 2) (omega (arith, add_z t (pos 2)));
    }

-- no other number is
pub floor_only : (z p q : ℤ) → IsFloor z p → IsFloor z q → p ≡ q
floor_only z p q f g =
    let a = add_z (p *ℤ pos 2) (pos 2) in
    let b = add_z (q *ℤ pos 2) (pos 2) in
    let c = le_yes (p *ℤ pos 2) z f.below in
    let d = lt_yes z (p *ℤ pos 2 +ℤ pos 2) f.above in
    let e = le_yes (q *ℤ pos 2) z g.below in
    let h = lt_yes z (q *ℤ pos 2 +ℤ pos 2) g.above in
    eq_z p q (omega (arith, mul_p p 2, mul_n p 2, mul_p q 2, mul_n q 2))

-- what is left of a number when twice its whole part is taken away
rest_is : (z : ℤ) → nat_abs (z -ℤ floor_half z *ℤ pos 2) + 2 * zp (floor_half z) + zn z ≡ zp z + 2 * zn (floor_half z)
rest_is z =
    let q = floor_half z in
    let d = z -ℤ q *ℤ pos 2 in
    let s = sub_z z (q *ℤ pos 2) in
    let a = mul_p q 2 in
    let b = mul_n q 2 in
    let l = floor_lo z in
    let none = zn_zero d (omega arith) in
    omega (arith, abs_z d)

rest_bit : (z : ℤ) → SFits w32 z → bit_and (of_z w32 z) 1 ≡ nat_abs (z -ℤ floor_half z *ℤ pos 2)
unfolding floor_half
rest_bit (pos n) f = and_mask n 1 ∙ omega (arith, rest_is (pos n))
rest_bit (negsuc n) f = and_mask (2 ^ 32 - suc n) 1 ∙ omega (arith, rest_is (negsuc n), f.sfits)

-- the code's test of the lowest bit
pub flag_is : (z : ℤ) → SFits w32 z → not (eqb (bit_and (of_z w32 z) 1) 0) ≡ half_flag z
unfolding half_flag
flag_is z f = ap (λ (n : ℕ). not (eqb n 0)) (rest_bit z f)

-- a vector's whole part is at most half as far from 0
pub floor_within : {n : ℕ} {z : ℤ} → Within n z → Within ((n + 1) / 2) (floor_half z)
floor_within {n} {z} h = rw (← half_is z) (within_half h)

pub floor_fits : {z : ℤ} → SFits w32 z → SFits w32 (floor_half z)
floor_fits f = within_fits (floor_within (fits_within f)) (omega arith)
