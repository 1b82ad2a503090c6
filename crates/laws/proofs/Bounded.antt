-- How far a number is from 0: a bound for each operation, so that a chain of them fits a width by one comparison of numerals.
-- Assumes nothing.
use Prim.Native.Nat.{ℕ, ◌+◌, ◌*◌, ◌/◌, ◌^◌, ◌≤◌, ◌<◌}
use native.Mathlib.Nat.{mul-le-mul_right, add-mul}
use native.Mathlib.Omega.{arith}
use lib.IntN.{ℤ, pos, negsuc, neg_ℤ, ◌+ℤ◌, ◌-ℤ◌, ◌*ℤ◌}
use lib.Signed.{mag, shr_z, quot_z}
use mir.Syntax.{Width}
use mir.Val.{SFits, hbits}
use Rattle.laws.proofs.Signed.{zp, zn, add_z, sub_z, neg_p, neg_n, mul_p, mul_n, half_lo, half_hi, quot_p, quot_n}

-- z is from -n to n
pub record Within (n : ℕ) (z : ℤ) : Type 0 where
  pub above : zp z ≤ n + zn z
  pub below : zn z ≤ n + zp z

-- a sum
pub within_add : {m n : ℕ} {x y : ℤ} → Within m x → Within n y → Within (m + n) (x +ℤ y)
within_add {x = x} {y = y} p q = let e = add_z x y in record { above = omega arith; below = omega arith }

-- a difference
pub within_sub : {m n : ℕ} {x y : ℤ} → Within m x → Within n y → Within (m + n) (x -ℤ y)
within_sub {x = x} {y = y} p q = let e = sub_z x y in record { above = omega arith; below = omega arith }

-- a negation
pub within_neg : {n : ℕ} {z : ℤ} → Within n z → Within n (neg_ℤ z)
within_neg {z = z} p = let u = neg_p z in let d = neg_n z in record { above = omega arith; below = omega arith }

-- a product with a natural number
pub within_mul : {n : ℕ} {z : ℤ} (k : ℕ) → Within n z → Within (n * k) (z *ℤ pos k)
within_mul {n} {z} k p =
    let u = mul_p z k in
    let d = mul_n z k in
    let a = mul-le-mul_right k p.above in
    let b = mul-le-mul_right k p.below in
    record {
      above = omega (arith, add-mul n (zn z) k);
      below = omega (arith, add-mul n (zp z) k);
    }

-- the floor of half
pub within_half : {n : ℕ} {z : ℤ} → Within n z → Within ((n + 1) / 2) (shr_z z 2)
within_half {z = z} p = let a = half_lo z in let b = half_hi z in record { above = omega arith; below = omega arith }

-- half, truncated
pub within_quot : {n : ℕ} {z : ℤ} → Within n z → Within (n / 2) (quot_z z (pos 2))
within_quot {z = pos a} p = let u = quot_p (pos a) in let d = quot_n (pos a) in record { above = omega arith; below = omega arith }
within_quot {z = negsuc a} p =
    let u = quot_p (negsuc a) in let d = quot_n (negsuc a) in record { above = omega arith; below = omega arith }

-- a weaker bound
pub within_more : {m n : ℕ} {z : ℤ} → Within m z → m ≤ n → Within n z
within_more p h = record { above = omega arith; below = omega arith }

-- what a width holds, for a chain to start from
pub fits_within : {w : Width} {z : ℤ} → SFits w z → Within (2 ^ hbits w) z
fits_within {z = pos a} f = record { above = omega (arith, f.sfits); below = omega arith }
fits_within {z = negsuc a} f = record { above = omega arith; below = omega (arith, f.sfits) }

magnitude : {m n : ℕ} (z : ℤ) → Within n z → n < m → mag z < m
magnitude (pos a) p h = omega arith
magnitude (negsuc a) p h = omega arith

-- that the chain's end fits a width
pub within_fits : {w : Width} {n : ℕ} {z : ℤ} → Within n z → n < 2 ^ hbits w → SFits w z
within_fits {z = z} p h = record { sfits = magnitude z p h }
