-- The range of vectors and the wrap.
-- Assumes nothing.
use mathlib.Core.Path.{◌≡◌, refl, ap}
use mathlib.Core.Bool.{Bool, true, false}
use Prim.Native.Nat.{ℕ, ◌+◌, ◌*◌, ◌≤◌}
use native.Mathlib.Omega.{arith}
use lib.IntN.{ℤ, pos, neg_ℤ, ◌+ℤ◌, ◌-ℤ◌}
use lib.Signed.{lt_z, le_z}
use mir.Syntax.{w32}
use mir.Val.{SFits}
use Rattle.laws.proofs.Signed.{zp, zn, eq_z, add_z, sub_z, neg_p, neg_n, lt_yes, lt_no, le_yes, le_no, yes_lt, no_lt, yes_le, no_le}
use Rattle.laws.proofs.Bounded.{Within, within_neg, within_fits}
use Rattle.laws.proofs.Tests.{both}
use Rattle.pmv.specs.Component.{range_of, in_range}
use Rattle.pmv.specs.inner.Bounds.{Small}
use Rattle.pmv.specs.declared.component.VectorRange.{VectorRange}

pub within_nat : (n m : ℕ) → n ≤ m → Within m (pos n)
within_nat n m h = record { above = omega arith; below = omega arith }

less_one : (n m : ℕ) → n ≤ m → 1 ≤ m → Within m (pos n -ℤ pos 1)
less_one n m h k = let s = sub_z (pos n) (pos 1) in record { above = omega arith; below = omega arith }

-- high + 1 = low + range, for f
ends : (f : ℕ) → (pos (16 * f) -ℤ pos 1) +ℤ pos 1 ≡ neg_ℤ (pos (16 * f)) +ℤ pos (32 * f)
ends f =
    let n = pos (16 * f) in
    eq_z _ _ (omega (arith, sub_z n (pos 1), add_z (n -ℤ pos 1) (pos 1), neg_p n, neg_n n, add_z (neg_ℤ n) (pos (32 * f))))

-- the range of an f up to 256 is small
pub range_small : (f : ℕ) → f ≤ 256 → Small (range_of f)
unfolding range_of
range_small f h =
    record {
      low = within_neg (within_nat (16 * f) 4096 (omega arith));
      high = less_one (16 * f) 4096 (omega arith) (omega arith);
      range = within_nat (32 * f) 8192 (omega arith);
      count = ends f;
    }

-- its numbers fit
pub low_fits : {b : VectorRange} → Small b → SFits w32 b.low
low_fits s = within_fits s.low (omega arith)

pub high_fits : {b : VectorRange} → Small b → SFits w32 b.high
high_fits s = within_fits s.high (omega arith)

pub range_fits : {b : VectorRange} → Small b → SFits w32 b.range
range_fits s = within_fits s.range (omega arith)

-- high + 1 = low + range, as a fact of natural numbers
high_is : {b : VectorRange} → Small b
    → zp b.high + 1 + zn b.low + zn b.range ≡ zp b.low + zp b.range + zn b.high
high_is {b} s =
    let p = ap zp s.count in
    let n = ap zn s.count in
    omega (arith, add_z b.high (pos 1), add_z b.low b.range)

-- ---- v against an end of the range, by how far it is above low
module _ {b : VectorRange} (s : Small b) (v : ℤ) where
  pub from_low : le_z (pos 0) (v -ℤ b.low) ≡ le_z b.low v
  from_low = at (le_z b.low v) refl
    where
      at : (t : Bool) → le_z b.low v ≡ t → le_z (pos 0) (v -ℤ b.low) ≡ t
      at true e = let h = le_yes b.low v e in yes_le (pos 0) (v -ℤ b.low) (omega (arith, sub_z v b.low))
      at false e = let h = le_no b.low v e in no_le (pos 0) (v -ℤ b.low) (omega (arith, sub_z v b.low))

  pub to_high : lt_z (v -ℤ b.low) b.range ≡ le_z v b.high
  to_high = at (le_z v b.high) refl
    where
      at : (t : Bool) → le_z v b.high ≡ t → lt_z (v -ℤ b.low) b.range ≡ t
      at true e =
          let h = le_yes v b.high e in
          yes_lt (v -ℤ b.low) b.range (omega (arith, sub_z v b.low, high_is s))
      at false e =
          let h = le_no v b.high e in
          no_lt (v -ℤ b.low) b.range (omega (arith, sub_z v b.low, high_is s))

  pub past_high : le_z b.range (v -ℤ b.low) ≡ lt_z b.high v
  past_high = at (lt_z b.high v) refl
    where
      at : (t : Bool) → lt_z b.high v ≡ t → le_z b.range (v -ℤ b.low) ≡ t
      at true e =
          let h = lt_yes b.high v e in
          yes_le b.range (v -ℤ b.low) (omega (arith, sub_z v b.low, high_is s))
      at false e =
          let h = lt_no b.high v e in
          no_le b.range (v -ℤ b.low) (omega (arith, sub_z v b.low, high_is s))

-- a vector in range is as small
pub in_range_within : {b : VectorRange} (v : ℤ) → Small b → in_range b v ≡ true → Within 4096 v
in_range_within {b} v s e =
    let t = both (le_z b.low v) (le_z v b.high) e in
    let p = le_yes b.low v t.0 in
    let q = le_yes v b.high t.1 in
    let l = s.low.below in
    let h = s.high.above in
    record { above = omega arith; below = omega arith }
