-- The mean of four samples from the means of two pairs: bits tell where it was rounded once too often.
-- Assumes nothing.
use mathlib.Core.Path.{◌≡◌, ◌∙◌}
use Prim.Native.Nat.{ℕ, zero, suc, ◌+◌, ◌-◌, ◌*◌, ◌%◌, ◌≤◌, ◌<◌, min, max}
use native.Mathlib.Nat.{min-le_left, max-le}
use native.Mathlib.Omega.{arith}
use lib.Bits.{bit_and, bit_or, bit_xor, and_step, or_step, xor_add_and, and_mask}
use Rattle.combine_predictions.specs.Averaging.{mean2}
use Rattle.forming_predictions.specs.Means.{mean4}

-- ---- the lowest bit
low_xor : (x y : ℕ) → bit_xor x y % 2 ≡ (x + y) % 2
low_xor x y = omega (arith, xor_add_and x y)

low_or : (x y : ℕ) → bit_or x y % 2 ≡ max (x % 2) (y % 2)
low_or x y =
    let few : max (x % 2) (y % 2) ≤ 1 = max-le (omega arith) (omega arith) in
    omega (arith, or_step x y, few)

low_and : (x y : ℕ) → bit_and x y % 2 ≡ min (x % 2) (y % 2)
low_and x y = omega (arith, and_step x y, min-le_left (x % 2) (y % 2))

-- ---- what is taken off

-- twice the mean of two is their sum, or 1 more
twice : (x y : ℕ) → x + y + (x + y) % 2 ≡ mean2 x y * 2
twice x y = omega arith

module _ (a b c d : ℕ) where
  abbrev upper : ℕ
  upper = mean2 a b

  abbrev lower : ℕ
  lower = mean2 c d

  abbrev excess : ℕ
  excess = bit_and (bit_and (bit_or (bit_xor a b) (bit_xor c d)) (bit_xor upper lower)) 1

  -- by whether the pairs' sums, and that of their means, are odd
  excess_is : excess ≡ min (max ((a + b) % 2) ((c + d) % 2)) ((upper + lower) % 2)
  excess_is =
      and_mask (bit_and (bit_or (bit_xor a b) (bit_xor c d)) (bit_xor upper lower)) 1
      ∙ low_and (bit_or (bit_xor a b) (bit_xor c d)) (bit_xor upper lower)
      ∙ rw (low_or (bit_xor a b) (bit_xor c d), low_xor a b, low_xor c d, low_xor upper lower)

  taken : (i j l : ℕ) → i < 2 → j < 2 → l < 2
      → a + b + i ≡ upper * 2 → c + d + j ≡ lower * 2 → upper + lower + l ≡ mean2 upper lower * 2
      → (min (max i j) l ≤ mean2 upper lower) × (mean2 upper lower - min (max i j) l ≡ mean4 a b c d)
  taken zero zero zero e f g p q r = (omega (arith, p, q, r), omega (arith, p, q, r))
  taken zero zero (suc zero) e f g p q r = (omega (arith, p, q, r), omega (arith, p, q, r))
  taken zero zero (suc (suc l)) e f g p q r = absurd (omega (arith, g))
  taken zero (suc zero) zero e f g p q r = (omega (arith, p, q, r), omega (arith, p, q, r))
  taken zero (suc zero) (suc zero) e f g p q r = (omega (arith, p, q, r), omega (arith, p, q, r))
  taken zero (suc zero) (suc (suc l)) e f g p q r = absurd (omega (arith, g))
  taken zero (suc (suc j)) l e f g p q r = absurd (omega (arith, f))
  taken (suc zero) zero zero e f g p q r = (omega (arith, p, q, r), omega (arith, p, q, r))
  taken (suc zero) zero (suc zero) e f g p q r = (omega (arith, p, q, r), omega (arith, p, q, r))
  taken (suc zero) zero (suc (suc l)) e f g p q r = absurd (omega (arith, g))
  taken (suc zero) (suc zero) zero e f g p q r = (omega (arith, p, q, r), omega (arith, p, q, r))
  taken (suc zero) (suc zero) (suc zero) e f g p q r = (omega (arith, p, q, r), omega (arith, p, q, r))
  taken (suc zero) (suc zero) (suc (suc l)) e f g p q r = absurd (omega (arith, g))
  taken (suc zero) (suc (suc j)) l e f g p q r = absurd (omega (arith, f))
  taken (suc (suc i)) j l e f g p q r = absurd (omega (arith, e))

  right : (min (max ((a + b) % 2) ((c + d) % 2)) ((upper + lower) % 2) ≤ mean2 upper lower)
      × (mean2 upper lower - min (max ((a + b) % 2) ((c + d) % 2)) ((upper + lower) % 2) ≡ mean4 a b c d)
  right =
      taken ((a + b) % 2) ((c + d) % 2) ((upper + lower) % 2) (omega arith) (omega arith) (omega arith) (twice a b) (twice c d) (twice upper lower)

  pub of_pairs : mean2 upper lower - excess ≡ mean4 a b c d
  of_pairs = rw excess_is right.1
