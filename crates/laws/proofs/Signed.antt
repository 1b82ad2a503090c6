-- Signed numbers as linear facts for omega, which reads natural numbers alone. A whole number z is zp z - zn z, its positive part less
-- its negative part, and each law turns an operation, a test or a range into a fact that is linear in the parts, with no case split.
-- Assumes nothing.
use mathlib.Core.Path.{◌≡◌, refl, sym, ap, ◌∙◌}
use mathlib.Core.Bool.{Bool, true, false, cond}
use Prim.Native.Nat.{ℕ, zero, suc, ◌+◌, ◌-◌, ◌*◌, ◌/◌, ◌^◌, ◌≤◌, ◌<◌}
use native.Mathlib.Nat.{zero-mul}
use native.Mathlib.Omega.{arith}
use lib.Dec.{T, ltb}
use lib.IntN.{ℤ, pos, negsuc, neg_ℤ, nat_abs, sub_ℕ, ◌+ℤ◌, ◌-ℤ◌, ◌*ℤ◌}
use lib.Signed.{lt_z, le_z, non_neg, shr_z, quot_z}
use borrow.Author.Tests.{ltb-true, ltb-false, leb-true, leb-false, lt-ltb, le-ltb, le-leb, lt-leb}
use mir.Syntax.{Width}
use mir.Val.{SFits, hbits}

-- the positive part: z where z is not negative, else 0
abbrev pub zp : ℤ → ℕ
zp (pos n) = n
zp (negsuc n) = 0

-- the negative part: -z where z is negative, else 0
abbrev pub zn : ℤ → ℕ
zn (pos n) = 0
zn (negsuc n) = suc n

-- ---- equality, and which part is 0

-- an equation of whole numbers, shown as one of their parts
pub eq_z : (x y : ℤ) → zp x + zn y ≡ zp y + zn x → x ≡ y
eq_z (pos a) (pos b) h = ap pos (omega arith)
eq_z (pos a) (negsuc b) h = absurd (omega arith)
eq_z (negsuc a) (pos b) h = absurd (omega arith)
eq_z (negsuc a) (negsuc b) h = ap negsuc (omega arith)

-- a number that is not negative has no negative part
pub zn_zero : (z : ℤ) → zn z ≤ zp z → zn z ≡ 0
zn_zero (pos n) h = refl
zn_zero (negsuc n) h = absurd (omega arith)

-- a number that is not positive has no positive part
pub zp_zero : (z : ℤ) → zp z ≤ zn z → zp z ≡ 0
zp_zero (pos n) h = omega arith
zp_zero (negsuc n) h = refl

-- ---- operations

difference : (a b : ℕ) (t : Bool)
    → ltb a b ≡ t
    → zp (cond t (negsuc (b - suc a)) (pos (a - b))) + b ≡ a + zn (cond t (negsuc (b - suc a)) (pos (a - b)))
difference a b true e = omega (arith, ltb-true a b e)
difference a b false e = omega (arith, ltb-false a b e)

-- a - b of natural numbers as a whole number
pub dif_z : (a b : ℕ) → zp (sub_ℕ a b) + b ≡ a + zn (sub_ℕ a b)
dif_z a b = difference a b (ltb a b) refl

-- a sum
pub add_z : (x y : ℤ) → zp (x +ℤ y) + zn x + zn y ≡ zp x + zp y + zn (x +ℤ y)
add_z (pos a) (pos b) = omega arith
add_z (pos a) (negsuc b) = omega (arith, dif_z a (suc b))
add_z (negsuc a) (pos b) = omega (arith, dif_z b (suc a))
add_z (negsuc a) (negsuc b) = omega arith

-- a negation exchanges the parts
pub neg_p : (x : ℤ) → zp (neg_ℤ x) ≡ zn x
neg_p (pos zero) = refl
neg_p (pos (suc n)) = refl
neg_p (negsuc n) = refl

-- and so for the negative part
pub neg_n : (x : ℤ) → zn (neg_ℤ x) ≡ zp x
neg_n (pos zero) = refl
neg_n (pos (suc n)) = refl
neg_n (negsuc n) = refl

-- a difference
pub sub_z : (x y : ℤ) → zp (x -ℤ y) + zn x + zp y ≡ zp x + zn y + zn (x -ℤ y)
sub_z x y = omega (arith, add_z x (neg_ℤ y), neg_p y, neg_n y)

-- a product with a natural number, part by part
pub mul_p : (z : ℤ) (k : ℕ) → zp (z *ℤ pos k) ≡ zp z * k
mul_p (pos n) k = refl
mul_p (negsuc n) k = neg_p (pos (suc n * k)) ∙ sym (zero-mul k)

-- and so for the negative part
pub mul_n : (z : ℤ) (k : ℕ) → zn (z *ℤ pos k) ≡ zn z * k
mul_n (pos n) k = sym (zero-mul k)
mul_n (negsuc n) k = neg_n (pos (suc n * k))

-- the shift right by one, which is the floor of half: twice it is at most z, and at least z - 1
pub half_lo : (z : ℤ) → 2 * zp (shr_z z 2) + zn z ≤ zp z + 2 * zn (shr_z z 2)
half_lo (pos n) = omega arith
half_lo (negsuc n) = omega arith

-- the other half of that
pub half_hi : (z : ℤ) → zp z + 2 * zn (shr_z z 2) ≤ 2 * zp (shr_z z 2) + zn z + 1
half_hi (pos n) = omega arith
half_hi (negsuc n) = omega arith

-- the division by 2, which truncates: each part is halved
pub quot_p : (z : ℤ) → zp (quot_z z (pos 2)) ≡ zp z / 2
quot_p (pos n) = refl
quot_p (negsuc n) = neg_p (pos (suc n / 2))

-- and so for the negative part
pub quot_n : (z : ℤ) → zn (quot_z z (pos 2)) ≡ zn z / 2
quot_n (pos n) = refl
quot_n (negsuc n) = neg_n (pos (suc n / 2))

-- the magnitude
pub abs_z : (z : ℤ) → nat_abs z ≡ zp z + zn z
abs_z (pos n) = omega arith
abs_z (negsuc n) = omega arith

-- ---- the tests that code makes: what one that was made says, and how one will go

-- x < y held
pub lt_yes : (x y : ℤ) → lt_z x y ≡ true → zp x + zn y < zp y + zn x
lt_yes (pos a) (pos b) e = omega (arith, ltb-true a b e)
lt_yes (pos a) (negsuc b) e = let z : ◌≡◌ {A = ℕ} 0 1 = cc in omega arith
lt_yes (negsuc a) (pos b) e = omega arith
lt_yes (negsuc a) (negsuc b) e = omega (arith, ltb-true b a e)

-- x < y failed
pub lt_no : (x y : ℤ) → lt_z x y ≡ false → zp y + zn x ≤ zp x + zn y
lt_no (pos a) (pos b) e = omega (arith, ltb-false a b e)
lt_no (pos a) (negsuc b) e = omega arith
lt_no (negsuc a) (pos b) e = let z : ◌≡◌ {A = ℕ} 0 1 = cc in omega arith
lt_no (negsuc a) (negsuc b) e = omega (arith, ltb-false b a e)

-- x ≤ y held
pub le_yes : (x y : ℤ) → le_z x y ≡ true → zp x + zn y ≤ zp y + zn x
le_yes (pos a) (pos b) e = omega (arith, leb-true a b e)
le_yes (pos a) (negsuc b) e = let z : ◌≡◌ {A = ℕ} 0 1 = cc in omega arith
le_yes (negsuc a) (pos b) e = omega arith
le_yes (negsuc a) (negsuc b) e = omega (arith, leb-true b a e)

-- x ≤ y failed
pub le_no : (x y : ℤ) → le_z x y ≡ false → zp y + zn x < zp x + zn y
le_no (pos a) (pos b) e = omega (arith, leb-false a b e)
le_no (pos a) (negsuc b) e = omega arith
le_no (negsuc a) (pos b) e = let z : ◌≡◌ {A = ℕ} 0 1 = cc in omega arith
le_no (negsuc a) (negsuc b) e = omega (arith, leb-false b a e)

-- x < y will hold
pub yes_lt : (x y : ℤ) → zp x + zn y < zp y + zn x → lt_z x y ≡ true
yes_lt (pos a) (pos b) h = lt-ltb a b (omega arith)
yes_lt (pos a) (negsuc b) h = absurd (omega arith)
yes_lt (negsuc a) (pos b) h = refl
yes_lt (negsuc a) (negsuc b) h = lt-ltb b a (omega arith)

-- x < y will fail
pub no_lt : (x y : ℤ) → zp y + zn x ≤ zp x + zn y → lt_z x y ≡ false
no_lt (pos a) (pos b) h = le-ltb a b (omega arith)
no_lt (pos a) (negsuc b) h = refl
no_lt (negsuc a) (pos b) h = absurd (omega arith)
no_lt (negsuc a) (negsuc b) h = le-ltb b a (omega arith)

-- x ≤ y will hold
pub yes_le : (x y : ℤ) → zp x + zn y ≤ zp y + zn x → le_z x y ≡ true
yes_le (pos a) (pos b) h = le-leb a b (omega arith)
yes_le (pos a) (negsuc b) h = absurd (omega arith)
yes_le (negsuc a) (pos b) h = refl
yes_le (negsuc a) (negsuc b) h = le-leb b a (omega arith)

-- x ≤ y will fail
pub no_le : (x y : ℤ) → zp y + zn x < zp x + zn y → le_z x y ≡ false
no_le (pos a) (pos b) h = lt-leb a b (omega arith)
no_le (pos a) (negsuc b) h = refl
no_le (negsuc a) (pos b) h = absurd (omega arith)
no_le (negsuc a) (negsuc b) h = lt-leb b a (omega arith)

-- what a cast to an unsigned type asks of a number that is not negative
pub non_neg_z : (z : ℤ) → zn z ≤ zp z → T (non_neg z)
non_neg_z (pos n) h = tt
non_neg_z (negsuc n) h = absurd (omega arith)

-- ---- what a width holds

-- a number that fits is below the upper end
pub sfits_hi : (w : Width) (z : ℤ) → SFits w z → zp z < 2 ^ hbits w + zn z
sfits_hi w (pos n) h = omega (arith, h.sfits)
sfits_hi w (negsuc n) h = omega (arith, h.sfits)
