-- f_code, motion_code and delta: how large they are.
-- Assumes nothing.
use mathlib.Core.Path.{◌≡◌, refl, sym, ◌∙◌}
use mathlib.Core.Bool.{Bool, true, false, ◌&&◌, ◌||◌}
use Prim.Native.Nat.{ℕ, suc, ◌*◌, ◌-◌, ◌%◌, ◌^◌, ◌≤◌}
use native.Mathlib.Nat.{one-mul, pow-le-pow_right}
use native.Mathlib.Omega.{arith}
use lib.Dec.{eqb, leb}
use lib.IntN.{ℤ, pos, negsuc, nat_abs}
use lib.Signed.{le_z}
use lib.Pow.{pow_pos, shl_exact}
use borrow.Author.Tests.{eqb-false, ne_eqb}
use mir.Syntax.{w32}
use mir.Val.{SFits, of_z}
use Rattle.laws.proofs.Signed.{le_yes}
use Rattle.laws.proofs.Bounded.{Within}
use Rattle.laws.proofs.Tests.{both, range}
use Rattle.forming_predictions.proofs.Refusals.{no_cause}
use Rattle.std.specs.Prelude.{None}
use Rattle.pmv.specs.declared.component.VectorRefusal.TheVariants.{FCodeOutside}
use Rattle.pmv.specs.Delta.{scale, is_plain, f_code_fits, code_fits, f_code_refusal}

-- ---- f_code and f
pub f_code_range : (k : ℕ) → f_code_refusal k ≡ None → (1 ≤ k) × (k ≤ 9)
unfolding f_code_fits
f_code_range k e = range 1 9 k (no_cause (leb 1 k && leb k 9) FCodeOutside e)

pub scale_range : (k : ℕ) → k ≤ 9 → (1 ≤ scale k) × (scale k ≤ 256)
unfolding scale
scale_range k h = (pow_pos (k - 1), pow-le-pow_right {n = 2} (omega arith) {i = k - 1} {j = 8} (omega arith))

-- f is made by a shift, which loses no bit
pub shifted : (k : ℕ) → f_code_refusal k ≡ None → (1 * 2 ^ (k - 1)) % 4294967296 ≡ scale k
unfolding scale
shifted k e =
    let r = f_code_range k e in
    shl_exact {a = 1} 1 (k - 1) 32 (omega (arith, r.0)) (omega (arith, r.1)) ∙ one-mul (2 ^ (k - 1))

-- ---- motion_code
pub code_within : (z : ℤ) → code_fits z ≡ true → Within 16 z
unfolding code_fits
code_within z e =
    let t = both (le_z (negsuc 15) z) (le_z z (pos 16)) e in
    let a = le_yes (negsuc 15) z t.0 in
    let b = le_yes z (pos 16) t.1 in
    record { above = omega arith; below = omega arith }

-- the code's test for 0 goes by the bits
zero_bits : (z : ℤ) → SFits w32 z → eqb (of_z w32 z) 0 ≡ eqb (nat_abs z) 0
zero_bits (pos n) f = refl
zero_bits (negsuc n) f =
    ne_eqb (2 ^ 32 - suc n) 0 (λ e. absurd (omega (arith, f.sfits))) ∙ sym (ne_eqb (suc n) 0 (λ e. absurd (omega arith)))

pub plain_bits : (f : ℕ) (z : ℤ) → SFits w32 z → (eqb f 1 || eqb (of_z w32 z) 0) ≡ is_plain f z
unfolding is_plain
plain_bits f z h = rw (zero_bits z h)

-- ---- delta

or_none : (a b : Bool) → (a || b) ≡ false → b ≡ false
or_none true b e = let z : ◌≡◌ {A = ℕ} 0 1 = cc in absurd (omega arith)
or_none false b e = e

-- a code that is not plain is not 0
pub not_plain : (f : ℕ) (z : ℤ) → is_plain f z ≡ false → 1 ≤ nat_abs z
unfolding is_plain
not_plain f z e = let h = eqb-false (nat_abs z) 0 (or_none (eqb f 1) (eqb (nat_abs z) 0) e) in omega arith
