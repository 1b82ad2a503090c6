-- ISO/IEC 13818-2, 7.6.3.1, first part: from f_code, motion_code and motion_residual to f and delta, over whole numbers.
-- The scope (docs/SCOPE.md): refusals 1 to 4 and their order; codes are -16 to 16; a residual is any byte, whatever the f_code.
use Rattle.std.specs.Prelude.{Bool, not, ◌&&◌, ◌||◌, cond, ℕ, ◌+◌, ◌-◌, ◌*◌, ◌^◌, leb, eqb, ℤ, pos, negsuc, neg_ℤ, nat_abs, Option, is_some, unwrap_or}
use Rattle.std.specs.Int.Signed.{lt_z, le_z}
use Rattle.combine_predictions.specs.Refusals.{cause, or_else}
use Rattle.pmv.specs.declared.component.VectorRefusal.{VectorRefusal}
use Rattle.pmv.specs.declared.component.VectorRefusal.TheVariants.{FCodeOutside, CodeOutside, ResidualForbidden, ResidualMissing}

-- f = 1 << r_size, where r_size = f_code - 1
unfoldable pub scale : ℕ → ℕ
scale f_code = 2 ^ (f_code - 1)

-- f == 1 || motion_code == 0: delta is motion_code, and the syntax (6.2.5.2.1) has no motion_residual
unfoldable pub is_plain : ℕ → ℤ → Bool
is_plain f code = eqb f 1 || eqb (nat_abs code) 0

-- (Abs(motion_code) - 1) * f + motion_residual + 1
abbrev pub magnitude : ℕ → ℤ → ℕ → ℕ
magnitude f code residual = (nat_abs code - 1) * f + residual + 1

-- m, or -m where motion_code < 0
abbrev pub with_sign : ℤ → ℕ → ℤ
with_sign code m = cond (lt_z code (pos 0)) (neg_ℤ (pos m)) (pos m)

-- delta; the residual is a number, which is not looked at where the syntax has none
unfoldable pub delta : ℕ → ℤ → ℕ → ℤ
delta f code residual = cond (is_plain f code) code (with_sign code (magnitude f code residual))

-- ---- what is refused, in the scope's order

-- the residual's value, 0 for none: any byte, where the standard's has r_size bits
abbrev pub residual_value : Option ℕ → ℕ
residual_value residual = unwrap_or residual 0

-- 6.3.11: 1 to 9 are the f_codes of vectors, and 15 stands for none
unfoldable pub f_code_fits : ℕ → Bool
f_code_fits f_code = leb 1 f_code && leb f_code 9

-- the codes of Table B-10, which the standard does not test for
unfoldable pub code_fits : ℤ → Bool
code_fits code = le_z (negsuc 15) code && le_z code (pos 16)

-- 3 or 4: the residual is there against the syntax, or is not there against it
abbrev pub residual_refusal : Bool → Option ℕ → Option VectorRefusal
residual_refusal plain residual =
    or_else (cause (plain && is_some residual) ResidualForbidden)
    (cause (not plain && not (is_some residual)) ResidualMissing)

abbrev pub f_code_refusal : ℕ → Option VectorRefusal
f_code_refusal f_code = cause (not (f_code_fits f_code)) FCodeOutside

-- 2, and 3 or 4; f is a parameter
unfoldable pub code_refusal : ℕ → ℤ → Option ℕ → Option VectorRefusal
code_refusal f code residual =
    or_else (cause (not (code_fits code)) CodeOutside) (residual_refusal (is_plain f code) residual)

-- 1, and those
unfoldable pub delta_refusal : ℕ → ℤ → Option ℕ → Option VectorRefusal
delta_refusal f_code code residual = or_else (f_code_refusal f_code) (code_refusal (scale f_code) code residual)
