-- ISO/IEC 13818-2, 7.6.4: a component of a motion vector, which counts half samples, is split into whole samples and a half.
-- Nothing here is the scope's (docs/SCOPE.md): its "floor of half" is the standard's DIV.
use Rattle.std.specs.Prelude.{◌≡◌, Bool, true, false, not, ◌/◌, eqb, ℤ, pos, negsuc, nat_abs, ◌-ℤ◌, ◌*ℤ◌}
use Rattle.forming_predictions.specs.declared.HalfPattern.{HalfPattern}
use Rattle.forming_predictions.specs.declared.HalfPattern.TheVariants.{Integer, HalfHorizontal, HalfVertical, HalfBoth}
use Rattle.forming_predictions.specs.declared.ComponentSplit.{ComponentSplit}

-- int_vec = vector DIV 2, where DIV (4.1) rounds towards minus infinity: the floor of half. negsuc n is -(n + 1).
-- proofs/Splitting.antt shows 2q ≤ vector < 2q + 2
unfoldable pub floor_half : ℤ → ℤ
floor_half (pos n) = pos (n / 2)
floor_half (negsuc n) = negsuc (n / 2)

-- half_flag: vector - 2 * int_vec != 0
unfoldable pub half_flag : ℤ → Bool
half_flag vector = not (eqb (nat_abs (vector -ℤ floor_half vector *ℤ pos 2)) 0)

-- what splitting a component gives
abbrev pub IsSplit : ℤ → ComponentSplit → Type 0
IsSplit vector s = (s.int_vec ≡ floor_half vector) × (s.half_flag ≡ half_flag vector)

-- ---- the four cases of 7.6.4

-- half_flag[0], the horizontal one, of each case
abbrev pub horizontal_half : HalfPattern → Bool
horizontal_half Integer = false
horizontal_half HalfHorizontal = true
horizontal_half HalfVertical = false
horizontal_half HalfBoth = true

-- half_flag[1], the vertical one
abbrev pub vertical_half : HalfPattern → Bool
vertical_half Integer = false
vertical_half HalfHorizontal = false
vertical_half HalfVertical = true
vertical_half HalfBoth = true
