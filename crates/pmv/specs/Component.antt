-- ISO/IEC 13818-2, 7.6.3.1, second part: from delta and the predictor PMV[r][s][t] to the vector's component and the new predictor. Delta is
-- a parameter here: whoever reads it from a stream in another way has the same component of it. proofs/Facts.antt has what follows: an
-- accepted vector is in range and equals the prediction plus delta but for a multiple of range, and when 6 is given.
-- The scope (docs/SCOPE.md): refusals 5 and 6, of what 7.6.3.1 only demands of a stream; one wrap and no remainder, of a sum that is the
-- mathematical one for every prior; the new predictor is not tested.
use Rattle.std.specs.Prelude.{Bool, not, ◌&&◌, cond, ℕ, ◌*◌, ℤ, pos, neg_ℤ, ◌+ℤ◌, ◌-ℤ◌, ◌*ℤ◌, Option}
use Rattle.std.specs.Int.Signed.{lt_z, le_z}
use Rattle.combine_predictions.specs.Refusals.{cause, or_else}
use Rattle.forming_predictions.specs.Splitting.{floor_half}
use Rattle.pmv.specs.Kinds.{is_field_format, is_frame_picture, is_vertical}
use Rattle.pmv.specs.Delta.{scale, delta, residual_value, delta_refusal}
use Rattle.pmv.specs.declared.kinds.MvFormat.{MvFormat}
use Rattle.pmv.specs.declared.kinds.PictureStructure.{PictureStructure}
use Rattle.pmv.specs.declared.kinds.Component.{Component}
use Rattle.pmv.specs.declared.component.VectorRefusal.{VectorRefusal}
use Rattle.pmv.specs.declared.component.VectorRefusal.TheVariants.{DeltaOutside, VectorOutside}
use Rattle.pmv.specs.declared.component.VectorRange.{VectorRange}
use Rattle.pmv.specs.declared.component.ReconstructedComponent.{ReconstructedComponent}

-- low = -16 * f, high = 16 * f - 1, range = 32 * f
unfoldable pub range_of : ℕ → VectorRange
range_of f = record { low = neg_ℤ (pos (16 * f)); high = pos (16 * f) -ℤ pos 1; range = pos (32 * f) }

-- low ≤ v ≤ high
abbrev pub in_range : VectorRange → ℤ → Bool
in_range b v = le_z b.low v && le_z v b.high

-- mv_format == "field" && t == 1 && picture_structure == "Frame picture"
unfoldable pub halves : MvFormat → PictureStructure → Component → Bool
halves format picture t = is_field_format format && (is_vertical t && is_frame_picture picture)

-- the prediction: PMV[r][s][t], or PMV[r][s][t] DIV 2
abbrev pub prediction : Bool → ℤ → ℤ
prediction halved prior = cond halved (floor_half prior) prior

-- if (vector' < low) vector' = vector' + range
abbrev pub raised : VectorRange → ℤ → ℤ
raised b v = cond (lt_z v b.low) (v +ℤ b.range) v

-- if (vector' > high) vector' = vector' - range
abbrev pub lowered : VectorRange → ℤ → ℤ
lowered b v = cond (lt_z b.high v) (v -ℤ b.range) v

-- at most one wrap: this is no remainder
unfoldable pub wrapped : VectorRange → ℤ → ℤ
wrapped b v = lowered b (raised b v)

-- vector'[r][s][t]
abbrev pub vector_of : VectorRange → Bool → ℤ → ℤ → ℤ
vector_of b halved prior d = wrapped b (prediction halved prior +ℤ d)

-- the new PMV[r][s][t]: vector'[r][s][t], or twice it, which may leave low..high
abbrev pub new_predictor : Bool → ℤ → ℤ
new_predictor halved v = cond halved (v *ℤ pos 2) v

-- what delta gives: total, whatever is refused
unfoldable pub from_delta : VectorRange → Bool → ℤ → ℤ → ReconstructedComponent
from_delta b halved prior d =
    record {
      vector_prime = vector_of b halved prior d;
      new_pmv = new_predictor halved (vector_of b halved prior d);
      delta = d;
      range = b.range;
    }

-- 5, then 6: 7.6.3.1 demands both ranges of a stream, and refuses nothing
unfoldable pub from_delta_refusal : VectorRange → Bool → ℤ → ℤ → Option VectorRefusal
from_delta_refusal b halved prior d =
    or_else (cause (not (in_range b d)) DeltaOutside)
    (cause (not (in_range b (vector_of b halved prior d))) VectorOutside)

-- ---- a component, from what the stream has of it

abbrev pub delta_of : ℕ → ℤ → Option ℕ → ℤ
delta_of f_code code residual = delta (scale f_code) code (residual_value residual)

abbrev pub component_of : ℕ → ℤ → Option ℕ → ℤ → Bool → ReconstructedComponent
component_of f_code code residual prior halved = from_delta (range_of (scale f_code)) halved prior (delta_of f_code code residual)

-- 1, 2, 3 or 4, 5, 6
abbrev pub component_refusal : ℕ → ℤ → Option ℕ → ℤ → Bool → Option VectorRefusal
component_refusal f_code code residual prior halved =
    or_else (delta_refusal f_code code residual)
    (from_delta_refusal (range_of (scale f_code)) halved prior (delta_of f_code code residual))
