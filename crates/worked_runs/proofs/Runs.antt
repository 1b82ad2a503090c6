-- The runs of specs/Runs.antt are computed. The claim's hypotheses hold of the third list, and it is put to use there.
-- Assumes nothing.
use mathlib.Core.Path.{refl}
use mathlib.Core.List.{[], ◌∷◌}
use Prim.Native.Nat.{ℕ, ◌/◌, ◌%◌}
use native.Mathlib.Omega.{arith}
use Rattle.laws.specs.All.{All}
use Rattle.laws.specs.Tabulate.{tabulate}
use Rattle.laws.proofs.Tabulated.{length_tab}
use Rattle.forming_predictions.specs.Splitting.{floor_half, half_flag}
use Rattle.forming_predictions.specs.Lines.{field_lines, clamp_to, row_of, sample_at}
use Rattle.forming_predictions.specs.Forming.{combined, formed}
use Rattle.forming_predictions.specs.Refusals.{plane_fits}
use Rattle.pmv.specs.Chroma.{trunc_half}
use Rattle.inter_reconstruction.specs.Components.{luma, cb, cr}
use Rattle.inter_reconstruction.specs.Macroblock.{field_sample, direction_sample, used_sample, rectangle, macroblock}
use Rattle.inter_reconstruction.specs.Refusals.{same_geometry, planes_fit}
use Rattle.inter_reconstruction.specs.Placing.{stored, picture_fits, well_formed}
use Rattle.drift.specs.Steps.{step_prediction_refusal, prediction, step_placing_refusal, placement}
use Rattle.drift.specs.Unrounded.{table_refusal, unrounded_prediction, unrounded_placement}
use Rattle.drift.specs.Drift.{Fitting, InRange, Near}
use Rattle.drift.proofs.Runs.{drift}
use Rattle.worked_runs.specs.Runs.{g, pictures, MeetsAbove, MeetsBelow, triangle, hollow, Refused, steps, sample_of, unrounded_of, BothSides, WholeVectors}

pub meets_above : All MeetsAbove (1 ∷ 2 ∷ 3 ∷ 4 ∷ [])
unfolding tabulate floor_half half_flag field_lines clamp_to row_of sample_at combined formed plane_fits trunc_half field_sample direction_sample used_sample rectangle macroblock same_geometry planes_fit stored picture_fits well_formed step_prediction_refusal prediction step_placing_refusal placement table_refusal unrounded_prediction unrounded_placement
meets_above = (refl, (refl, (refl, (refl, tt))))

pub meets_below : All MeetsBelow (1 ∷ 2 ∷ 3 ∷ 4 ∷ [])
unfolding tabulate floor_half half_flag field_lines clamp_to row_of sample_at combined formed plane_fits trunc_half field_sample direction_sample used_sample rectangle macroblock same_geometry planes_fit stored picture_fits well_formed step_prediction_refusal prediction step_placing_refusal placement table_refusal unrounded_prediction unrounded_placement
meets_below = (refl, (refl, (refl, (refl, tt))))

-- ---- the third list

pub refusals : Refused
unfolding table_refusal same_geometry planes_fit plane_fits picture_fits well_formed
refusals = (refl, refl, refl)

pub both_sides : BothSides
unfolding tabulate floor_half half_flag field_lines clamp_to row_of sample_at combined formed plane_fits trunc_half field_sample direction_sample used_sample rectangle macroblock same_geometry planes_fit stored picture_fits well_formed step_prediction_refusal prediction step_placing_refusal placement table_refusal unrounded_prediction unrounded_placement
both_sides = (refl, refl)

pub whole_vectors : WholeVectors
unfolding tabulate floor_half half_flag field_lines clamp_to row_of sample_at combined formed plane_fits trunc_half field_sample direction_sample used_sample rectangle macroblock same_geometry planes_fit stored picture_fits well_formed step_prediction_refusal prediction step_placing_refusal placement table_refusal unrounded_prediction unrounded_placement
whole_vectors = (refl, refl)

-- the claim's hypotheses hold of it
pub fits : (f : ℕ → ℕ) (k : ℕ) → Fitting g k (pictures f)
fits f k n luma h = length_tab 256 f
fits f k n cb h = refl
fits f k n cr h = refl

pub in_range_lem : All (InRange 2) steps
in_range_lem = (
  record { first = omega arith; last = omega arith; forward = tt; backward = tt },
  (
    record { first = omega arith; last = omega arith; forward = omega arith; backward = omega arith },
    (
      record { first = omega arith; last = omega arith; forward = omega arith; backward = omega arith },
      (
        record { first = omega arith; last = omega arith; forward = omega arith; backward = omega arith },
        (
          record { first = omega arith; last = omega arith; forward = omega arith; backward = tt },
          (record { first = omega arith; last = omega arith; forward = tt; backward = tt }, tt),
        ),
      ),
    ),
  ),
)

-- what the claim says of a sample
pub instance : Near 2 8 2 (sample_of steps hollow 2 luma 86) (unrounded_of steps hollow 2 luma 86)
instance = drift 2 g 2 hollow (fits (λ (k : ℕ). triangle (k % 16) (k / 16)) 2) steps in_range_lem (omega arith) luma 86
