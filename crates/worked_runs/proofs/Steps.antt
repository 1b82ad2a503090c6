-- The steps of specs/Steps.antt are computed.
-- Assumes nothing.
use mathlib.Core.Path.{refl}
use Rattle.laws.specs.All.{All}
use Rattle.laws.specs.Tabulate.{tabulate}
use Rattle.forming_predictions.specs.Splitting.{floor_half, half_flag}
use Rattle.forming_predictions.specs.Lines.{field_lines, clamp_to, row_of, sample_at}
use Rattle.forming_predictions.specs.Forming.{combined, formed}
use Rattle.forming_predictions.specs.Refusals.{plane_fits}
use Rattle.pmv.specs.Chroma.{trunc_half}
use Rattle.inter_reconstruction.specs.Macroblock.{field_sample, direction_sample, used_sample, rectangle, macroblock}
use Rattle.inter_reconstruction.specs.Refusals.{same_geometry, planes_fit}
use Rattle.inter_reconstruction.specs.Placing.{stored, picture_fits, well_formed}
use Rattle.drift.specs.Steps.{step_prediction_refusal, prediction, step_placing_refusal, placement}
use Rattle.drift.specs.Unrounded.{table_refusal, unrounded_prediction, unrounded_placement}
use Rattle.worked_runs.specs.Steps.{PlaneLengths, Leaves, copies, by_fields, Refuses, refusals, StepsHold}

infixr 60 ◌◂◌
-- a row, and those below it
◌◂◌ : {A B : Type 0} → A → B → A × B
a ◂ b = (a, b)

pub lengths : PlaneLengths
lengths = (refl, refl, refl, refl)

pub copied : All Leaves copies
unfolding tabulate floor_half half_flag field_lines clamp_to row_of sample_at combined formed plane_fits trunc_half field_sample direction_sample used_sample rectangle macroblock same_geometry planes_fit stored picture_fits well_formed step_prediction_refusal prediction step_placing_refusal placement table_refusal unrounded_prediction unrounded_placement
copied = (refl, refl) ◂ (refl, refl) ◂ (refl, refl) ◂ (refl, refl) ◂ (refl, refl) ◂ (refl, refl) ◂ (refl, refl) ◂ (refl, refl) ◂ tt

pub by_fields_lem : All Leaves by_fields
unfolding tabulate floor_half half_flag field_lines clamp_to row_of sample_at combined formed plane_fits trunc_half field_sample direction_sample used_sample rectangle macroblock same_geometry planes_fit stored picture_fits well_formed step_prediction_refusal prediction step_placing_refusal placement table_refusal unrounded_prediction unrounded_placement
by_fields_lem = (refl, refl) ◂ (refl, refl) ◂ (refl, refl) ◂ (refl, refl) ◂ (refl, refl) ◂ (refl, refl) ◂ tt

pub refuse : All Refuses refusals
unfolding tabulate floor_half half_flag field_lines clamp_to row_of sample_at combined formed plane_fits trunc_half field_sample direction_sample used_sample rectangle macroblock same_geometry planes_fit stored picture_fits well_formed step_prediction_refusal prediction step_placing_refusal placement table_refusal unrounded_prediction unrounded_placement
refuse =
    (refl, refl, refl)
    ◂ (refl, refl, refl)
    ◂ (refl, refl, refl)
    ◂ (refl, refl, refl)
    ◂ (refl, refl, refl)
    ◂ (refl, refl, refl)
    ◂ (refl, refl, refl)
    ◂ (refl, refl, refl)
    ◂ (refl, refl, refl)
    ◂ tt

pub steps_hold : StepsHold
steps_hold = (lengths, copied, by_fields_lem, refuse)
