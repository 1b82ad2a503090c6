-- ISO/IEC 13818-2, 7.6.3.1: components and vectors against the predictors, which take the new values. A vector reads and stores
-- PMV[r][s][1:0] alone. What is refused of a component is a parameter.
-- The scope (docs/SCOPE.md): the horizontal component is first, and stays stored where the vertical one is refused; `decode_motion_vector`
-- never halves.
use Rattle.std.specs.Prelude.{Bool, ℕ, ℤ, Option}
use Rattle.combine_predictions.specs.Refusals.{or_else, answered, unless_refused}
use Rattle.pmv.specs.Component.{halves, component_of, component_refusal}
use Rattle.pmv.specs.Predictors.{predictor, stored, pair_of, pair_stored}
use Rattle.pmv.specs.declared.kinds.VectorIndex.{VectorIndex}
use Rattle.pmv.specs.declared.kinds.Direction.{Direction}
use Rattle.pmv.specs.declared.kinds.Component.{Component}
use Rattle.pmv.specs.declared.kinds.Component.TheVariants.{Horizontal, Vertical}
use Rattle.pmv.specs.declared.kinds.MvFormat.{MvFormat}
use Rattle.pmv.specs.declared.kinds.PictureStructure.{PictureStructure}
use Rattle.pmv.specs.declared.component.VectorRefusal.{VectorRefusal}
use Rattle.pmv.specs.declared.component.ReconstructedComponent.{ReconstructedComponent}
use Rattle.pmv.specs.declared.predictors.Pmv.{Pmv}
use Rattle.pmv.specs.declared.predictors.PredictorPair.{PredictorPair}
use Rattle.pmv.specs.declared.vector.MotionVector.{MotionVector}
use Rattle.pmv.specs.declared.vector.DecodedComponent.{DecodedComponent}
use Rattle.pmv.specs.declared.vector.VectorComponents.{VectorComponents}
use Rattle.pmv.specs.declared.vector.DecodedPair.{DecodedPair}
use Rattle.pmv.specs.declared.vector.DecodedVector.{DecodedVector}

-- what is refused of f_code, motion_code, motion_residual, the predictor, and whether it is halved
abbrev pub Reading : Type 0
Reading = ℕ → ℤ → Option ℕ → ℤ → Bool → Option VectorRefusal

-- the scope's
abbrev pub ported : Reading
ported = component_refusal

-- ---- one component: PMV[r][s][t] is read and, unless the component is refused, stored
module _ (pmv : Pmv) (r : VectorIndex) (s : Direction) (t : Component) (f_code : ℕ) (code : ℤ) (residual : Option ℕ) (halved : Bool) where
  abbrev pub part : ReconstructedComponent
  part = component_of f_code code residual (predictor pmv r s t) halved

  abbrev pub part_refusal : Reading → Option VectorRefusal
  part_refusal reading = reading f_code code residual (predictor pmv r s t) halved

  unfoldable pub decoded : Reading → DecodedComponent
  decoded reading =
      record {
        answer = answered (part_refusal reading) part;
        pmv = unless_refused (part_refusal reading) (stored pmv r s t part.new_pmv) pmv;
      }

-- ---- a vector against its two predictors: the horizontal component first, then the vertical one
module _ (prior : PredictorPair) (mv : MotionVector) (fh fv : ℕ) (format : MvFormat) (picture : PictureStructure) where
  abbrev pub horizontal_refusal : Reading → Option VectorRefusal
  horizontal_refusal reading =
      reading fh mv.motion_code_horiz mv.motion_residual_horiz prior.horizontal (halves format picture Horizontal)

  abbrev pub vertical_refusal : Reading → Option VectorRefusal
  vertical_refusal reading =
      reading fv mv.motion_code_vert mv.motion_residual_vert prior.vertical (halves format picture Vertical)

  -- the horizontal component's, then the vertical one's
  abbrev pub vector_refusal : Reading → Option VectorRefusal
  vector_refusal reading = or_else (horizontal_refusal reading) (vertical_refusal reading)

  abbrev pub components : VectorComponents
  components =
      record {
        horizontal = component_of fh mv.motion_code_horiz mv.motion_residual_horiz prior.horizontal (halves format picture Horizontal);
        vertical = component_of fv mv.motion_code_vert mv.motion_residual_vert prior.vertical (halves format picture Vertical);
      }

  -- where the vertical component is refused, the new horizontal predictor remains
  abbrev pub pair_after : Reading → PredictorPair
  pair_after reading =
      record {
        horizontal = unless_refused (horizontal_refusal reading) components.horizontal.new_pmv prior.horizontal;
        vertical = unless_refused (vector_refusal reading) components.vertical.new_pmv prior.vertical;
      }

  unfoldable pub reconstructed_pair : Reading → DecodedPair
  reconstructed_pair reading = record { answer = answered (vector_refusal reading) components; predictors = pair_after reading }

-- ---- a vector against all predictors: PMV[r][s][1:0] is read, and stored
module _ (pmv : Pmv) (mv : MotionVector) (r : VectorIndex) (s : Direction) (fh fv : ℕ) (format : MvFormat) (picture : PictureStructure) where
  unfoldable pub reconstructed : Reading → DecodedVector
  reconstructed reading =
      record {
        answer = (reconstructed_pair (pair_of pmv r s) mv fh fv format picture reading).answer;
        pmv = pair_stored pmv r s (reconstructed_pair (pair_of pmv r s) mv fh fv format picture reading).predictors;
      }
