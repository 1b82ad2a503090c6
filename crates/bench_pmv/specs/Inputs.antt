-- Inputs and answers as numbers. For the benchmark alone: nothing here is from the standard or from docs/SCOPE.md.
use Rattle.std.specs.Prelude.{Bool, not, cond, List, [], ◌∷◌, ℕ, ◌+◌, eqb, ltb, ℤ, Option, Some, None, unwrap_or, Result, Ok, Err}
use Rattle.pmv.specs.Kinds.{direction_from, index_from, format_from, structure_from, type_from}
use Rattle.pmv.specs.Refusals.{vector_number, update_number}
use Rattle.pmv.specs.Update.{outcome_number}
use Rattle.pmv.specs.declared.kinds.PictureStructure.{PictureStructure}
use Rattle.pmv.specs.declared.kinds.PredictionType.{PredictionType}
use Rattle.pmv.specs.declared.kinds.MvFormat.{MvFormat}
use Rattle.pmv.specs.declared.kinds.VectorIndex.{VectorIndex}
use Rattle.pmv.specs.declared.kinds.VectorIndex.TheVariants.{Second}
use Rattle.pmv.specs.declared.kinds.Direction.{Direction}
use Rattle.pmv.specs.declared.kinds.Direction.TheVariants.{Backward}
use Rattle.pmv.specs.declared.component.VectorRefusal.{VectorRefusal}
use Rattle.pmv.specs.declared.predictors.Pmv.{Pmv}
use Rattle.pmv.specs.declared.update.PmvUpdateContext.{PmvUpdateContext}
use Rattle.pmv.specs.declared.update.PmvUpdateOutcome.{PmvUpdateOutcome}
use Rattle.pmv.specs.declared.update.UpdateRefusal.{UpdateRefusal}
use Rattle.pmv.specs.declared.vector.MotionVector.{MotionVector}
use Rattle.pmv.specs.declared.vector.VectorComponents.{VectorComponents}

-- a kind's number, and any other number as the last of the kinds
abbrev pub structure_of : ℕ → PictureStructure
structure_of n = unwrap_or (structure_from n) PictureStructure.Frame

abbrev pub format_of : ℕ → MvFormat
format_of n = unwrap_or (format_from n) MvFormat.Frame

abbrev pub index_of : ℕ → VectorIndex
index_of n = unwrap_or (index_from n) Second

abbrev pub direction_of : ℕ → Direction
direction_of n = unwrap_or (direction_from n) Backward

-- a type's number, and else none
abbrev pub type_of : ℕ → Option PredictionType
type_of n = type_from n

-- a byte, and else none
abbrev pub residual_of : ℕ → Option ℕ
residual_of n = cond (ltb n 256) (Some n) None

abbrev pub is_set : ℕ → Bool
is_set n = not (eqb n 0)

abbrev pub context_of : ℕ → ℕ → ℕ → ℕ → ℕ → ℕ → PmvUpdateContext
context_of structure type forward backward intra concealment =
    record {
      picture_structure = structure_of structure;
      prediction_type = type_of type;
      macroblock_motion_forward = is_set forward;
      macroblock_motion_backward = is_set backward;
      macroblock_intra = is_set intra;
      concealment_motion_vectors = is_set concealment;
    }

abbrev pub vector_of : ℤ → ℕ → ℤ → ℕ → MotionVector
vector_of h hr v vr =
    record {
      motion_code_horiz = h;
      motion_residual_horiz = residual_of hr;
      motion_code_vert = v;
      motion_residual_vert = residual_of vr;
    }

abbrev pub pmv_of : List ℤ → Pmv
pmv_of l = record { values = l }

-- the outcome's number, or 16 and the refusal's
abbrev pub update_code : Result PmvUpdateOutcome UpdateRefusal → ℕ
update_code (Ok o) = outcome_number o
update_code (Err r) = 16 + update_number r

abbrev pub vector_code : Result VectorComponents VectorRefusal → ℕ
vector_code (Ok c) = 0
vector_code (Err r) = vector_number r

-- both components of an accepted vector, and else what was there
abbrev pub components_or : List ℤ → Result VectorComponents VectorRefusal → List ℤ
components_or l (Ok c) = c.horizontal.vector_prime ∷ c.vertical.vector_prime ∷ []
components_or l (Err r) = l
