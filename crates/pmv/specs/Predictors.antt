-- ISO/IEC 13818-2, Table 7-7: the predictors PMV[r][s][t], where r is the first or second vector, s the direction and t the component; 7.6.3.3
-- and 7.6.3.4, how they are copied and reset.
-- The scope (docs/SCOPE.md): they are one array of eight.
use Rattle.std.specs.Prelude.{[], ◌∷◌, ℕ, ◌+◌, ◌*◌, ℤ, pos, get_or, set}
use Rattle.pmv.specs.Kinds.{index_number, direction_number, component_number}
use Rattle.pmv.specs.declared.kinds.VectorIndex.{VectorIndex}
use Rattle.pmv.specs.declared.kinds.VectorIndex.TheVariants.{First, Second}
use Rattle.pmv.specs.declared.kinds.Direction.{Direction}
use Rattle.pmv.specs.declared.kinds.Component.{Component}
use Rattle.pmv.specs.declared.kinds.Component.TheVariants.{Horizontal, Vertical}
use Rattle.pmv.specs.declared.predictors.Pmv.{Pmv}
use Rattle.pmv.specs.declared.predictors.PredictorPair.{PredictorPair}

-- where PMV[r][s][t] lies among the eight
abbrev pub pmv_index : VectorIndex → Direction → Component → ℕ
pmv_index r s t = index_number r * 4 + direction_number s * 2 + component_number t

-- PMV[r][s][t]
abbrev pub predictor : Pmv → VectorIndex → Direction → Component → ℤ
predictor pmv r s t = get_or pmv.values (pmv_index r s t) (pos 0)

-- PMV[r][s][t] = value
abbrev pub stored : Pmv → VectorIndex → Direction → Component → ℤ → Pmv
stored pmv r s t value = record { values = set pmv.values (pmv_index r s t) value }

-- PMV[r][s][1:0]
abbrev pub pair_of : Pmv → VectorIndex → Direction → PredictorPair
pair_of pmv r s = record { horizontal = predictor pmv r s Horizontal; vertical = predictor pmv r s Vertical }

-- PMV[r][s][1:0] = pair
abbrev pub pair_stored : Pmv → VectorIndex → Direction → PredictorPair → Pmv
pair_stored pmv r s pair = stored (stored pmv r s Horizontal pair.horizontal) r s Vertical pair.vertical

-- 7.6.3.4: all eight are zero
abbrev pub zeroed : Pmv
zeroed = record { values = pos 0 ∷ pos 0 ∷ pos 0 ∷ pos 0 ∷ pos 0 ∷ pos 0 ∷ pos 0 ∷ pos 0 ∷ [] }

-- PMV[1][s][1:0] = PMV[0][s][1:0]
abbrev pub first_copied : Direction → Pmv → Pmv
first_copied s pmv = pair_stored pmv Second s (pair_of pmv First s)
