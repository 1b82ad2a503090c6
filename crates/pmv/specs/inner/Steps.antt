-- A vector as the code makes it: the vertical component's answer, after the horizontal component was stored. For private contracts alone.
use Rattle.std.specs.Prelude.{Result, Ok, Err}
use Rattle.pmv.specs.declared.component.ReconstructedComponent.{ReconstructedComponent}
use Rattle.pmv.specs.declared.component.VectorRefusal.{VectorRefusal}
use Rattle.pmv.specs.declared.predictors.PredictorPair.{PredictorPair}
use Rattle.pmv.specs.declared.vector.DecodedPair.{DecodedPair}

abbrev pub joined : PredictorPair → ReconstructedComponent → Result ReconstructedComponent VectorRefusal → DecodedPair
joined kept h (Ok v) =
    record {
      answer = Ok (record { horizontal = h; vertical = v });
      predictors = record { horizontal = kept.horizontal; vertical = v.new_pmv };
    }
joined kept h (Err r) = record { answer = Err r; predictors = kept }
