-- What a prediction call answers, by docs/SCOPE.md. Nothing here is the standard's.
use Rattle.std.specs.Prelude.{List, ℕ, Option, Some, None, Result, Ok, Err}
use Rattle.forming_predictions.specs.Means.{rounded}
use Rattle.pmv.specs.declared.kinds.ChromaFormat.{ChromaFormat}
use Rattle.inter_reconstruction.specs.Frames.{given_sides, given_lengths, given_reading}
use Rattle.inter_reconstruction.specs.Macroblock.{predicted}
use Rattle.inter_reconstruction.specs.Refusals.{references_refusal, prediction_refusal}
use Rattle.inter_reconstruction.specs.declared.frames.FrameGeometry.{FrameGeometry}
use Rattle.inter_reconstruction.specs.declared.frames.FrameBuffer.{FrameBuffer}
use Rattle.inter_reconstruction.specs.declared.motion.Uses.{Uses}
use Rattle.inter_reconstruction.specs.declared.motion.UsedDirections.{UsedDirections}
use Rattle.inter_reconstruction.specs.declared.motion.UsedDirections.TheVariants.{Forward, Backward, Both}
use Rattle.inter_reconstruction.specs.declared.macroblock.Accepted.{Accepted}
use Rattle.inter_reconstruction.specs.declared.macroblock.PredictionRefusal.{PredictionRefusal}

abbrev pub prediction_directions : Result Accepted PredictionRefusal → Option UsedDirections
prediction_directions (Ok a) = Some a.directions
prediction_directions (Err r) = None

-- the directions that a macroblock is predicted from, without their motion
abbrev pub directions_of : Uses → UsedDirections
directions_of (Uses.Forward d) = Forward
directions_of (Uses.Backward e) = Backward
directions_of (Uses.Both d e) = Both

-- what an accepted answer tells
abbrev pub accepted : Uses → Accepted
accepted u = record { directions = directions_of u }

-- ---- by references that hold their samples

-- what is refused of those that are used
abbrev pub refusal_among : FrameGeometry → Option FrameBuffer → Option FrameBuffer → Uses → Option PredictionRefusal
refusal_among dest f b = references_refusal dest (given_sides f) (given_lengths f) (given_sides b) (given_lengths b)

-- and of the whole call, with an output of n bytes
abbrev pub refusal_from : FrameGeometry → ℕ → Option FrameBuffer → Option FrameBuffer → Uses → ℕ → ℕ → Option PredictionRefusal
refusal_from dest n f b = prediction_refusal dest n (given_sides f) (given_lengths f) (given_sides b) (given_lengths b)

-- the macroblock's bytes
abbrev pub prediction_from : ChromaFormat → Option FrameBuffer → Option FrameBuffer → Uses → ℕ → ℕ → List ℕ
prediction_from f forward backward = predicted rounded f (given_reading forward) (given_reading backward)
