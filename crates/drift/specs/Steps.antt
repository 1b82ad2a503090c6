-- The scope (docs/SCOPE.md, "The drift figure"): a list of steps on numbered pictures of one geometry, by the calls that predict and place.
-- A run is made of the definitions that the promises of these calls speak of, and of nothing else: what these have of the standard, 7.6.3.5
-- to 7.6.7, is all of it here.
use Rattle.std.specs.Prelude.{Bool, cond, List, [], ◌∷◌, ℕ, eqb, length, Option, Some, None, is_some}
use Rattle.combine_predictions.specs.Refusals.{unless_refused}
use Rattle.forming_predictions.specs.Means.{rounded}
use Rattle.forming_predictions.specs.declared.PlaneSides.{PlaneSides}
use Rattle.inter_reconstruction.specs.Components.{ColourComponent, luma, cb, cr, columns_of, lines_of, macroblock_bytes}
use Rattle.inter_reconstruction.specs.Motion.{frame_uses, field_uses}
use Rattle.inter_reconstruction.specs.Frames.{Samples, lengths_of, read_reference}
use Rattle.inter_reconstruction.specs.Macroblock.{predicted}
use Rattle.inter_reconstruction.specs.Refusals.{prediction_refusal}
use Rattle.inter_reconstruction.specs.Placing.{placed, placing_refusal}
use Rattle.inter_reconstruction.specs.declared.frames.FrameGeometry.{FrameGeometry}
use Rattle.inter_reconstruction.specs.declared.frames.FrameSides.{FrameSides}
use Rattle.inter_reconstruction.specs.declared.motion.MotionVectorPel.{MotionVectorPel}
use Rattle.inter_reconstruction.specs.declared.motion.FieldVectorPair.{FieldVectorPair}
use Rattle.inter_reconstruction.specs.declared.motion.Motion as Macroblock
use Rattle.inter_reconstruction.specs.declared.motion.Uses.{Uses}
use Rattle.inter_reconstruction.specs.declared.macroblock.PredictionRefusal.{PredictionRefusal}
use Rattle.inter_reconstruction.specs.declared.placing.PlacingRefusal.{PlacingRefusal}

-- ---- steps

pub data Motion : Type 0 where
  frame_based : Macroblock.Motion MotionVectorPel → Motion
  field_based : Macroblock.Motion FieldVectorPair → Motion

-- a macroblock of picture `target` is predicted and placed. A reference is absent, or the picture of this number.
pub record Step : Type 0 where
  pub target : ℕ
  pub forward : Option ℕ
  pub backward : Option ℕ
  pub column : ℕ
  pub row : ℕ
  pub motion : Motion

abbrev pub motion_uses : Motion → Bool → Bool → Uses
motion_uses (frame_based m) = frame_uses m
motion_uses (field_based m) = field_uses m

-- the directions that are used
abbrev pub step_uses : Step → Uses
step_uses s = motion_uses s.motion (is_some s.forward) (is_some s.backward)

-- ---- pictures

-- the samples of every picture, by its number
abbrev pub Pictures : Type 0
Pictures = ℕ → Samples

-- picture n replaced
abbrev pub replaced : Pictures → ℕ → Samples → Pictures
replaced pictures n new m = cond (eqb m n) new (pictures m)

-- a picture of this geometry, its planes fitting
abbrev pub fitting_plane : FrameGeometry → ColourComponent → PlaneSides
fitting_plane g c = record { width = columns_of g.chroma_format c g.width; height = lines_of g.chroma_format c g.height }

abbrev pub fitting : FrameGeometry → FrameSides
fitting g = record { geometry = g; y = fitting_plane g luma; cb = fitting_plane g cb; cr = fitting_plane g cr }

-- a reference as the calls get it: a frame's sides, and the samples of its planes. Of one that is absent nothing is read, and any samples
-- would do
abbrev pub reference : FrameGeometry → Option ℕ → Option FrameSides
reference g None = None
reference g (Some j) = Some (fitting g)

abbrev pub reference_samples : Pictures → Option ℕ → Samples
reference_samples pictures None = λ (c : ColourComponent). []
reference_samples pictures (Some j) = pictures j

-- ---- a step by the calls

-- what the prediction refuses, and what it writes. Its output has a macroblock's length, and what is placed is that output, so that no step is
-- refused with 18: a call that is, with a buffer of another length, changes nothing, and a list with it is the list without it
unfoldable pub step_prediction_refusal : FrameGeometry → Step → Pictures → Option PredictionRefusal
step_prediction_refusal g s pictures =
    prediction_refusal g (macroblock_bytes g.chroma_format)
    (reference g s.forward) (lengths_of (reference_samples pictures s.forward))
    (reference g s.backward) (lengths_of (reference_samples pictures s.backward))
    (step_uses s) s.column s.row

unfoldable pub prediction : FrameGeometry → Step → Pictures → List ℕ
prediction g s pictures =
    predicted rounded g.chroma_format
    (read_reference (reference g s.forward) (reference_samples pictures s.forward))
    (read_reference (reference g s.backward) (reference_samples pictures s.backward))
    (step_uses s) s.column s.row

-- what placing it in the same cell refuses, and what it leaves
unfoldable pub step_placing_refusal : FrameGeometry → Step → Pictures → Option PlacingRefusal
step_placing_refusal g s pictures =
    placing_refusal (fitting g) (lengths_of (pictures s.target)) (length (prediction g s pictures)) s.column s.row

unfoldable pub placement : FrameGeometry → Step → Pictures → Samples
placement g s pictures = placed (fitting g) s.column s.row (prediction g s pictures) (pictures s.target)

-- a refusal by either call changes no picture
abbrev pub after_step : FrameGeometry → Step → Pictures → Pictures
after_step g s pictures =
    unless_refused (step_prediction_refusal g s pictures)
    (unless_refused (step_placing_refusal g s pictures) (replaced pictures s.target (placement g s pictures)) pictures)
    pictures

-- one step after the other
abbrev pub after_steps : FrameGeometry → List Step → Pictures → Pictures
after_steps g [] pictures = pictures
after_steps g (s ∷ ss) pictures = after_steps g ss (after_step g s pictures)
