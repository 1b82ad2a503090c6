-- What the functions on all three planes ask, and what they give. For private contracts alone.
use Rattle.std.specs.Prelude.{◌≡◌, not, List, ℕ, eqb, Option}
use Rattle.combine_predictions.specs.Refusals.{cause, or_else}
use Rattle.combine_predictions.specs.declared.PredictionDirection.{PredictionDirection}
use Rattle.forming_predictions.specs.Means.{rounded}
use Rattle.pmv.specs.declared.kinds.ChromaFormat.{ChromaFormat}
use Rattle.inter_reconstruction.specs.Components.{ColourComponent, luma, cb, cr, block_bytes, macroblock_bytes}
use Rattle.inter_reconstruction.specs.Frames.{Samples, PlaneReading, plane_of, sides_of, samples_in}
use Rattle.inter_reconstruction.specs.Motion.{chroma_motion}
use Rattle.inter_reconstruction.specs.Macroblock.{direction_sample, part, macroblock}
use Rattle.inter_reconstruction.specs.Refusals.{cell_refusal}
use Rattle.inter_reconstruction.specs.inner.Blocks.{PlaneFits}
use Rattle.inter_reconstruction.specs.declared.frames.FrameGeometry.{FrameGeometry}
use Rattle.inter_reconstruction.specs.declared.frames.FrameSides.{FrameSides}
use Rattle.inter_reconstruction.specs.declared.frames.FrameBuffer.{FrameBuffer}
use Rattle.inter_reconstruction.specs.declared.motion.DirectionMotion.{DirectionMotion}
use Rattle.inter_reconstruction.specs.declared.macroblock.PredictionRefusal.{PredictionRefusal}
use Rattle.inter_reconstruction.specs.declared.macroblock.PredictionRefusal.TheVariants.{ForwardMissing, BackwardMissing, WrongLength}

-- every plane of a frame is in the domain
abbrev pub FrameFits : FrameSides → Samples → Type 0
FrameFits b s = (c : ColourComponent) → PlaneFits (plane_of b c) (s c)

-- and of one that holds them
abbrev pub AllReadable : FrameBuffer → Type 0
AllReadable b = FrameFits (sides_of b) (samples_in b)

-- three local blocks for a macroblock, of a, b and r bytes
pub record BlocksFit (f : ChromaFormat) (a b r : ℕ) : Type 0 where
  pub luminance : a ≡ block_bytes f luma
  pub cb_length : b ≡ block_bytes f cb
  pub cr_length : r ≡ block_bytes f cr

-- ---- one direction

-- its motion, for each component
abbrev pub motion_of : ChromaFormat → DirectionMotion → ColourComponent → DirectionMotion
motion_of f d luma = d
motion_of f d cb = chroma_motion f d
motion_of f d cr = chroma_motion f d

-- its block of a component, and all three
abbrev pub directed_part : ChromaFormat → (ColourComponent → PlaneReading) → DirectionMotion → ColourComponent → ℕ → ℕ → List ℕ
directed_part f read d c col row = part f c (direction_sample rounded (read c) (motion_of f d c)) col row

abbrev pub directed : ChromaFormat → (ColourComponent → PlaneReading) → DirectionMotion → ℕ → ℕ → List ℕ
directed f read d col row = macroblock f (λ (c : ColourComponent). direction_sample rounded (read c) (motion_of f d c)) col row

-- the refusal of its absence
abbrev pub missing_in : PredictionDirection → PredictionRefusal
missing_in PredictionDirection.Forward = ForwardMissing
missing_in PredictionDirection.Backward = BackwardMissing
missing_in PredictionDirection.Skipped = ForwardMissing

-- ---- the destination

-- what is refused before the references are looked at
abbrev pub destination_refusal : FrameGeometry → ℕ → ℕ → ℕ → Option PredictionRefusal
destination_refusal dest out col row = or_else (cell_refusal col row) (cause (not (eqb out (macroblock_bytes dest.chroma_format))) WrongLength)
