-- The scope (docs/SCOPE.md, "When a call refuses"): what the prediction of a macroblock refuses, from numbers, sides and lengths alone,
-- never from a sample. 13; 18; 16; 17; 15 of the forward reference, then of the backward one; 14 over the references that are used. Nothing
-- here is the standard's.
use Rattle.std.specs.Prelude.{Bool, not, ◌&&◌, ◌||◌, ℕ, eqb, ltb, Option, Some, None}
use Rattle.combine_predictions.specs.Refusals.{cause, or_else}
use Rattle.forming_predictions.specs.Refusals.{plane_fits}
use Rattle.pmv.specs.Kinds.{chroma_number}
use Rattle.inter_reconstruction.specs.Components.{ColourComponent, luma, cb, cr, macroblock_bytes}
use Rattle.inter_reconstruction.specs.Frames.{plane_of}
use Rattle.inter_reconstruction.specs.declared.frames.FrameGeometry.{FrameGeometry}
use Rattle.inter_reconstruction.specs.declared.frames.FrameSides.{FrameSides}
use Rattle.inter_reconstruction.specs.declared.motion.Uses.{Uses}
use Rattle.inter_reconstruction.specs.declared.motion.Uses.TheVariants.{Forward, Backward, Both}
use Rattle.inter_reconstruction.specs.declared.macroblock.PredictionRefusal.{PredictionRefusal}
use Rattle.inter_reconstruction.specs.declared.macroblock.PredictionRefusal.TheVariants.{CellTooFar, OutsideDomain, OtherGeometry, ForwardMissing, BackwardMissing, WrongLength}

-- the numbers of the reasons
abbrev pub prediction_number : PredictionRefusal → ℕ
-- the column or the row is over 1,023
prediction_number CellTooFar = 13
-- a plane's length is not width times height, or a side is outside the domain
prediction_number OutsideDomain = 14
-- a reference's geometry is not the destination's
prediction_number OtherGeometry = 15
prediction_number ForwardMissing = 16
prediction_number BackwardMissing = 17
-- the output is not as long as a macroblock
prediction_number WrongLength = 18

-- ---- the causes

abbrev pub too_far : ℕ → Bool
too_far n = ltb 1023 n

-- declared width, height and format: planes may have other sides
unfoldable pub same_geometry : FrameGeometry → FrameGeometry → Bool
same_geometry a b =
    eqb a.width b.width && (eqb a.height b.height && eqb (chroma_number a.chroma_format) (chroma_number b.chroma_format))

abbrev pub every_component : (ColourComponent → Bool) → Bool
every_component t = t luma && (t cb && t cr)

-- sides in the domain, and as many samples as they say
unfoldable pub planes_fit : FrameSides → (ColourComponent → ℕ) → Bool
planes_fit b n = every_component (λ (c : ColourComponent). plane_fits (plane_of b c).width (plane_of b c).height (n c))

-- ---- what is refused

abbrev pub cell_refusal : ℕ → ℕ → Option PredictionRefusal
cell_refusal col row = cause (too_far col || too_far row) CellTooFar

abbrev pub missing : PredictionRefusal → Option FrameSides → Option PredictionRefusal
missing reason None = Some reason
missing reason (Some b) = None

abbrev pub geometry_refusal : FrameGeometry → Option FrameSides → Option PredictionRefusal
geometry_refusal dest None = None
geometry_refusal dest (Some b) = cause (not (same_geometry b.geometry dest)) OtherGeometry

abbrev pub planes_refusal : Option FrameSides → (ColourComponent → ℕ) → Option PredictionRefusal
planes_refusal None n = None
planes_refusal (Some b) n = cause (not (planes_fit b n)) OutsideDomain

-- of one reference; `reason` is that of its absence
abbrev pub one_refusal : PredictionRefusal → FrameGeometry → Option FrameSides → (ColourComponent → ℕ) → Option PredictionRefusal
one_refusal reason dest r n = or_else (missing reason r) (or_else (geometry_refusal dest r) (planes_refusal r n))

-- Where both directions are used, both references are there or both absent (Motion.antt, `remaining`): 17 is backward motion's alone
-- (proofs/Directions.antt, `backward_only`).
abbrev pub references_refusal : FrameGeometry → Option FrameSides → (ColourComponent → ℕ) → Option FrameSides → (ColourComponent → ℕ) → Uses → Option PredictionRefusal
references_refusal dest f n b k (Forward d) = one_refusal ForwardMissing dest f n
references_refusal dest f n b k (Backward e) = one_refusal BackwardMissing dest b k
references_refusal dest f n b k (Both d e) =
    or_else (missing ForwardMissing f)
    (or_else (missing BackwardMissing b)
    (or_else (geometry_refusal dest f)
    (or_else (geometry_refusal dest b)
    (or_else (planes_refusal f n)
    (planes_refusal b k)))))

-- the destination's geometry, the output's length, the references with the lengths of their planes, which of them are used, and the cell
abbrev pub prediction_refusal : FrameGeometry → ℕ → Option FrameSides → (ColourComponent → ℕ) → Option FrameSides → (ColourComponent → ℕ) → Uses → ℕ → ℕ → Option PredictionRefusal
prediction_refusal dest out f n b k u col row =
    or_else (cell_refusal col row)
    (or_else (cause (not (eqb out (macroblock_bytes dest.chroma_format))) WrongLength)
    (references_refusal dest f n b k u))
