-- Cases of single steps, by the calls and with every mean exact. The cell's column is not its row, the two references are not one picture, and all
-- samples differ: a definition that takes one for the other leaves another number. docs/SCOPE.md, "The drift figure". Nothing here is the standard's.
use Rattle.std.specs.Prelude.{◌≡◌, List, [], ◌∷◌, ℕ, ◌+◌, ◌*◌, ℤ, pos, negsuc, get_or, Option, Some, None, unwrap_or}
use Rattle.combine_predictions.specs.Refusals.{refusal_number}
use Rattle.laws.specs.All.{All}
use Rattle.laws.specs.Tabulate.{tabulate}
use Rattle.forming_predictions.specs.declared.FieldParity.{FieldParity}
use Rattle.forming_predictions.specs.declared.FieldParity.TheVariants.{Top, Bottom}
use Rattle.pmv.specs.declared.kinds.ChromaFormat.TheVariants.{Yuv420, Yuv422}
use Rattle.inter_reconstruction.specs.Components.{ColourComponent, luma, cb, cr}
use Rattle.inter_reconstruction.specs.declared.frames.FrameGeometry.{FrameGeometry}
use Rattle.inter_reconstruction.specs.Refusals.{prediction_number}
use Rattle.inter_reconstruction.specs.Placing.{placing_number}
use Rattle.inter_reconstruction.specs.declared.motion.MotionVectorPel.{MotionVectorPel}
use Rattle.inter_reconstruction.specs.declared.motion.FieldVector.{FieldVector}
use Rattle.inter_reconstruction.specs.declared.motion.FieldVectorPair.{FieldVectorPair}
use Rattle.drift.specs.Steps.{Step, frame_based, field_based, Pictures, step_prediction_refusal, step_placing_refusal, after_steps}
use Rattle.drift.specs.Unrounded.{table_refusal, fitting_lengths, after_unrounded_steps, in_units}

-- ---- the pictures: two macroblocks side by side in 4:2:2, and one above the other in 4:2:0

abbrev pub wide : FrameGeometry
wide = record { width = 32; height = 16; chroma_format = Yuv422 }

abbrev pub high : FrameGeometry
high = record { width = 16; height = 32; chroma_format = Yuv420 }

abbrev pub PlaneLengths : Type 0
PlaneLengths =
    (fitting_lengths wide luma ≡ 512) × (fitting_lengths wide cb ≡ 256) × (fitting_lengths high luma ≡ 512) × (fitting_lengths high cr ≡ 128)

-- 1000 more from one plane to the next, and 4001 from one picture to the next
abbrev pub numbered : FrameGeometry → Pictures
numbered g n luma = tabulate (fitting_lengths g luma) (λ (i : ℕ). 4001 * n + i)
numbered g n cb = tabulate (fitting_lengths g cb) (λ (i : ℕ). 4001 * n + 1000 + i)
numbered g n cr = tabulate (fitting_lengths g cr) (λ (i : ℕ). 4001 * n + 2000 + i)

-- ---- the steps: picture n's cell, predicted from the forward and the backward reference

abbrev pub step : ℕ → Option ℕ → Option ℕ → ℕ → ℕ → Option MotionVectorPel → Option MotionVectorPel → Step
step n f b x y df db =
    record { target = n; forward = f; backward = b; column = x; row = y; motion = frame_based (record { forward = df; backward = db }) }

abbrev pub field_step : ℕ → Option ℕ → Option ℕ → ℕ → ℕ → Option FieldVectorPair → Option FieldVectorPair → Step
field_step n f b x y df db =
    record { target = n; forward = f; backward = b; column = x; row = y; motion = field_based (record { forward = df; backward = db }) }

-- by vectors of 0
abbrev pub still : Option MotionVectorPel
still = Some (record { horizontal = pos 0; vertical = pos 0 })

-- a field's vector, and the field that it reads
abbrev pub by : ℤ → ℤ → FieldParity → FieldVector
by horizontal vertical parity = record { vector = record { horizontal = horizontal; vertical = vertical }; reference_field = parity }

-- two pairs of vectors, no two alike: in half samples of the luminance (2, 3) and (-3, -5), (-1, 4) and (5, -2). In the first each field reads the
-- other one, in the second both read the bottom field
abbrev pub crossing : Option FieldVectorPair
crossing = Some (record { top = by (pos 2) (pos 3) Bottom; bottom = by (negsuc 2) (negsuc 4) Top })

abbrev pub bottoms : Option FieldVectorPair
bottoms = Some (record { top = by (negsuc 0) (pos 4) Bottom; bottom = by (pos 5) (negsuc 1) Bottom })

-- ---- what steps leave at index i of picture n: the sample, and the unrounded number, in units of which a grey step has 8 to the power n

pub record Left : Type 0 where
  pub g : FrameGeometry
  pub steps : List Step
  pub n : ℕ
  pub c : ColourComponent
  pub i : ℕ
  pub sample : ℕ
  pub unrounded : ℕ

abbrev pub Leaves : Left → Type 0
Leaves l =
    (get_or (after_steps l.g l.steps (numbered l.g) l.n l.c) l.i 0 ≡ l.sample)
    × (get_or (after_unrounded_steps l.g l.steps (in_units (numbered l.g)) l.n l.c) l.i 0 ≡ l.unrounded)

abbrev pub left : FrameGeometry → List Step → ℕ → ColourComponent → ℕ → ℕ → ℕ → Left
left g steps n c i sample unrounded = record { g = g; steps = steps; n = n; c = c; i = i; sample = sample; unrounded = unrounded }

-- vectors of 0, so that each sample can be told without computing a prediction: a copy of the forward reference, which is what no motion means;
-- of the backward one; a copy of a copy; the mean of both, where 3255 1/2 becomes 3256; of both directions with one reference, a copy of that
-- one; and the lower of two macroblocks
abbrev pub copies : List Left
copies =
    left wide (step 1 (Some 0) None 1 0 None None ∷ []) 1 luma 511 511 (8 * 511)
    ∷ left wide (step 2 None (Some 0) 1 0 None still ∷ []) 2 cr 255 2255 (64 * 2255)
    ∷ left wide (step 1 (Some 0) None 1 0 None None ∷ step 2 (Some 1) None 1 0 still None ∷ []) 2 cb 255 1255 (64 * 1255)
    ∷ left wide (step 2 (Some 0) (Some 1) 1 0 still still ∷ []) 2 cb 255 3256 (32 * (1255 + 5256))
    ∷ left wide (step 2 (Some 0) None 1 0 still still ∷ []) 2 cb 255 1255 (64 * 1255)
    ∷ left wide (step 2 None (Some 0) 1 0 still still ∷ []) 2 cr 255 2255 (64 * 2255)
    ∷ left high (step 1 (Some 0) None 0 1 None None ∷ []) 1 cb 127 1127 (8 * 1127)
    ∷ left high (step 2 (Some 0) (Some 1) 0 1 still still ∷ []) 2 cr 127 4128 (32 * (2127 + 6128))
    ∷ []

-- field-based steps from both references, in odd rows by the bottom fields' vectors, and in row 8 of the last by the top fields'. A sample's
-- number is its place, so that the unrounded number says where is read: four samples once, two twice each, one four times. Row 31 is line 15 of
-- the bottom field: forward (-3, -5) leads to columns 7 and 8 of lines 12 and 13 of the top field, rows 24 and 26; backward (5, -2) to columns 11
-- and 12 of line 14 of the bottom field, row 29.
abbrev pub by_fields : List Left
by_fields =
    -- row 31 and column 9 of the luminance; row 11 of Cb and row 15 of Cr, by (-1, -2) and (2, -1)
    left high (field_step 2 (Some 0) (Some 1) 0 1 crossing bottoms ∷ []) 2 luma 505 2443 (8 * (391 + 392 + 423 + 424 + 2 * (4476 + 4477)))
    ∷ left high (field_step 2 (Some 0) (Some 1) 0 1 crossing bottoms ∷ []) 2 cb 92 3077 (8 * (2 * (1067 + 1068) + 2 * (5078 + 5094)))
    ∷ left high (field_step 2 (Some 0) (Some 1) 0 1 crossing bottoms ∷ []) 2 cr 125 4110 (8 * (2 * (2100 + 2101) + 2 * (6111 + 6127)))
    -- row 8 of Cb in 4:2:2, by (1, 3) and (0, 4)
    ∷ left wide (field_step 2 (Some 0) (Some 1) 1 0 crossing bottoms ∷ []) 2 cb 140 3213 (8 * (1188 + 1189 + 1220 + 1221 + 4 * 5221))
    -- of both directions one reference, by its own pair of vectors: the sample of the first row, forward alone and backward alone
    ∷ left high (field_step 2 (Some 0) None 0 1 crossing bottoms ∷ []) 2 luma 505 408 (2 * 8 * (391 + 392 + 423 + 424))
    ∷ left high (field_step 2 None (Some 1) 0 1 crossing bottoms ∷ []) 2 luma 505 4477 (2 * 8 * (2 * (4476 + 4477)))
    ∷ []

-- ---- what is refused in the wide pictures, by its number, 0 for nothing: by the table, by the prediction and by placing

pub record Refused : Type 0 where
  pub step : Step
  pub table : ℕ
  pub predicting : ℕ
  pub placing : ℕ

abbrev pub Refuses : Refused → Type 0
Refuses r =
    (unwrap_or (table_refusal wide r.step) 0 ≡ r.table)
    × (refusal_number prediction_number (step_prediction_refusal wide r.step (numbered wide)) ≡ r.predicting)
    × (refusal_number placing_number (step_placing_refusal wide r.step (numbered wide)) ≡ r.placing)

abbrev pub refused : Step → ℕ → ℕ → ℕ → Refused
refused s table predicting placing = record { step = s; table = table; predicting = predicting; placing = placing }

-- without the one reference that is used, and without both of two; with one of two, which is refused by nothing; a position that is too far; a cell
-- outside the picture
abbrev pub refusals : List Refused
refusals =
    refused (step 2 None (Some 1) 0 0 None None) 16 16 0
    ∷ refused (step 2 (Some 0) None 0 0 None still) 17 17 0
    ∷ refused (step 2 None None 0 0 still still) 16 16 0
    ∷ refused (step 2 (Some 0) None 0 0 still still) 0 0 0
    ∷ refused (step 2 None (Some 1) 0 0 still still) 0 0 0
    ∷ refused (step 2 (Some 0) (Some 1) 1024 0 None None) 13 13 20
    ∷ refused (step 2 (Some 0) (Some 1) 0 1024 None None) 13 13 20
    ∷ refused (step 2 (Some 0) (Some 1) 2 0 still still) 20 0 20
    ∷ refused (step 2 (Some 0) (Some 1) 1 1 still still) 20 0 20
    ∷ []

-- ---- what is claimed: every row of the three lists

abbrev pub StepsHold : Type 0
StepsHold = PlaneLengths × All Leaves copies × All Leaves by_fields × All Refuses refusals
