-- ISO/IEC 13818-2, 7.6.3.3: what becomes of the predictors after a macroblock's vectors, by Table 7-10 for frame pictures and Table 7-11 for
-- field pictures; and 7.7.5.1, the reset of a macroblock that is predicted spatially alone.
-- The scope (docs/SCOPE.md): what has no row is refused, 7, then 8, 9, 10, then 11 or 12; an absent type is refused, where the tables'
-- footnotes assume one; the outcomes have names, and numbers in the order of the Rust's enum.
use Rattle.std.specs.Prelude.{Bool, true, false, not, ◌&&◌, ◌||◌, cond, ℕ, eqb, Option, Some, None}
use Rattle.combine_predictions.specs.Refusals.{cause, answered, unless_refused}
use Rattle.pmv.specs.Kinds.{is_frame_picture, is_inter_picture}
use Rattle.pmv.specs.Predictors.{zeroed, first_copied}
use Rattle.pmv.specs.declared.kinds.Direction.TheVariants.{Forward, Backward}
use Rattle.pmv.specs.declared.kinds.PredictionType.{PredictionType}
use Rattle.pmv.specs.declared.kinds.PredictionType.TheVariants.{FieldBased, FrameBased, SixteenByEight, DualPrime}
use Rattle.pmv.specs.declared.kinds.PictureCodingType.{PictureCodingType}
use Rattle.pmv.specs.declared.predictors.Pmv.{Pmv}
use Rattle.pmv.specs.declared.update.PmvUpdateContext.{PmvUpdateContext}
use Rattle.pmv.specs.declared.update.PmvUpdateOutcome.{PmvUpdateOutcome}
use Rattle.pmv.specs.declared.update.PmvUpdateOutcome.TheVariants.{IntraConcealmentCopyForwardFirst, IntraResetAll, NonIntraCopyBoth, NonIntraCopyForward, NonIntraCopyBackward, NonIntraZeroMotionReset, NoUpdate, DualPrimeCopyForward}
use Rattle.pmv.specs.declared.update.UpdateRefusal.{UpdateRefusal}
use Rattle.pmv.specs.declared.update.UpdateRefusal.TheVariants.{IntraWithMotion, TypeMissing, FrameBasedInField, SixteenByEightInFrame, DualPrimeFlags, NoneRowFlags}
use Rattle.pmv.specs.declared.update.PredictorUpdate.{PredictorUpdate}
use Rattle.pmv.specs.declared.update.SpatialTemporalReset.{SpatialTemporalReset}

-- the rows that a motion type has in a table, for macroblocks that are not intra
pub data Rows : Type 0 where
  -- first to second in each flagged direction, all zero where none is
  copying : Rows
  -- "(none)", in each flagged direction; there is no row without a flag
  unchanged : Rows
  -- first to second, forward; there is a row for forward alone
  dual_prime : Rows
  -- no row; the refusal
  no_rows : UpdateRefusal → Rows

-- Table 7-10 where the picture is a frame picture, else Table 7-11
abbrev pub rows_of : Bool → PredictionType → Rows
rows_of true FrameBased = copying
rows_of true FieldBased = unchanged
rows_of true SixteenByEight = no_rows SixteenByEightInFrame
rows_of true DualPrime = dual_prime
rows_of false FieldBased = copying
rows_of false SixteenByEight = unchanged
rows_of false FrameBased = no_rows FrameBasedInField
rows_of false DualPrime = dual_prime

-- the row with these flags, macroblock_motion_forward and macroblock_motion_backward, is not there
abbrev pub row_refusal : Rows → Bool → Bool → Option UpdateRefusal
row_refusal copying f b = None
row_refusal unchanged f b = cause (not (f || b)) NoneRowFlags
row_refusal dual_prime f b = cause (not (f && not b)) DualPrimeFlags
row_refusal (no_rows r) f b = Some r

abbrev pub copy_outcome : Bool → Bool → PmvUpdateOutcome
copy_outcome true true = NonIntraCopyBoth
copy_outcome true false = NonIntraCopyForward
copy_outcome false true = NonIntraCopyBackward
copy_outcome false false = NonIntraZeroMotionReset

-- what the row says; where there is none, the refusal is what counts
abbrev pub row_outcome : Rows → Bool → Bool → PmvUpdateOutcome
row_outcome copying f b = copy_outcome f b
row_outcome unchanged f b = NoUpdate
row_outcome dual_prime f b = DualPrimeCopyForward
row_outcome (no_rows r) f b = NoUpdate

-- the intra row: with concealment_motion_vectors, forward first to second, and all zero without
abbrev pub intra_outcome : Bool → PmvUpdateOutcome
intra_outcome true = IntraConcealmentCopyForwardFirst
intra_outcome false = IntraResetAll

-- a macroblock that is not intra: 8; 9 or 10; 11 or 12. The tables' footnote assumes frame-based or field-based motion where the type is
-- absent; that it is refused is the scope's
abbrev pub inter_refusal : Bool → Option PredictionType → Bool → Bool → Option UpdateRefusal
inter_refusal frame None f b = Some TypeMissing
inter_refusal frame (Some t) f b = row_refusal (rows_of frame t) f b

abbrev pub inter_outcome : Bool → Option PredictionType → Bool → Bool → PmvUpdateOutcome
inter_outcome frame None f b = NoUpdate
inter_outcome frame (Some t) f b = row_outcome (rows_of frame t) f b

-- frame picture, type, forward, backward, intra: 7, then the others
unfoldable pub decided_refusal : Bool → Option PredictionType → Bool → Bool → Bool → Option UpdateRefusal
decided_refusal frame type f b true = cause (f || b) IntraWithMotion
decided_refusal frame type f b false = inter_refusal frame type f b

-- and concealment
unfoldable pub decided_outcome : Bool → Option PredictionType → Bool → Bool → Bool → Bool → PmvUpdateOutcome
decided_outcome frame type f b true c = intra_outcome c
decided_outcome frame type f b false c = inter_outcome frame type f b

abbrev pub update_refusal : PmvUpdateContext → Option UpdateRefusal
update_refusal x =
    decided_refusal (is_frame_picture x.picture_structure) x.prediction_type x.macroblock_motion_forward
    x.macroblock_motion_backward x.macroblock_intra

abbrev pub update_outcome : PmvUpdateContext → PmvUpdateOutcome
update_outcome x =
    decided_outcome (is_frame_picture x.picture_structure) x.prediction_type x.macroblock_motion_forward
    x.macroblock_motion_backward x.macroblock_intra x.concealment_motion_vectors

-- the outcome's number, counted from 0 in the order of the Rust's enum
abbrev pub outcome_number : PmvUpdateOutcome → ℕ
outcome_number IntraConcealmentCopyForwardFirst = 0
outcome_number IntraResetAll = 1
outcome_number NonIntraCopyBoth = 2
outcome_number NonIntraCopyForward = 3
outcome_number NonIntraCopyBackward = 4
outcome_number NonIntraZeroMotionReset = 5
outcome_number NoUpdate = 6
outcome_number DualPrimeCopyForward = 7

-- what each outcome does to the predictors
abbrev pub after : PmvUpdateOutcome → Pmv → Pmv
after IntraConcealmentCopyForwardFirst pmv = first_copied Forward pmv
after IntraResetAll pmv = zeroed
after NonIntraCopyBoth pmv = first_copied Backward (first_copied Forward pmv)
after NonIntraCopyForward pmv = first_copied Forward pmv
after NonIntraCopyBackward pmv = first_copied Backward pmv
after NonIntraZeroMotionReset pmv = zeroed
after NoUpdate pmv = pmv
after DualPrimeCopyForward pmv = first_copied Forward pmv

unfoldable pub updated : Pmv → PmvUpdateContext → PredictorUpdate
updated pmv x =
    record {
      answer = answered (update_refusal x) (update_outcome x);
      pmv = unless_refused (update_refusal x) (after (update_outcome x) pmv) pmv;
    }

-- ---- 7.7.5.1

-- spatial_temporal_weight_class == 4 in a P or B picture
abbrev pub resets_predictors : PictureCodingType → ℕ → Bool
resets_predictors type class = eqb class 4 && is_inter_picture type

unfoldable pub spatial_temporal_reset : Pmv → PictureCodingType → ℕ → SpatialTemporalReset
spatial_temporal_reset pmv type class =
    record { applied = resets_predictors type class; pmv = cond (resets_predictors type class) zeroed pmv }
