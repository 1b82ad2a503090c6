-- The rows as the code has them: bytes of a constant table, what a byte stands for, and the two rows that are decided beside the table.
-- proofs/Rows.antt has that all this agrees with the rule. For private contracts alone.
-- The scope (docs/SCOPE.md): one constant table of 64 outcomes, here by picture, type, forward, backward and intra; concealment and an
-- absent type beside it.
use Rattle.std.specs.Prelude.{Bool, true, false, not, ◌&&◌, ◌||◌, cond, List, [], ◌∷◌, ℕ, ◌+◌, ◌*◌, ◌%◌, eqb, ℤ, pos, get_or, Option, is_none, unwrap_or, Result, Ok, Err}
use Rattle.std.specs.Int.Bits.{bit_and}
use Rattle.pmv.specs.Kinds.{type_number, is_frame_picture}
use Rattle.pmv.specs.declared.kinds.PredictionType.{PredictionType}
use Rattle.pmv.specs.declared.kinds.PredictionType.TheVariants.{FieldBased}
use Rattle.pmv.specs.declared.predictors.Pmv.{Pmv}
use Rattle.pmv.specs.declared.update.PmvUpdateContext.{PmvUpdateContext}
use Rattle.pmv.specs.declared.update.PmvUpdateOutcome.{PmvUpdateOutcome}
use Rattle.pmv.specs.declared.update.PmvUpdateOutcome.TheVariants as O
use Rattle.pmv.specs.declared.update.UpdateRefusal.{UpdateRefusal}
use Rattle.pmv.specs.declared.update.UpdateRefusal.TheVariants as R

-- ---- the table: a line for each picture and type
unfoldable pub outcomes : List ℕ
outcomes =
    69 ∷ 65 ∷ 36 ∷ 8 ∷ 19 ∷ 8 ∷ 50 ∷ 8
    ∷ 10 ∷ 65 ∷ 10 ∷ 8 ∷ 10 ∷ 8 ∷ 10 ∷ 8
    ∷ 13 ∷ 65 ∷ 6 ∷ 8 ∷ 6 ∷ 8 ∷ 6 ∷ 8
    ∷ 12 ∷ 65 ∷ 12 ∷ 8 ∷ 23 ∷ 8 ∷ 12 ∷ 8
    ∷ 13 ∷ 65 ∷ 6 ∷ 8 ∷ 6 ∷ 8 ∷ 6 ∷ 8
    ∷ 69 ∷ 65 ∷ 36 ∷ 8 ∷ 19 ∷ 8 ∷ 50 ∷ 8
    ∷ 11 ∷ 65 ∷ 11 ∷ 8 ∷ 11 ∷ 8 ∷ 11 ∷ 8
    ∷ 12 ∷ 65 ∷ 12 ∷ 8 ∷ 23 ∷ 8 ∷ 12 ∷ 8
    ∷ []

-- a flag, to be counted with
abbrev pub flag_number : Bool → ℕ
flag_number false = 0
flag_number true = 1

abbrev pub table_row : Bool → PredictionType → Bool → Bool → Bool → ℕ
table_row p t f b i = get_or outcomes ((flag_number p * 32 + type_number t * 8) + (flag_number f * 4 + flag_number b * 2 + flag_number i)) 0

-- ---- beside it
-- frame picture, type, forward, backward, intra, concealment
unfoldable pub row_for : Bool → Option PredictionType → Bool → Bool → Bool → Bool → ℕ
row_for frame type f b i c =
    cond ((c && i) && not (f || b)) 16 (cond (is_none type && not i) 9 (table_row frame (unwrap_or type FieldBased) f b i))

abbrev pub decided_row : PmvUpdateContext → ℕ
decided_row x =
    row_for (is_frame_picture x.picture_structure) x.prediction_type x.macroblock_motion_forward
    x.macroblock_motion_backward x.macroblock_intra x.concealment_motion_vectors

-- ---- what a row stands for
unfoldable pub answers : List (Result PmvUpdateOutcome UpdateRefusal)
answers =
    Ok O.IntraConcealmentCopyForwardFirst
    ∷ Ok O.IntraResetAll
    ∷ Ok O.NonIntraCopyBoth
    ∷ Ok O.NonIntraCopyForward
    ∷ Ok O.NonIntraCopyBackward
    ∷ Ok O.NonIntraZeroMotionReset
    ∷ Ok O.NoUpdate
    ∷ Ok O.DualPrimeCopyForward
    ∷ Err R.IntraWithMotion
    ∷ Err R.TypeMissing
    ∷ Err R.FrameBasedInField
    ∷ Err R.SixteenByEightInFrame
    ∷ Err R.DualPrimeFlags
    ∷ Err R.NoneRowFlags
    ∷ Err R.NoneRowFlags
    ∷ Err R.NoneRowFlags
    ∷ []

abbrev pub answer_at : ℕ → Result PmvUpdateOutcome UpdateRefusal
answer_at k = get_or answers k (Ok O.IntraConcealmentCopyForwardFirst)

abbrev pub answer_of : ℕ → Result PmvUpdateOutcome UpdateRefusal
answer_of row = answer_at (row % 16)

-- and does: whether it has a bit
abbrev pub has : ℕ → ℕ → Bool
has row bit = not (eqb (bit_and row bit) 0)

-- all zero, forward, backward
unfoldable pub written : Bool → Bool → Bool → List ℤ → List ℤ
written zero f b l =
    cond zero (pos 0) (get_or l 0 (pos 0))
    ∷ cond zero (pos 0) (get_or l 1 (pos 0))
    ∷ cond zero (pos 0) (get_or l 2 (pos 0))
    ∷ cond zero (pos 0) (get_or l 3 (pos 0))
    ∷ cond zero (pos 0) (cond f (get_or l 0 (pos 0)) (get_or l 4 (pos 0)))
    ∷ cond zero (pos 0) (cond f (get_or l 1 (pos 0)) (get_or l 5 (pos 0)))
    ∷ cond zero (pos 0) (cond b (get_or l 2 (pos 0)) (get_or l 6 (pos 0)))
    ∷ cond zero (pos 0) (cond b (get_or l 3 (pos 0)) (get_or l 7 (pos 0)))
    ∷ []

abbrev pub carried_out : ℕ → Pmv → Pmv
carried_out row pmv = record { values = written (has row 64) (has row 16) (has row 32) pmv.values }
