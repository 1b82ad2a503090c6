-- The kinds that this layer's calls choose by. docs/SCOPE.md counts them from 0 in the order of the Rust's enums where they cross to C, and
-- any other number has no meaning. `x_number` is the number of a kind, `x_from` the kind of a number, if there is one; proofs/Numbers.antt
-- shows that each undoes the other. Component and PictureCodingType cross in no C call, and have no `x_from`; flags are only read, and have no
-- `x_number`. Those of parities are forming_predictions'.
-- The standard has the kinds: r, s and t in Table 7-7, the motion types in Tables 6-17 and 6-18, and picture_structure, picture_coding_type and
-- chroma_format, whose codes are others.
use Rattle.std.specs.Prelude.{Bool, true, false, cond, ℕ, eqb, Option, Some, None}
use Rattle.pmv.specs.declared.kinds.Component.{Component}
use Rattle.pmv.specs.declared.kinds.Direction.{Direction}
use Rattle.pmv.specs.declared.kinds.VectorIndex.{VectorIndex}
use Rattle.pmv.specs.declared.kinds.MvFormat.{MvFormat}
use Rattle.pmv.specs.declared.kinds.PictureStructure.{PictureStructure}
use Rattle.pmv.specs.declared.kinds.PredictionType.{PredictionType}
use Rattle.pmv.specs.declared.kinds.PictureCodingType.{PictureCodingType}
use Rattle.pmv.specs.declared.kinds.ChromaFormat.{ChromaFormat}

-- t of Table 7-7
abbrev pub component_number : Component → ℕ
component_number Component.Horizontal = 0
component_number Component.Vertical = 1

-- s of Table 7-7
abbrev pub direction_number : Direction → ℕ
direction_number Direction.Forward = 0
direction_number Direction.Backward = 1

abbrev pub direction_from : ℕ → Option Direction
direction_from n =
    cond (eqb n 0) (Some Direction.Forward)
    (cond (eqb n 1) (Some Direction.Backward)
    None)

-- r of Table 7-7
abbrev pub index_number : VectorIndex → ℕ
index_number VectorIndex.First = 0
index_number VectorIndex.Second = 1

abbrev pub index_from : ℕ → Option VectorIndex
index_from n =
    cond (eqb n 0) (Some VectorIndex.First)
    (cond (eqb n 1) (Some VectorIndex.Second)
    None)

-- mv_format
abbrev pub format_number : MvFormat → ℕ
format_number MvFormat.Field = 0
format_number MvFormat.Frame = 1

abbrev pub format_from : ℕ → Option MvFormat
format_from n =
    cond (eqb n 0) (Some MvFormat.Field)
    (cond (eqb n 1) (Some MvFormat.Frame)
    None)

-- picture_structure: these are not the stream's codes
abbrev pub structure_number : PictureStructure → ℕ
structure_number PictureStructure.TopField = 0
structure_number PictureStructure.BottomField = 1
structure_number PictureStructure.Frame = 2

abbrev pub structure_from : ℕ → Option PictureStructure
structure_from n =
    cond (eqb n 0) (Some PictureStructure.TopField)
    (cond (eqb n 1) (Some PictureStructure.BottomField)
    (cond (eqb n 2) (Some PictureStructure.Frame)
    None))

-- frame_motion_type or field_motion_type: these are not the stream's codes
abbrev pub type_number : PredictionType → ℕ
type_number PredictionType.FieldBased = 0
type_number PredictionType.FrameBased = 1
type_number PredictionType.SixteenByEight = 2
type_number PredictionType.DualPrime = 3

abbrev pub type_from : ℕ → Option PredictionType
type_from n =
    cond (eqb n 0) (Some PredictionType.FieldBased)
    (cond (eqb n 1) (Some PredictionType.FrameBased)
    (cond (eqb n 2) (Some PredictionType.SixteenByEight)
    (cond (eqb n 3) (Some PredictionType.DualPrime)
    None)))

-- picture_coding_type: these are not the stream's codes
abbrev pub coding_number : PictureCodingType → ℕ
coding_number PictureCodingType.Intra = 0
coding_number PictureCodingType.Predictive = 1
coding_number PictureCodingType.Bidirectional = 2
coding_number PictureCodingType.DcIntra = 3

-- chroma_format: these are not the stream's codes
abbrev pub chroma_number : ChromaFormat → ℕ
chroma_number ChromaFormat.Yuv420 = 0
chroma_number ChromaFormat.Yuv422 = 1
chroma_number ChromaFormat.Yuv444 = 2

abbrev pub chroma_from : ℕ → Option ChromaFormat
chroma_from n =
    cond (eqb n 0) (Some ChromaFormat.Yuv420)
    (cond (eqb n 1) (Some ChromaFormat.Yuv422)
    (cond (eqb n 2) (Some ChromaFormat.Yuv444)
    None))

-- yes or no
abbrev pub flag_from : ℕ → Option Bool
flag_from n =
    cond (eqb n 0) (Some false)
    (cond (eqb n 1) (Some true)
    None)

-- ---- tests

abbrev pub is_vertical : Component → Bool
is_vertical Component.Horizontal = false
is_vertical Component.Vertical = true

abbrev pub is_field_format : MvFormat → Bool
is_field_format MvFormat.Field = true
is_field_format MvFormat.Frame = false

-- a frame picture, not a field picture
abbrev pub is_frame_picture : PictureStructure → Bool
is_frame_picture PictureStructure.TopField = false
is_frame_picture PictureStructure.BottomField = false
is_frame_picture PictureStructure.Frame = true

-- a P or B picture
abbrev pub is_inter_picture : PictureCodingType → Bool
is_inter_picture PictureCodingType.Intra = false
is_inter_picture PictureCodingType.Predictive = true
is_inter_picture PictureCodingType.Bidirectional = true
is_inter_picture PictureCodingType.DcIntra = false
