-- Numbers and kinds: each way undoes the other, and the indices of a predictor are 0 or 1.
-- Assumes nothing.
use mathlib.Core.Path.{◌≡◌, refl}
use mathlib.Core.Bool.{true, false}
use Prim.Native.Nat.{ℕ, ◌≤◌}
use native.Mathlib.Omega.{arith}
use borrow.Author.Tests.{ne_eqb}
use Rattle.std.specs.Prelude.{Some, None}
use Rattle.pmv.specs.Kinds.{component_number, direction_number, direction_from, index_number, index_from, format_number, format_from, structure_number, structure_from, type_number, type_from, chroma_number, chroma_from, flag_from}
use Rattle.pmv.specs.declared.kinds.Component.{Component}
use Rattle.pmv.specs.declared.kinds.Component.TheVariants.{Horizontal, Vertical}
use Rattle.pmv.specs.declared.kinds.Direction.{Direction}
use Rattle.pmv.specs.declared.kinds.VectorIndex.{VectorIndex}
use Rattle.pmv.specs.declared.kinds.MvFormat.{MvFormat}
use Rattle.pmv.specs.declared.kinds.PictureStructure.{PictureStructure}
use Rattle.pmv.specs.declared.kinds.PredictionType.{PredictionType}
use Rattle.pmv.specs.declared.kinds.ChromaFormat.{ChromaFormat}

-- ---- the indices of a predictor
pub component_le : (t : Component) → component_number t ≤ 1
component_le Horizontal = omega arith
component_le Vertical = omega arith

pub direction_le : (s : Direction) → direction_number s ≤ 1
direction_le Direction.Forward = omega arith
direction_le Direction.Backward = omega arith

pub index-le : (r : VectorIndex) → index_number r ≤ 1
index-le VectorIndex.First = omega arith
index-le VectorIndex.Second = omega arith

-- ---- a kind's number means the kind; a larger number means none
pub direction_back : (k : Direction) → direction_from (direction_number k) ≡ Some k
direction_back Direction.Forward = refl
direction_back Direction.Backward = refl

pub direction_none : (n : ℕ) → 2 ≤ n → direction_from n ≡ None
direction_none n h = rw (ne_eqb n 0 (λ e. absurd (omega arith)), ne_eqb n 1 (λ e. absurd (omega arith)))

pub index_back : (k : VectorIndex) → index_from (index_number k) ≡ Some k
index_back VectorIndex.First = refl
index_back VectorIndex.Second = refl

pub index-none : (n : ℕ) → 2 ≤ n → index_from n ≡ None
index-none n h = rw (ne_eqb n 0 (λ e. absurd (omega arith)), ne_eqb n 1 (λ e. absurd (omega arith)))

pub format_back : (k : MvFormat) → format_from (format_number k) ≡ Some k
format_back MvFormat.Field = refl
format_back MvFormat.Frame = refl

pub format_none : (n : ℕ) → 2 ≤ n → format_from n ≡ None
format_none n h = rw (ne_eqb n 0 (λ e. absurd (omega arith)), ne_eqb n 1 (λ e. absurd (omega arith)))

pub structure_back : (k : PictureStructure) → structure_from (structure_number k) ≡ Some k
structure_back PictureStructure.TopField = refl
structure_back PictureStructure.BottomField = refl
structure_back PictureStructure.Frame = refl

pub structure_none : (n : ℕ) → 3 ≤ n → structure_from n ≡ None
structure_none n h = rw (ne_eqb n 0 (λ e. absurd (omega arith)), ne_eqb n 1 (λ e. absurd (omega arith)), ne_eqb n 2 (λ e. absurd (omega arith)))

pub type_back : (k : PredictionType) → type_from (type_number k) ≡ Some k
type_back PredictionType.FieldBased = refl
type_back PredictionType.FrameBased = refl
type_back PredictionType.SixteenByEight = refl
type_back PredictionType.DualPrime = refl

pub type_none : (n : ℕ) → 4 ≤ n → type_from n ≡ None
type_none n h = rw (ne_eqb n 0 (λ e. absurd (omega arith)), ne_eqb n 1 (λ e. absurd (omega arith)), ne_eqb n 2 (λ e. absurd (omega arith)), ne_eqb n 3 (λ e. absurd (omega arith)))

pub chroma_back : (k : ChromaFormat) → chroma_from (chroma_number k) ≡ Some k
chroma_back ChromaFormat.Yuv420 = refl
chroma_back ChromaFormat.Yuv422 = refl
chroma_back ChromaFormat.Yuv444 = refl

pub chroma_none : (n : ℕ) → 3 ≤ n → chroma_from n ≡ None
chroma_none n h = rw (ne_eqb n 0 (λ e. absurd (omega arith)), ne_eqb n 1 (λ e. absurd (omega arith)), ne_eqb n 2 (λ e. absurd (omega arith)))

pub flag_back : (flag_from 0 ≡ Some false) × (flag_from 1 ≡ Some true)
flag_back = (refl, refl)

pub flag_none : (n : ℕ) → 2 ≤ n → flag_from n ≡ None
flag_none n h = rw (ne_eqb n 0 (λ e. absurd (omega arith)), ne_eqb n 1 (λ e. absurd (omega arith)))
