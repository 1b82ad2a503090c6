-- What the functions on blocks ask, and what they give. For private contracts alone.
-- The scope (docs/SCOPE.md): field motion as two blocks, each of half the rows, that are interleaved.
use Rattle.std.specs.Prelude.{◌≡◌, true, List, ◌++◌, ℕ, ◌+◌, ◌*◌, ◌/◌, ◌%◌, ◌≤◌, ◌<◌, get_or, length}
use Rattle.combine_predictions.specs.declared.PredictionDirection.{PredictionDirection}
use Rattle.combine_predictions.specs.declared.PredictionDirection.TheVariants.{Forward, Backward, Skipped}
use Rattle.forming_predictions.specs.Refusals.{plane_fits}
use Rattle.forming_predictions.specs.declared.PlaneSides.{PlaneSides}
use Rattle.forming_predictions.specs.declared.ReferencePlane.{ReferencePlane}
use Rattle.forming_predictions.specs.Means.{rounded}
use Rattle.inter_reconstruction.specs.declared.motion.FieldVectorPair.{FieldVectorPair}
use Rattle.inter_reconstruction.specs.Frames.{PlaneReading}
use Rattle.inter_reconstruction.specs.Macroblock.{field_sample, rectangle}

-- a plane with its samples is in the domain
abbrev pub PlaneFits : PlaneSides → List ℕ → Type 0
PlaneFits p samples = plane_fits p.width p.height (length samples) ≡ true

-- and a plane that holds them
abbrev pub Readable : ReferencePlane → Type 0
Readable p = PlaneFits p.sides p.samples.now

-- a block at column x and row y that prediction takes
pub record AreaFits (x y w h : ℕ) : Type 0 where
  pub left : x ≤ 16368
  pub top : y ≤ 16368
  pub some : 0 < w
  pub wide : w ≤ 16
  pub eights : w % 8 ≡ 0
  pub tall : 0 < h
  pub high : h ≤ 16

-- it has as many rows of the one field as of the other, and a row of the top field first
pub record FieldRows (y h : ℕ) : Type 0 where
  pub first : y % 2 ≡ 0
  pub even : h % 2 ≡ 0

-- the lines of both fields
unfoldable pub field_halves : PlaneReading → FieldVectorPair → ℕ → ℕ → ℕ → ℕ → List ℕ
field_halves read p w h x line =
    rectangle w h (field_sample rounded read p.top) x line
    ++ rectangle w h (field_sample rounded read p.bottom) x line

-- row r of a frame, in two field blocks of h rows, one after the other
abbrev pub field_row : ℕ → ℕ → ℕ
field_row h r = r % 2 * h + r / 2

-- sample k of the frame, in those blocks of w columns
unfoldable pub interleaved_cell : List ℕ → ℕ → ℕ → ℕ → ℕ
interleaved_cell halves w h k = get_or halves (field_row h (k / w) * w + k % w) 0

-- how many bytes of n the forward prediction has, where there is one direction alone
abbrev pub forward_bytes : PredictionDirection → ℕ → ℕ
forward_bytes Forward n = n
forward_bytes Backward n = 0
forward_bytes Skipped n = n

-- the chrominance's sides, for all formats
pub record ChromaSides (w h : ℕ) : Type 0 where
  pub wide_lo : 8 ≤ w
  pub wide : w ≤ 16
  pub eights : w % 8 ≡ 0
  pub high_lo : 8 ≤ h
  pub high : h ≤ 16
  pub even : h % 2 ≡ 0
