-- ISO/IEC 13818-2, 7.6.4 to 7.6.7: the predicted samples of a macroblock of a frame picture, over the arithmetic of means.
-- The scope (docs/SCOPE.md): a macroblock past the picture's edge is formed too, by clamping; field motion as two interleaved blocks, which
-- is proved to be this.
use Rattle.std.specs.Prelude.{List, ◌++◌, ℕ, ◌+◌, ◌*◌, ◌/◌, ◌%◌, pos}
use Rattle.laws.specs.Tabulate.{tabulate}
use Rattle.forming_predictions.specs.Lines.{frame, field}
use Rattle.forming_predictions.specs.Means.{Means}
use Rattle.forming_predictions.specs.Forming.{formed}
use Rattle.pmv.specs.declared.kinds.ChromaFormat.{ChromaFormat}
use Rattle.inter_reconstruction.specs.Components.{ColourComponent, luma, cb, cr, block_width, block_height}
use Rattle.inter_reconstruction.specs.Motion.{uses_of, field_vector_of}
use Rattle.inter_reconstruction.specs.Frames.{PlaneReading}
use Rattle.inter_reconstruction.specs.declared.motion.FieldVector.{FieldVector}
use Rattle.inter_reconstruction.specs.declared.motion.DirectionMotion.{DirectionMotion}
use Rattle.inter_reconstruction.specs.declared.motion.DirectionMotion.TheVariants.{Frame, Field}
use Rattle.inter_reconstruction.specs.declared.motion.Uses.{Uses}
use Rattle.inter_reconstruction.specs.declared.motion.Uses.TheVariants.{Forward, Backward, Both}

-- ---- one sample

-- a field's vector, at column x of that field's line
unfoldable pub field_sample : Means → PlaneReading → FieldVector → ℕ → ℕ → ℕ
field_sample m read u x line =
    formed m (read (field u.reference_field)) (pos x) (pos line) u.vector.horizontal u.vector.vertical

-- one direction's prediction of the sample at column x and row y of a plane. Row y of a frame is line y / 2 of the field that y's parity names,
-- whose vector it goes by; which field is read is that vector's own choice. proofs/Rectangles.antt (`interleaved_is`) shows the scope's form
-- of it: two field blocks from line base / 2 on, interleaved.
unfoldable pub direction_sample : Means → PlaneReading → DirectionMotion → ℕ → ℕ → ℕ
direction_sample m read (Frame v) x y = formed m (read frame) (pos x) (pos y) v.horizontal v.vertical
direction_sample m read (Field p) x y = field_sample m read (field_vector_of p (y % 2)) x (y / 2)

-- 7.6.7: of one direction, or of two
unfoldable pub used_sample : Means → PlaneReading → PlaneReading → Uses → ℕ → ℕ → ℕ
used_sample m forward backward (Forward d) x y = m.single (direction_sample m forward d x y)
used_sample m forward backward (Backward e) x y = m.single (direction_sample m backward e x y)
used_sample m forward backward (Both d e) x y = m.join (direction_sample m forward d x y) (direction_sample m backward e x y)

-- ---- blocks

-- where sample k of a rectangle stands in its plane: w columns, row after row, the first sample at column x and row y
abbrev pub column_at : ℕ → ℕ → ℕ → ℕ
column_at w x k = x + k % w

abbrev pub row_at : ℕ → ℕ → ℕ → ℕ
row_at w y k = y + k / w

-- w columns and h rows of a plane, by a rule for each sample
unfoldable pub rectangle : ℕ → ℕ → (ℕ → ℕ → ℕ) → ℕ → ℕ → List ℕ
rectangle w h rule x y = tabulate (w * h) (λ (k : ℕ). rule (column_at w x k) (row_at w y k))

-- the first sample of a macroblock's part in a component's plane: the macroblock in column `col` and row `row` of the picture's macroblocks
abbrev pub first_column : ChromaFormat → ColourComponent → ℕ → ℕ
first_column f c col = col * block_width f c

abbrev pub first_row : ChromaFormat → ColourComponent → ℕ → ℕ
first_row f c row = row * block_height f c

-- that part
abbrev pub part : ChromaFormat → ColourComponent → (ℕ → ℕ → ℕ) → ℕ → ℕ → List ℕ
part f c rule col row = rectangle (block_width f c) (block_height f c) rule (first_column f c col) (first_row f c row)

-- the three parts
unfoldable pub macroblock : ChromaFormat → (ColourComponent → ℕ → ℕ → ℕ) → ℕ → ℕ → List ℕ
macroblock f rule col row = part f luma (rule luma) col row ++ (part f cb (rule cb) col row ++ part f cr (rule cr) col row)

-- a macroblock's prediction
abbrev pub predicted : Means → ChromaFormat → (ColourComponent → PlaneReading) → (ColourComponent → PlaneReading) → Uses → ℕ → ℕ → List ℕ
predicted m f forward backward u col row =
    macroblock f (λ (c : ColourComponent). used_sample m (forward c) (backward c) (uses_of f u c)) col row
