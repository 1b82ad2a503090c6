-- A macroblock's parts: their sizes and positions, once over width and height, and the bytes that they make together.
-- Assumes nothing.
use mathlib.Core.Path.{◌≡◌, refl, ◌∙◌}
use mathlib.Core.List.{List, ◌++◌, append_assoc}
use Prim.Native.Nat.{ℕ, zero, suc, ◌+◌, ◌*◌, ◌%◌}
use native.Mathlib.Nat.{zero-mul, suc-mul}
use native.Mathlib.Omega.{arith}
use Rattle.forming_predictions.specs.Means.{rounded}
use Rattle.pmv.specs.declared.kinds.ChromaFormat.{ChromaFormat}
use Rattle.pmv.specs.declared.kinds.ChromaFormat.TheVariants.{Yuv420, Yuv422, Yuv444}
use Rattle.inter_reconstruction.specs.declared.motion.Uses.{Uses}
use Rattle.inter_reconstruction.specs.Components.{ColourComponent, luma, cb, cr, block_width, block_height, block_bytes, macroblock_bytes}
use Rattle.inter_reconstruction.specs.Motion.{chroma_uses}
use Rattle.inter_reconstruction.specs.Frames.{PlaneReading}
use Rattle.inter_reconstruction.specs.Macroblock.{used_sample, rectangle, part, macroblock, predicted}
use Rattle.inter_reconstruction.specs.inner.Blocks.{FieldRows, ChromaSides}
use Rattle.inter_reconstruction.specs.inner.Areas.{PartAt}
use Rattle.inter_reconstruction.specs.declared.area.Area.{Area}

-- the chrominance's sides, for all formats
chroma_sides : (f : ChromaFormat) → ChromaSides (block_width f cb) (block_height f cb)
chroma_sides Yuv420 = record { wide_lo = omega arith; wide = omega arith; eights = refl; high_lo = omega arith; high = omega arith; even = refl }
chroma_sides Yuv422 = record { wide_lo = omega arith; wide = omega arith; eights = refl; high_lo = omega arith; high = omega arith; even = refl }
chroma_sides Yuv444 = record { wide_lo = omega arith; wide = omega arith; eights = refl; high_lo = omega arith; high = omega arith; even = refl }

-- a multiple of an even number is even
even_multiple : (r h : ℕ) → h % 2 ≡ 0 → r * h % 2 ≡ 0
even_multiple zero h e = rw (zero-mul h)
even_multiple (suc r) h e = let p = even_multiple r h e in omega (arith, suc-mul r h)

-- ---- the luminance
pub luma_rows : (row : ℕ) → FieldRows (row * 16) 16
luma_rows row = record { first = omega arith; even = refl }

-- ---- the chrominance
module _ (f : ChromaFormat) {w h : ℕ} (ew : w ≡ block_width f cb) (eh : h ≡ block_height f cb) where
  sides : ChromaSides w h
  sides = rw (ew, eh) (chroma_sides f)

  pub chroma_rows : (row : ℕ) → FieldRows (row * h) h
  chroma_rows row = record { first = even_multiple row h sides.even; even = sides.even }

  pub chroma_total : {n : ℕ} → n ≡ macroblock_bytes f → n ≡ 256 + (w * h + w * h)
  chroma_total e = rw (ew, eh) e

-- ---- a part by its area
module _ {f : ChromaFormat} {c : ColourComponent} {col row : ℕ} {at : Area} (k : PartAt f c col row at) where
  pub area_bytes : at.width * at.height ≡ block_bytes f c
  area_bytes = rw (k.width, k.height)

  pub area_part : (rule : ℕ → ℕ → ℕ) → rectangle at.width at.height rule at.x at.y ≡ part f c rule col row
  area_part rule = rw (k.column, k.line, k.width, k.height)

-- Cr's part lies as Cb's
pub cr_part : (f : ChromaFormat) {col row : ℕ} {at : Area} → PartAt f cb col row at → PartAt f cr col row at
cr_part Yuv420 k = record { column = k.column; line = k.line; width = k.width; height = k.height }
cr_part Yuv422 k = record { column = k.column; line = k.line; width = k.width; height = k.height }
cr_part Yuv444 k = record { column = k.column; line = k.line; width = k.width; height = k.height }

-- both fields have as many of its rows
pub luma_area_rows : {f : ChromaFormat} {col row : ℕ} {at : Area} → PartAt f luma col row at → FieldRows at.y at.height
luma_area_rows {row = row} k = rw (k.line, k.height) (luma_rows row)

pub chroma_area_rows : (f : ChromaFormat) {col row : ℕ} {at : Area} → PartAt f cb col row at → FieldRows at.y at.height
chroma_area_rows f {row = row} k = rw (k.line, k.height) (chroma_rows f refl refl row)

-- ---- the bytes

pub parts_are : (f : ChromaFormat) (forward backward : ColourComponent → PlaneReading) (u v : Uses) (col row : ℕ) (a b r : List ℕ)
    → v ≡ chroma_uses f u
    → a ≡ part f luma (used_sample rounded (forward luma) (backward luma) u) col row
    → b ≡ part f cb (used_sample rounded (forward cb) (backward cb) v) col row
    → r ≡ part f cr (used_sample rounded (forward cr) (backward cr) v) col row
    → (a ++ b) ++ r ≡ predicted rounded f forward backward u col row
unfolding macroblock
parts_are f forward backward u v col row a b r ev ea eb er = append_assoc a b r ∙ rw (ea, eb, er, ev)
