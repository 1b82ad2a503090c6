-- ISO/IEC 13818-2, 6.1.1 and 6.1.3: a picture's three components, and how many of a picture's columns and lines each has.
-- docs/SCOPE.md gives the same sides of a macroblock's parts. That its bytes are one buffer, luminance, then Cb, then Cr, is a decision of
-- this port.
use Rattle.std.specs.Prelude.{ℕ, ◌+◌, ◌*◌, ◌/◌}
use Rattle.pmv.specs.declared.kinds.ChromaFormat.{ChromaFormat}
use Rattle.pmv.specs.declared.kinds.ChromaFormat.TheVariants.{Yuv420, Yuv422, Yuv444}

pub data ColourComponent : Type 0 where
  luma cb cr : ColourComponent

-- of n luminance columns, how many the chrominance has
abbrev pub chroma_columns : ChromaFormat → ℕ → ℕ
chroma_columns Yuv420 n = n / 2
chroma_columns Yuv422 n = n / 2
chroma_columns Yuv444 n = n

-- of n luminance lines
abbrev pub chroma_lines : ChromaFormat → ℕ → ℕ
chroma_lines Yuv420 n = n / 2
chroma_lines Yuv422 n = n
chroma_lines Yuv444 n = n

abbrev pub columns_of : ChromaFormat → ColourComponent → ℕ → ℕ
columns_of f luma n = n
columns_of f cb n = chroma_columns f n
columns_of f cr n = chroma_columns f n

abbrev pub lines_of : ChromaFormat → ColourComponent → ℕ → ℕ
lines_of f luma n = n
lines_of f cb n = chroma_lines f n
lines_of f cr n = chroma_lines f n

-- a macroblock's part in a component's plane: of 16 columns and 16 lines
abbrev pub block_width : ChromaFormat → ColourComponent → ℕ
block_width f c = columns_of f c 16

abbrev pub block_height : ChromaFormat → ColourComponent → ℕ
block_height f c = lines_of f c 16

-- how many samples that are
abbrev pub block_bytes : ChromaFormat → ColourComponent → ℕ
block_bytes f c = block_width f c * block_height f c

-- a macroblock's bytes: luminance, then Cb, then Cr
abbrev pub macroblock_bytes : ChromaFormat → ℕ
macroblock_bytes f = block_bytes f luma + (block_bytes f cb + block_bytes f cr)
