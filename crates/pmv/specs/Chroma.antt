-- ISO/IEC 13818-2, 7.6.3.7: the motion vector of the chrominance, from the luminance vector. Nothing here is the scope's
-- (docs/SCOPE.md): that `scale_chroma` truncates is the standard's / (4.1).
use Rattle.std.specs.Prelude.{suc, ◌/◌, ℤ, pos, negsuc, neg_ℤ}
use Rattle.pmv.specs.declared.kinds.ChromaFormat.{ChromaFormat}
use Rattle.pmv.specs.declared.kinds.ChromaFormat.TheVariants.{Yuv420, Yuv422, Yuv444}
use Rattle.pmv.specs.declared.chroma.ScaledMotionVector.{ScaledMotionVector}

-- v / 2, where / (4.1) truncates towards zero: -3 gives -1, and floor_half gives -2. negsuc n is -(n + 1)
unfoldable pub trunc_half : ℤ → ℤ
trunc_half (pos n) = pos (n / 2)
trunc_half (negsuc n) = neg_ℤ (pos (suc n / 2))

-- the horizontal component: the chrominance has half the columns, but for 4:4:4
abbrev pub chroma_horizontal : ChromaFormat → ℤ → ℤ
chroma_horizontal Yuv420 v = trunc_half v
chroma_horizontal Yuv422 v = trunc_half v
chroma_horizontal Yuv444 v = v

-- the vertical component: the chrominance has half the lines for 4:2:0
abbrev pub chroma_vertical : ChromaFormat → ℤ → ℤ
chroma_vertical Yuv420 v = trunc_half v
chroma_vertical Yuv422 v = v
chroma_vertical Yuv444 v = v

unfoldable pub scaled : ℤ → ℤ → ChromaFormat → ScaledMotionVector
scaled horizontal vertical format =
    record {
      luma_horiz = horizontal;
      luma_vert = vertical;
      chroma_horiz = chroma_horizontal format horizontal;
      chroma_vert = chroma_vertical format vertical;
    }
