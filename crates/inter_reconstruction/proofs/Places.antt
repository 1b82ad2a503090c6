-- What the tests of placing say, and where a macroblock's parts lie in the planes of a picture: once over the component.
-- Assumes nothing.
use mathlib.Core.Path.{◌≡◌, refl, sym, ◌∙◌, fun_ext}
use mathlib.Core.Bool.{Bool, true, not, ◌&&◌}
use mathlib.Core.List.{List}
use Prim.Native.Nat.{ℕ, ◌+◌, ◌-◌, ◌*◌, ◌/◌, ◌%◌, ◌≤◌, ◌<◌}
use native.Mathlib.Nat.{mul-le-mul, mul-le-mul_right, mul_comm, suc-mul}
use native.Mathlib.Omega.{arith}
use lib.Dec.{eqb, ltb}
use lib.ListN.{length, take, drop}
use borrow.Author.Tests.{eqb-true, ltb-true, leb-true}
use Rattle.laws.proofs.Tests.{both}
use Rattle.forming_predictions.specs.Refusals.{plane_fits, side_fits}
use Rattle.forming_predictions.proofs.Refusals.{PlaneRight, plane_right}
use Rattle.pmv.specs.declared.kinds.ChromaFormat.{ChromaFormat}
use Rattle.pmv.specs.declared.kinds.ChromaFormat.TheVariants.{Yuv420, Yuv422, Yuv444}
use Rattle.inter_reconstruction.specs.declared.frames.FrameSides.{FrameSides}
use Rattle.inter_reconstruction.specs.Components.{ColourComponent, luma, cb, cr, columns_of, lines_of, block_width, block_height, block_bytes, macroblock_bytes}
use Rattle.inter_reconstruction.specs.Frames.{Samples, samples_of, plane_of}
use Rattle.inter_reconstruction.specs.Macroblock.{first_column, first_row}
use Rattle.inter_reconstruction.specs.Refusals.{every_component, planes_fit}
use Rattle.inter_reconstruction.specs.Placing.{stored, place_at, part_of, placed, declared_fit, whole_side, whole_sides, plane_sides_fit, picture_fits, well_formed}
use Rattle.inter_reconstruction.specs.inner.Areas.{PartAt}
use Rattle.inter_reconstruction.specs.inner.Placing.{Room, Placeable}
use Rattle.inter_reconstruction.specs.declared.area.Area.{Area}
use Rattle.inter_reconstruction.proofs.Checks.{bytes_are}

-- ---- answers

-- ---- tests

every_one : (t : ColourComponent → Bool) → every_component t ≡ true → (c : ColourComponent) → t c ≡ true
every_one t e luma = (both (t luma) (t cb && t cr) e).0
every_one t e cb = (both (t cb) (t cr) (both (t luma) (t cb && t cr) e).1).0
every_one t e cr = (both (t cb) (t cr) (both (t luma) (t cb && t cr) e).1).1

-- a side of a picture: a multiple of 16
whole_says : (side : ℕ) → whole_side side ≡ true → side % 16 ≡ 0
whole_says side e = eqb-true (side % 16) 0 (both (not (eqb side 0)) (eqb (side % 16) 0) e).1

-- a component has as many columns and lines as its parts of all macroblocks together
columns_are : (f : ChromaFormat) (c : ColourComponent) (n : ℕ) → n % 16 ≡ 0 → columns_of f c n ≡ n / 16 * block_width f c
columns_are f luma n e = omega arith
columns_are Yuv420 cb n e = omega arith
columns_are Yuv422 cb n e = omega arith
columns_are Yuv444 cb n e = omega arith
columns_are Yuv420 cr n e = omega arith
columns_are Yuv422 cr n e = omega arith
columns_are Yuv444 cr n e = omega arith

lines_are : (f : ChromaFormat) (c : ColourComponent) (n : ℕ) → n % 16 ≡ 0 → lines_of f c n ≡ n / 16 * block_height f c
lines_are f luma n e = omega arith
lines_are Yuv420 cb n e = omega arith
lines_are Yuv422 cb n e = omega arith
lines_are Yuv444 cb n e = omega arith
lines_are Yuv420 cr n e = omega arith
lines_are Yuv422 cr n e = omega arith
lines_are Yuv444 cr n e = omega arith

width_le : (f : ChromaFormat) (c : ColourComponent) → block_width f c ≤ 16
width_le f luma = omega arith
width_le Yuv420 cb = omega arith
width_le Yuv422 cb = omega arith
width_le Yuv444 cb = omega arith
width_le Yuv420 cr = omega arith
width_le Yuv422 cr = omega arith
width_le Yuv444 cr = omega arith

height_le : (f : ChromaFormat) (c : ColourComponent) → block_height f c ≤ 16
height_le f luma = omega arith
height_le Yuv420 cb = omega arith
height_le Yuv422 cb = omega arith
height_le Yuv444 cb = omega arith
height_le Yuv420 cr = omega arith
height_le Yuv422 cr = omega arith
height_le Yuv444 cr = omega arith

-- a block of a grid ends within it
in_grid : (k n size : ℕ) → k < n → k * size + size ≤ n * size
in_grid k n size h = omega (arith, mul-le-mul_right size h, suc-mul k size)

-- ---- a component's part lies in its plane
module _ (p : FrameSides) (n : ColourComponent → ℕ) (bytes col row : ℕ) (r : Placeable p n bytes col row) (c : ColourComponent) where
  abbrev format : ChromaFormat
  format = p.geometry.chroma_format

  halves : (declared_fit p.geometry ≡ true) × (planes_fit p n ≡ true)
  unfolding picture_fits
  halves = both (declared_fit p.geometry) (planes_fit p n) r.fits

  plane : PlaneRight (plane_of p c).width (plane_of p c).height (n c)
  unfolding planes_fit
  plane =
      plane_right (plane_of p c).width (plane_of p c).height (n c)
      (rw (every_one (λ (d : ColourComponent). plane_fits (plane_of p d).width (plane_of p d).height (n d)) halves.1 c) refl)

  formed : (whole_sides p.geometry ≡ true) × (every_component (plane_sides_fit p) ≡ true)
  unfolding well_formed
  formed = both (whole_sides p.geometry) (every_component (plane_sides_fit p)) r.whole

  sides : ((plane_of p c).width ≡ columns_of format c p.geometry.width) × ((plane_of p c).height ≡ lines_of format c p.geometry.height)
  sides =
      let t = both (eqb (plane_of p c).width (columns_of format c p.geometry.width)) (eqb (plane_of p c).height (lines_of format c p.geometry.height))
      (every_one (plane_sides_fit p) formed.1 c) in
      (eqb-true (plane_of p c).width (columns_of format c p.geometry.width) t.0, eqb-true (plane_of p c).height (lines_of format c p.geometry.height) t.1)

  whole : (p.geometry.width % 16 ≡ 0) × (p.geometry.height % 16 ≡ 0)
  whole =
      let t = both (whole_side p.geometry.width) (whole_side p.geometry.height) formed.0 in
      (whole_says p.geometry.width t.0, whole_says p.geometry.height t.1)

  inside : (col < p.geometry.width / 16) × (row < p.geometry.height / 16)
  inside =
      let t = both (ltb col (p.geometry.width / 16)) (ltb row (p.geometry.height / 16)) r.cell in
      (ltb-true col (p.geometry.width / 16) t.0, ltb-true row (p.geometry.height / 16) t.1)

  high : p.geometry.height ≤ 16384
  high = leb-true p.geometry.height 16384 (both (side_fits p.geometry.width) (side_fits p.geometry.height) halves.0).1

  wide : p.geometry.width ≤ 16384
  wide = leb-true p.geometry.width 16384 (both (side_fits p.geometry.width) (side_fits p.geometry.height) halves.0).0

  pub few_columns : col ≤ 1023
  few_columns = omega (arith, wide, inside.0)

  pub few_rows : row ≤ 1023
  few_rows = omega (arith, high, inside.1)

  pub part_room : Room (first_column format c col) (first_row format c row) (block_width format c) (block_height format c) (plane_of p c).width (n c) (block_bytes format c)
  part_room =
      let right : first_column format c col + block_width format c ≤ (plane_of p c).width =
      omega (arith, in_grid col (p.geometry.width / 16) (block_width format c) inside.0, columns_are format c p.geometry.width whole.0, sides.0) in
      let down : first_row format c row + block_height format c ≤ (plane_of p c).height =
      omega (arith, in_grid row (p.geometry.height / 16) (block_height format c) inside.1, lines_are format c p.geometry.height whole.1, sides.1) in
      record {
        right = right;
        rows = omega (arith, mul-le-mul_right (plane_of p c).width down, mul_comm (plane_of p c).height (plane_of p c).width, plane.count);
        count = refl;
        wide = width_le format c;
        high = height_le format c;
        top = mul-le-mul few_rows (height_le format c);
      }

-- ---- the same by the place of a part, as the code knows it
module _ (p : FrameSides) (c : ColourComponent) {col row : ℕ} {at : Area} (k : PartAt p.geometry.chroma_format c col row at) where
  pub room_as : (n : ColourComponent → ℕ) (bytes m : ℕ) → Placeable p n bytes col row → m ≡ at.width * at.height
      → Room at.x at.y at.width at.height (plane_of p c).width (n c) m
  room_as n bytes m r e =
      let count = rw (k.width, k.height) at e in
      let t = part_room p n bytes col row r c in
      rw (k.column, k.line, k.width, k.height) (record { right = t.right; rows = t.rows; count = count; wide = t.wide; high = t.high; top = t.top })

  pub placed_as : (bytes : List ℕ) (planes : Samples) (part new : List ℕ)
      → part ≡ part_of p.geometry.chroma_format c bytes
      → new ≡ stored (place_at (plane_of p c).width at.width at.x at.y) part (planes c)
      → new ≡ placed p col row bytes planes c
  placed_as bytes planes part new e d = d ∙ rw (k.column, k.line, k.width, e)

-- the chrominance's parts of a macroblock's bytes
module _ (f : ChromaFormat) (w h : ℕ) (ew : w ≡ block_width f cb) (eh : h ≡ block_height f cb) (bytes : List ℕ) where
  pub part_cb : take (256 + w * h - 256) (drop 256 bytes) ≡ part_of f cb bytes
  part_cb = let k : 256 + w * h - 256 ≡ w * h = omega arith in rw (k, ew, eh)

  pub part_cr : length bytes ≡ macroblock_bytes f → take (length bytes - (256 + w * h)) (drop (256 + w * h) bytes) ≡ part_of f cr bytes
  part_cr e =
      let k : length bytes - (256 + w * h) ≡ w * h = omega (arith, e ∙ sym (bytes_are f w h ew eh)) in
      rw (k, ew, eh)

-- ---- all three components
pub planes_are : (p : FrameSides) (col row : ℕ) (bytes : List ℕ) (planes : Samples) (y b r : List ℕ)
    → y ≡ placed p col row bytes planes luma
    → b ≡ placed p col row bytes planes cb
    → r ≡ placed p col row bytes planes cr
    → samples_of y b r ≡ placed p col row bytes planes
planes_are p col row bytes planes y b r ey eb er = fun_ext go
  where
    go : (c : ColourComponent) → samples_of y b r c ≡ placed p col row bytes planes c
    go luma = ey
    go cb = eb
    go cr = er
