-- For pictures of a well-formed geometry the table comes down to 13, 16 or 17, and 20: no step is refused for another cause.
-- Assumes nothing.
use mathlib.Core.Path.{◌≡◌, refl}
use mathlib.Core.Bool.{Bool, true, false, not}
use Rattle.std.specs.Prelude.{Option, Some, None}
use Rattle.std.specs.Option.{option_map}
use Prim.Native.Nat.{ℕ, ◌*◌, ◌%◌, ◌≤◌}
use native.Mathlib.Omega.{arith}
use borrow.Author.Tests.{le-leb, eq-eqb, ne_eqb}
use lib.Dec.{eqb}
use Rattle.combine_predictions.specs.Refusals.{cause, or_else}
use Rattle.forming_predictions.specs.Refusals.{plane_fits}
use Rattle.pmv.specs.Kinds.{chroma_number}
use Rattle.pmv.specs.declared.kinds.ChromaFormat.{ChromaFormat}
use Rattle.pmv.specs.declared.kinds.ChromaFormat.TheVariants.{Yuv420, Yuv422, Yuv444}
use Rattle.inter_reconstruction.specs.Components.{ColourComponent, luma, cb, cr, columns_of, lines_of, macroblock_bytes}
use Rattle.inter_reconstruction.specs.Frames.{plane_of}
use Rattle.inter_reconstruction.specs.Refusals.{prediction_number, every_component, same_geometry, planes_fit, references_refusal, cell_refusal}
use Rattle.inter_reconstruction.specs.Placing.{placing_number, plane_sides_fit, cell_inside, picture_fits, well_formed}
use Rattle.inter_reconstruction.specs.declared.frames.FrameGeometry.{FrameGeometry}
use Rattle.inter_reconstruction.specs.declared.motion.Uses.{Uses}
use Rattle.inter_reconstruction.specs.declared.motion.Uses.TheVariants.{Forward, Backward, Both}
use Rattle.inter_reconstruction.specs.declared.macroblock.PredictionRefusal.{PredictionRefusal}
use Rattle.inter_reconstruction.specs.declared.macroblock.PredictionRefusal.TheVariants.{ForwardMissing, BackwardMissing}
use Rattle.inter_reconstruction.specs.declared.placing.PlacingRefusal.TheVariants.{IllFormed}
use Rattle.drift.specs.Steps.{Step, step_uses, fitting_plane, fitting, reference}
use Rattle.drift.specs.Unrounded.{fitting_lengths, table_refusal}

-- sides that are multiples of 16 from 16 to 16,384
pub record WellFormed (g : FrameGeometry) : Type 0 where
  pub wide_enough : 16 ≤ g.width
  pub wide : g.width ≤ 16384
  pub wide_whole : g.width % 16 ≡ 0
  pub high_enough : 16 ≤ g.height
  pub high : g.height ≤ 16384
  pub high_whole : g.height % 16 ≡ 0

-- 16 or 17, for a reference that is used and absent
abbrev pub absent_refusal : Option ℕ → Option ℕ → Uses → Option PredictionRefusal
absent_refusal None b (Forward d) = Some ForwardMissing
absent_refusal (Some j) b (Forward d) = None
absent_refusal f None (Backward e) = Some BackwardMissing
absent_refusal f (Some j) (Backward e) = None
absent_refusal None b (Both d e) = Some ForwardMissing
absent_refusal (Some i) None (Both d e) = Some BackwardMissing
absent_refusal (Some i) (Some j) (Both d e) = None

-- 13, then 16 or 17, then 20
abbrev pub short_table : FrameGeometry → Step → Option ℕ
short_table g s =
    or_else (option_map prediction_number (or_else (cell_refusal s.column s.row) (absent_refusal s.forward s.backward (step_uses s))))
    (cause (not (cell_inside g s.column s.row)) 20)

columns_le : (f : ChromaFormat) (c : ColourComponent) (n : ℕ) → columns_of f c n ≤ n
columns_le f luma n = omega arith
columns_le Yuv420 cb n = omega arith
columns_le Yuv422 cb n = omega arith
columns_le Yuv444 cb n = omega arith
columns_le Yuv420 cr n = omega arith
columns_le Yuv422 cr n = omega arith
columns_le Yuv444 cr n = omega arith

lines_le : (f : ChromaFormat) (c : ColourComponent) (n : ℕ) → lines_of f c n ≤ n
lines_le f luma n = omega arith
lines_le Yuv420 cb n = omega arith
lines_le Yuv422 cb n = omega arith
lines_le Yuv444 cb n = omega arith
lines_le Yuv420 cr n = omega arith
lines_le Yuv422 cr n = omega arith
lines_le Yuv444 cr n = omega arith

same_geometry_lem : (g : FrameGeometry) → same_geometry g g ≡ true
unfolding same_geometry
same_geometry_lem g =
    rw (eq-eqb g.width g.width refl, eq-eqb g.height g.height refl, eq-eqb (chroma_number g.chroma_format) (chroma_number g.chroma_format) refl)

every : (t : ColourComponent → Bool) → ((c : ColourComponent) → t c ≡ true) → every_component t ≡ true
every t h = rw (h luma, h cb, h cr)

or_else_none : {R : Type 0} (a : Option R) → or_else a None ≡ a
or_else_none None = refl
or_else_none (Some r) = refl

-- the number of the last cause
ill_formed : (b : Bool) → option_map placing_number (or_else (cause b IllFormed) None) ≡ cause b 20
ill_formed true = refl
ill_formed false = refl

plane_is : (g : FrameGeometry) (c : ColourComponent) → plane_of (fitting g) c ≡ fitting_plane g c
plane_is g luma = refl
plane_is g cb = refl
plane_is g cr = refl

sides_fit : (g : FrameGeometry) (c : ColourComponent) → plane_sides_fit (fitting g) c ≡ true
sides_fit g c =
    let a = columns_of g.chroma_format c g.width in
    let b = lines_of g.chroma_format c g.height in
    rw (plane_is g c, eq-eqb a a refl, eq-eqb b b refl) refl

module _ (g : FrameGeometry) (w : WellFormed g) where
  plane_fits_lem : (c : ColourComponent) → plane_fits (plane_of (fitting g) c).width (plane_of (fitting g) c).height (fitting_lengths g c) ≡ true
  unfolding plane_fits
  plane_fits_lem c =
      let a = columns_of g.chroma_format c g.width in
      let b = lines_of g.chroma_format c g.height in
      rw (
        plane_is g c,
        le-leb a 16384 (omega (arith, columns_le g.chroma_format c g.width, w.wide)),
        le-leb b 16384 (omega (arith, lines_le g.chroma_format c g.height, w.high)),
        eq-eqb (a * b) (a * b) refl,
      )
      refl

  planes_fit_lem : planes_fit (fitting g) (fitting_lengths g) ≡ true
  unfolding planes_fit
  planes_fit_lem = every (λ (c : ColourComponent). plane_fits (plane_of (fitting g) c).width (plane_of (fitting g) c).height (fitting_lengths g c)) plane_fits_lem

  picture_fits_lem : picture_fits (fitting g) (fitting_lengths g) ≡ true
  unfolding picture_fits
  picture_fits_lem = rw (le-leb g.width 16384 w.wide, le-leb g.height 16384 w.high, planes_fit_lem) refl

  well_formed_lem : well_formed (fitting g) ≡ true
  unfolding well_formed
  well_formed_lem =
      let a : eqb g.width 0 ≡ false = ne_eqb g.width 0 (λ e. omega (arith, w.wide_enough)) in
      let b : eqb g.height 0 ≡ false = ne_eqb g.height 0 (λ e. omega (arith, w.high_enough)) in
      rw (a, b, eq-eqb (g.width % 16) 0 w.wide_whole, eq-eqb (g.height % 16) 0 w.high_whole, every (plane_sides_fit (fitting g)) (sides_fit g)) refl

  references : (f b : Option ℕ) (u : Uses)
      → references_refusal g (reference g f) (fitting_lengths g) (reference g b) (fitting_lengths g) u ≡ absent_refusal f b u
  references None b (Forward d) = refl
  references (Some j) b (Forward d) = rw (same_geometry_lem g, planes_fit_lem) refl
  references f None (Backward e) = refl
  references f (Some j) (Backward e) = rw (same_geometry_lem g, planes_fit_lem) refl
  references None b (Both d e) = refl
  references (Some i) None (Both d e) = refl
  references (Some i) (Some j) (Both d e) = rw (same_geometry_lem g, planes_fit_lem) refl

  pub table_short : (s : Step) → table_refusal g s ≡ short_table g s
  unfolding table_refusal
  table_short s =
      let n = macroblock_bytes g.chroma_format in
      rw (eq-eqb n n refl, references s.forward s.backward (step_uses s), picture_fits_lem, well_formed_lem, ill_formed (not (cell_inside g s.column s.row)))
