-- What the tests of the calls say.
-- Assumes nothing.
use mathlib.Core.Path.{◌≡◌, refl, sym, ◌∙◌}
use mathlib.Core.Bool.{Bool, true, false, ◌&&◌, ◌||◌}
use Prim.Native.Nat.{ℕ, ◌+◌, ◌*◌}
use native.Mathlib.Omega.{arith}
use lib.ListN.{length}
use Rattle.laws.proofs.Tests.{both}
use Rattle.std.specs.Prelude.{Option, Some, None, Ok, ok_or}
use Rattle.std.specs.Option.{option_copied}
use Rattle.std.proofs.Common.{Bor}
use Rattle.forming_predictions.specs.Means.{rounded}
use Rattle.forming_predictions.specs.Refusals.{plane_fits}
use Rattle.pmv.specs.declared.kinds.ChromaFormat.{ChromaFormat}
use Rattle.inter_reconstruction.specs.declared.frames.FrameSides.{FrameSides}
use Rattle.inter_reconstruction.specs.declared.motion.DirectionMotion.{DirectionMotion}
use Rattle.inter_reconstruction.specs.declared.motion.Uses.TheVariants.{Forward, Backward}
use Rattle.inter_reconstruction.specs.Components.{ColourComponent, luma, cb, cr, block_width, block_height, macroblock_bytes}
use Rattle.inter_reconstruction.specs.Frames.{Samples, lengths_of, plane_of, PlaneReading}
use Rattle.inter_reconstruction.specs.Macroblock.{used_sample, rectangle, macroblock, predicted}
use Rattle.inter_reconstruction.specs.Refusals.{planes_fit}
use Rattle.inter_reconstruction.specs.inner.Planes.{FrameFits, directed}

neither : (x y : Bool) → (x || y) ≡ false → (x ≡ false) × (y ≡ false)
neither true y e = let z : ◌≡◌ {A = ℕ} 0 1 = cc in absurd (omega arith)
neither false y e = (refl, e)

-- what `?` goes on with was there
pub is_there : {A E : Type 0} (o : Option (Bor A)) (r : Option A) (e : E) {x : Bor A} → option_copied o ≡ r → Ok x ≡ ok_or o e → r ≡ Some x.now
is_there None r e c p = absurd cc
is_there (Some y) r e c p = sym c ∙ cc

-- every plane fits
abbrev plane_fits_lem : FrameSides → Samples → ColourComponent → Bool
plane_fits_lem b s c = plane_fits (plane_of b c).width (plane_of b c).height (length (s c))

pub frame_fits : (b : FrameSides) (s : Samples) → planes_fit b (lengths_of s) ≡ true → FrameFits b s
unfolding planes_fit
frame_fits b s e c = go c
  where
    t : (plane_fits_lem b s luma ≡ true) × ((plane_fits_lem b s cb && plane_fits_lem b s cr) ≡ true)
    t = both (plane_fits_lem b s luma) (plane_fits_lem b s cb && plane_fits_lem b s cr) e

    u : (plane_fits_lem b s cb ≡ true) × (plane_fits_lem b s cr ≡ true)
    u = both (plane_fits_lem b s cb) (plane_fits_lem b s cr) t.1

    go : (c : ColourComponent) → plane_fits_lem b s c ≡ true
    go luma = t.0
    go cb = u.0
    go cr = u.1

pub bytes_are : (f : ChromaFormat) (w h : ℕ) → w ≡ block_width f cb → h ≡ block_height f cb → 256 + (w * h + w * h) ≡ macroblock_bytes f
bytes_are f w h ew eh = rw (ew, eh)

-- ---- what is written

module _ (f : ChromaFormat) (forward backward : ColourComponent → PlaneReading) (col row : ℕ) (d : DirectionMotion) where
  pub forward_alone : directed f forward d col row ≡ predicted rounded f forward backward (Forward d) col row
  unfolding macroblock rectangle used_sample
  forward_alone = refl

  pub backward_alone : directed f backward d col row ≡ predicted rounded f forward backward (Backward d) col row
  unfolding macroblock rectangle used_sample
  backward_alone = refl
