-- The tests say that the frame's planes are in the domain.
-- Assumes nothing.
use Rattle.std.proofs.Common.{◌∙◌, sym}
use Rattle.inter_reconstruction.specs.Frames.{sides_of, samples_in}
use Rattle.inter_reconstruction.proofs.Checks.{frame_fits}
use Rattle.inter_reconstruction.proofs.macroblock.predict_alone.Goals as goal

pub predict_from_one-requires : goal.predict_from_one-requires
predict_from_one-requires c =
    let f = c.in_ok-frame.frame in
    (frame_fits (sides_of f.now) (samples_in f.now) (sym c.frame_fits.ensures ∙ c.if-not-frame_fits.false), c.requires)
