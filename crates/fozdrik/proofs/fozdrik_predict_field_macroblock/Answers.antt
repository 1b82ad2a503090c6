-- The buffer is as the library's call leaves it, whose signed arguments are those that were passed.
-- Assumes nothing.
use mir.Facts.{to_z-of_z}
use Rattle.fozdrik.proofs.fozdrik_predict_field_macroblock.Goals as goal

pub returns-clause-buffer : goal.returns-clause-buffer
returns-clause-buffer c =
    let r = c.ranges in
    rw (
      to_z-of_z r.forward_top_horizontal,
      to_z-of_z r.forward_top_vertical,
      to_z-of_z r.forward_bottom_horizontal,
      to_z-of_z r.forward_bottom_vertical,
      to_z-of_z r.backward_top_horizontal,
      to_z-of_z r.backward_top_vertical,
      to_z-of_z r.backward_bottom_horizontal,
      to_z-of_z r.backward_bottom_vertical,
    ) at c.fozdrik_predict_field_macroblock.ensures.buffer
