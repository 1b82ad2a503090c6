-- Where all numbers are known, the number and the buffer are those of the layer's call on what the numbers mean.
-- Assumes nothing.
use Rattle.std.proofs.Common.{ap, ◌∙◌, List, ℕ}
use Rattle.combine_predictions.specs.Refusals.{refusal_number}
use Rattle.inter_reconstruction.specs.Motion.{frame_uses}
use Rattle.inter_reconstruction.specs.Refusals.{prediction_number}
use Rattle.entry_points.specs.declared.numbers.ReferenceNumbers.{ReferenceNumbers}
use Rattle.entry_points.proofs.References.{refusal_meant, bytes_meant}
use mir.Facts.{to_z-of_z}
use Rattle.entry_points.specs.Entries.{unless_number, frame_known, frame_motion_of}
use Rattle.entry_points.proofs.Reading.{was_read, not_read}
use Rattle.entry_points.proofs.frame_based.fozdrik_predict_frame_macroblock.Goals as goal

pub returns-in_default-clause-number : goal.returns-in_default-clause-number
unfolding frame_known
returns-in_default-clause-number c = rw (not_read _ _ c.in_default.ensures)

pub returns : goal.returns
unfolding frame_known
returns c =
    let a = c.args in
    let r = c.ranges in
    let forward : ReferenceNumbers
    = record {
      present = a.forward_present;
      geometry = record { width = a.forward_width; height = a.forward_height; format = a.forward_format };
      y = record { sides = record { width = a.forward_y_width; height = a.forward_y_height }; samples = a.forward_y };
      cb = record { sides = record { width = a.forward_cb_width; height = a.forward_cb_height }; samples = a.forward_cb };
      cr = record { sides = record { width = a.forward_cr_width; height = a.forward_cr_height }; samples = a.forward_cr };
    } in
    let backward : ReferenceNumbers
    = record {
      present = a.backward_present;
      geometry = record { width = a.backward_width; height = a.backward_height; format = a.backward_format };
      y = record { sides = record { width = a.backward_y_width; height = a.backward_y_height }; samples = a.backward_y };
      cb = record { sides = record { width = a.backward_cb_width; height = a.backward_cb_height }; samples = a.backward_cb };
      cr = record { sides = record { width = a.backward_cr_width; height = a.backward_cr_height }; samples = a.backward_cr };
    } in
    let motion = frame_motion_of a.forward_motion a.forward_horizontal a.forward_vertical a.backward_motion a.backward_horizontal a.backward_vertical in
    let k = was_read _ _ (rw (to_z-of_z r.forward_horizontal, to_z-of_z r.forward_vertical, to_z-of_z r.backward_horizontal, to_z-of_z r.backward_vertical) at c.in-Ok.ensures) in
    record {
      number =
          rw k.0
          ((rw k.1 at c.predict_read.ensures.number)
          ∙ ap (refusal_number prediction_number) (refusal_meant forward backward (frame_uses motion) a.mb_col a.mb_row _ _));
      buffer =
          (rw k.1 at c.predict_read.ensures.buffer)
          ∙ ap (λ (bytes : List ℕ). unless_number c.predict_read.result bytes a.out.now) (bytes_meant forward backward (frame_uses motion) a.mb_col a.mb_row _);
    }
