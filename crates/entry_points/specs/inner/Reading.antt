-- What is read of a call's numbers: what they mean, where all are known. For private contracts alone.
use Rattle.std.specs.Prelude.{Bool, true, false, cond, Option, Some, None, Result, Ok, Err}
use Rattle.forming_predictions.specs.Parities.{no_meaning}
use Rattle.forming_predictions.specs.declared.parity.NoMeaning.{NoMeaning}
use Rattle.entry_points.specs.Entries.{is_yes, geometry_of}
use Rattle.entry_points.specs.declared.numbers.PredictionRead.{PredictionRead}
use Rattle.entry_points.specs.declared.numbers.ReferenceNumbers.{ReferenceNumbers}
use Rattle.inter_reconstruction.specs.declared.frames.FrameGeometry.{FrameGeometry}
use Rattle.inter_reconstruction.specs.declared.frames.FrameBuffer.{FrameBuffer}

abbrev pub read_where : {A : Type 0} → Bool → A → Result A NoMeaning
read_where true value = Ok value
read_where false value = Err no_meaning

-- what a reference's numbers mean
abbrev pub frame_meant : ReferenceNumbers → FrameBuffer
frame_meant n = record { geometry = geometry_of n.geometry.width n.geometry.height n.geometry.format; y = n.y; cb = n.cb; cr = n.cr }

abbrev pub reference_meant : ReferenceNumbers → Option FrameBuffer
reference_meant n = cond (is_yes n.present) (Some (frame_meant n)) None

-- what a prediction is read with
abbrev pub prediction_meant : {V : Type 0} → FrameGeometry → Option FrameBuffer → Option FrameBuffer → Option V → Option V → PredictionRead V
prediction_meant dest forward backward forward_vectors backward_vectors =
    record { dest = dest; forward = forward; backward = backward; motion = record { forward = forward_vectors; backward = backward_vectors } }
