-- Without a parity the lines are the frame's.
-- Assumes nothing.
use Rattle.forming_predictions.proofs.Views.{frame_reads}
use Rattle.forming_predictions.proofs.reference.rows_of.Goals as goal

pub returns-in-None : goal.returns-in-None
returns-in-None c = rw c.in-None.is (frame_reads c.args.plane.sides.height)
