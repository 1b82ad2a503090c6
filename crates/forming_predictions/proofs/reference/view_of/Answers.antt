-- The rows that are read lie in the plane's samples.
-- Assumes nothing.
use Rattle.forming_predictions.proofs.Refusals.{plane_right}
use Rattle.forming_predictions.proofs.Views.{rows_view}
use Rattle.forming_predictions.proofs.reference.view_of.Goals as goal

pub invariant_of-result : goal.invariant_of-result
invariant_of-result g c =
    rw c.plane-plane.ensures
    (record { fits = rows_view (rw c.plane-plane.ensures at c.rows_of-rows.ensures) _ (plane_right _ _ _ c.requires.0) c.requires.1 })
