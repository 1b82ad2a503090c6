-- After k turns the first k columns are in place.
-- Assumes nothing.
use Rattle.laws.proofs.Filled.{Filled}
use Rattle.forming_predictions.specs.inner.Views.{column_at}
use Rattle.forming_predictions.proofs.edges.clamp_columns.Given as goal

abbrev pub invariant-loop-k : goal.invariant-loop-k
invariant-loop-k l = Filled (column_at l.width l.x.at) l.initial.columns l.k l.columns
