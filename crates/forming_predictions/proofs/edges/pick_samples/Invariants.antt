-- After k turns the output has the first k samples at its front.
-- Assumes nothing.
use Rattle.laws.proofs.Filled.{Filled}
use Rattle.forming_predictions.specs.inner.Views.{picked_of}
use Rattle.forming_predictions.proofs.edges.pick_samples.Given as goal

abbrev pub invariant-loop-k : goal.invariant-loop-k
invariant-loop-k g l = Filled (picked_of l.row l.columns) l.initial.out l.k l.out
