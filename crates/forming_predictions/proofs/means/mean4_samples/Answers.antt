-- The invariant before the first turn and after one.
-- Assumes nothing.
use Rattle.std.proofs.Common.{arith}
use Rattle.laws.proofs.Filled.{filled_none, filled_step}
use Rattle.forming_predictions.proofs.means.mean4_samples.Goals as goal

pub loop-k-init : goal.loop-k-init
loop-k-init c = filled_none _ _

pub loop-k-preserved : goal.loop-k-preserved
loop-k-preserved c = filled_step c.loop-k.invariant (omega arith) c.avg4.ensures
