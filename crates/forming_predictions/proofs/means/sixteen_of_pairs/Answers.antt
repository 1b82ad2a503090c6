-- The invariant after a turn that stores a mean.
-- Assumes nothing.
use Rattle.std.proofs.Common.{arith}
use Rattle.laws.proofs.Filled.{filled_length, filled_step}
use Rattle.forming_predictions.proofs.means.sixteen_of_pairs.Goals as goal

pub loop-k-preserved : goal.loop-k-preserved
loop-k-preserved c =
    filled_step c.loop-k.invariant (omega (arith, filled_length c.loop-k.invariant)) c.avg4_of_pairs.ensures
