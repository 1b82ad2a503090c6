-- The invariant before the first turn, and after a turn that stores a mean.
-- Assumes nothing.
use Rattle.laws.proofs.Filled.{filled_none, filled_turn}
use Rattle.combine_predictions.proofs.average_into.Goals as goal

pub loop-i-init : goal.loop-i-init
loop-i-init c = filled_none _ _

pub loop-i-preserved : goal.loop-i-preserved
loop-i-preserved c = filled_turn c.loop-i.invariant c.loop-i-test.true c.avg2.ensures
