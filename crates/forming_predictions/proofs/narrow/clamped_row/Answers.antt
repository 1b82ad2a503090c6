-- The invariant before the first turn, and after a turn that stores a sample.
-- Assumes nothing.
use Rattle.laws.proofs.Filled.{filled_none, filled_turn}
use Rattle.forming_predictions.proofs.narrow.clamped_row.Goals as goal

pub loop-k-init : goal.loop-k-init
loop-k-init c = filled_none _ _

pub loop-k-preserved : goal.loop-k-preserved
loop-k-preserved c =
    filled_turn c.loop-k.invariant c.loop-k-test.true
    c.clamped_sample.ensures
