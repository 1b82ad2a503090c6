-- The invariant before the first turn, and after a turn that stores a sample.
-- Assumes nothing.
use Rattle.std.proofs.Common.{refl, arith}
use Rattle.laws.proofs.Filled.{filled_none, filled_turn}
use Rattle.forming_predictions.proofs.edges.pick_samples.Goals as goal

pub loop-k-init : goal.loop-k-init
loop-k-init g c = filled_none _ _

pub loop-k-preserved : goal.loop-k-preserved
loop-k-preserved g c = filled_turn c.loop-k.invariant (omega arith) refl
