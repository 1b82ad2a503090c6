-- The invariant before the first turn and after one, and where the loop has ended.
-- Assumes nothing.
use Rattle.std.proofs.Common.{refl, sym, ◌∙◌, arith}
use Rattle.laws.proofs.Filled.{filled_none, filled_turn, filled_all}
use Rattle.laws.proofs.Tabulated.{tab_self}
use Rattle.forming_predictions.proofs.means.copy_samples.Goals as goal

pub loop-k-init : goal.loop-k-init
loop-k-init g c = filled_none _ _

pub loop-k-preserved : goal.loop-k-preserved
loop-k-preserved g c = filled_turn c.loop-k.invariant (omega arith) refl

pub returns : goal.returns
returns g c = filled_all c.loop-k.invariant (omega arith) (c.requires ∙ sym c.told-from) ∙ tab_self _
