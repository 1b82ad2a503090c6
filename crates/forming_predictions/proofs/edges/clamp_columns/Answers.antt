-- The invariant before the first turn, and after a turn that stores a column.
-- Assumes nothing.
use Rattle.std.proofs.Common.{ap, ◌∙◌}
use Rattle.laws.proofs.Filled.{filled_none, filled_turn}
use Rattle.forming_predictions.specs.Lines.{clamp_to}
use Rattle.forming_predictions.specs.inner.Views.{column_at}
use Rattle.forming_predictions.proofs.Reading.{at_further}
use Rattle.forming_predictions.proofs.edges.clamp_columns.Goals as goal

pub loop-k-init : goal.loop-k-init
loop-k-init c = filled_none _ _

pub loop-k-preserved : goal.loop-k-preserved
unfolding column_at
loop-k-preserved c =
    filled_turn c.loop-k.invariant c.loop-k-test.true
    (c.clamp_to.ensures ∙ ap (clamp_to c.args.width) (at_further c.further.type_inv c.further.ensures))
