-- The column that is read lies in the row, and the invariant before the first turn and after a turn.
-- Assumes nothing.
use Rattle.std.proofs.Common.{ap, ◌∙◌, ℕ, pos, ◌+ℤ◌, length, get_or, arith}
use Rattle.laws.proofs.Filled.{filled_none, filled_turn}
use Rattle.forming_predictions.specs.Lines.{clamp_to}
use Rattle.forming_predictions.specs.inner.Views.{column_at}
use Rattle.forming_predictions.proofs.Lines.{clamp_lt}
use Rattle.forming_predictions.proofs.Reading.{at_further}
use Rattle.forming_predictions.proofs.narrow.clamped_copy.Goals as goal

pub loop-k-init : goal.loop-k-init
loop-k-init c = filled_none _ _

pub bounds-row-clamp_to : goal.bounds-row-clamp_to
bounds-row-clamp_to c =
    let at = rw (at_further c.further.type_inv c.further.ensures) at c.clamp_to.ensures in
    omega (arith, at, clamp_lt (length c.args.row.now) (c.args.x.at +ℤ pos c.loop-k.k) c.requires.0)

pub loop-k-preserved : goal.loop-k-preserved
unfolding column_at
loop-k-preserved c =
    filled_turn c.loop-k.invariant c.loop-k-test.true
    (ap (λ (j : ℕ). get_or c.args.row.now j 0)
    (c.clamp_to.ensures ∙ ap (clamp_to (length c.args.row.now)) (at_further c.further.type_inv c.further.ensures)))
