-- After r turns the first r rows are in place.
-- Assumes nothing.
use Rattle.std.proofs.Common.{ℕ, ◌/◌, ◌%◌, pos, ◌+ℤ◌}
use Rattle.laws.proofs.Rows.{RowsFilled}
use Rattle.forming_predictions.specs.inner.Blocks.{formed_at}
use Rattle.forming_predictions.proofs.narrow.form_clamped.Given as goal

abbrev pub invariant-loop-r : goal.invariant-loop-r
invariant-loop-r l =
    RowsFilled
    (λ (k : ℕ). formed_at l.view l.to (l.x.at +ℤ pos (k % l.size.width)) (l.y.at +ℤ pos (k / l.size.width)))
    l.initial.out l.size.width l.size.height l.r l.out
