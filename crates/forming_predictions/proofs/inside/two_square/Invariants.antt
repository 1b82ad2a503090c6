-- After r turns the first r rows are in place, and a is where the next one starts.
-- Assumes nothing.
use Rattle.std.proofs.Common.{◌≡◌, ◌+◌, ℕ, ◌/◌, ◌%◌, pos, ◌+ℤ◌}
use Rattle.laws.proofs.Rows.{RowsFilled}
use Rattle.forming_predictions.specs.inner.Views.{line_start}
use Rattle.forming_predictions.specs.inner.Blocks.{formed_at}
use Rattle.forming_predictions.proofs.inside.two_square.Given as goal

abbrev pub invariant-loop-r : goal.invariant-loop-r
invariant-loop-r l =
    RowsFilled
    (λ (k : ℕ). formed_at l.view l.to (pos l.x +ℤ pos (k % 8)) (pos l.y +ℤ pos (k / 8)))
    l.initial.out 8 8 l.r l.out
    × (l.a ≡ line_start l.view.first l.view.step l.view.width (l.y + l.r))
