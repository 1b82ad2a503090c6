-- After r turns the first r rows are in place.
-- Assumes nothing.
use Rattle.std.proofs.Common.{ℕ, ◌/◌, ◌%◌, pos, ◌+ℤ◌}
use Rattle.laws.proofs.Rows.{RowsFilled}
use Rattle.forming_predictions.specs.inner.Blocks.{picked_at}
use Rattle.forming_predictions.proofs.edges.fetch_lines.Given as goal

abbrev pub invariant-loop-r : goal.invariant-loop-r
invariant-loop-r g l =
    RowsFilled (λ (k : ℕ). picked_at l.view l.columns (l.y.at +ℤ pos (k / g.row.N)) (k % g.row.N)) l.initial.out g.row.N l.height l.r l.out
