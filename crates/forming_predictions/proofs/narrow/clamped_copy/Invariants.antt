-- After k turns the first k samples are in place.
-- Assumes nothing.
use Rattle.std.proofs.Common.{ℕ, length, get_or}
use Rattle.laws.proofs.Filled.{Filled}
use Rattle.forming_predictions.specs.inner.Views.{column_at}
use Rattle.forming_predictions.proofs.narrow.clamped_copy.Given as goal

abbrev pub invariant-loop-k : goal.invariant-loop-k
invariant-loop-k l = Filled (λ (j : ℕ). get_or l.row (column_at (length l.row) l.x.at j) 0) l.initial.out l.k l.out
