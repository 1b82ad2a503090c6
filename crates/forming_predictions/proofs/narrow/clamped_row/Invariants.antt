-- After k turns the first k samples are in place.
-- Assumes nothing.
use Rattle.std.proofs.Common.{ℕ, pos, ◌+ℤ◌}
use Rattle.laws.proofs.Filled.{Filled}
use Rattle.forming_predictions.specs.inner.Views.{clamped_of}
use Rattle.forming_predictions.proofs.narrow.clamped_row.Given as goal

abbrev pub invariant-loop-k : goal.invariant-loop-k
invariant-loop-k l = Filled (λ (j : ℕ). clamped_of l.row l.below (l.x.at +ℤ pos j) l.dx) l.initial.out l.k l.out
