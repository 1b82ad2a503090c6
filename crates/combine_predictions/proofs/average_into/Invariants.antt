-- After i turns the output has the first i means at its front.
-- Assumes nothing.
use Rattle.std.proofs.Common.{ℕ, get_or}
use Rattle.laws.proofs.Filled.{Filled}
use Rattle.combine_predictions.specs.Averaging.{mean2}
use Rattle.combine_predictions.proofs.average_into.Given as goal

abbrev pub invariant-loop-i : goal.invariant-loop-i
invariant-loop-i l = Filled (λ (k : ℕ). mean2 (get_or l.forward k 0) (get_or l.backward k 0)) l.initial.out l.i l.out
