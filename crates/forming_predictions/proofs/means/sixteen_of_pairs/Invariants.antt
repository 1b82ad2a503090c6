-- After k turns the output has the first k means at its front.
-- Assumes nothing.
use Rattle.std.proofs.Common.{ℕ, get_or}
use Rattle.laws.proofs.Filled.{Filled}
use Rattle.forming_predictions.specs.Means.{mean4}
use Rattle.forming_predictions.proofs.means.sixteen_of_pairs.Given as goal

abbrev pub invariant-loop-k : goal.invariant-loop-k
invariant-loop-k l =
    Filled (λ (i : ℕ). mean4 (get_or l.a i 0) (get_or l.b i 0) (get_or l.c i 0) (get_or l.d i 0)) l.initial.out l.k l.out
