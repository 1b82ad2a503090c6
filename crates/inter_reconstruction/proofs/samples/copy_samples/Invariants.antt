-- After k turns the output has the first k samples at its front.
-- Assumes nothing.
use Rattle.std.proofs.Common.{ℕ, get_or}
use Rattle.laws.proofs.Filled.{Filled}
use Rattle.inter_reconstruction.proofs.samples.copy_samples.Given as goal

abbrev pub invariant-loop-k : goal.invariant-loop-k
invariant-loop-k l = Filled (λ (i : ℕ). get_or l.from i 0) l.initial.out l.k l.out
