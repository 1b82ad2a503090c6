-- After k turns the output has the first k bytes at its front.
-- Assumes nothing.
use Rattle.laws.proofs.Filled.{Filled}
use Rattle.lists.specs.ByteStrings.{byte_at}
use Rattle.lists.proofs.byte_strings.store.Given as goal

abbrev pub invariant-loop-k : goal.invariant-loop-k
invariant-loop-k l = Filled (byte_at l.w) l.initial.out l.k l.out
