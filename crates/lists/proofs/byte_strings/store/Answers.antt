-- The invariant before the first turn, after a turn that stores a byte, and at the end.
-- Assumes nothing.
use Rattle.std.proofs.Common.{arith}
use Rattle.laws.proofs.Filled.{filled_none, filled_step, filled_all}
use Rattle.lists.proofs.byte_strings.store.Goals as goal

pub loop-k-init : goal.loop-k-init
loop-k-init c = filled_none _ _

pub loop-k-preserved : goal.loop-k-preserved
loop-k-preserved c = filled_step c.loop-k.invariant (omega arith) c.hex_byte.ensures

pub returns : goal.returns
returns c = filled_all c.loop-k.invariant (omega arith) c.requires
