-- The invariant before the first turn, after a turn that writes a byte, and at the end.
-- Assumes nothing.
use Rattle.std.proofs.Common.{arith, refl, rules}
use Rattle.laws.proofs.Filled.{filled_none, filled_step, filled_all}
use Rattle.lists.proofs.byte_strings.fill.Goals as goal

pub loop-i-init : goal.loop-i-init
loop-i-init c = filled_none _ _

pub loop-i-preserved : goal.loop-i-preserved
loop-i-preserved c = filled_step c.loop-i.invariant (omega arith) (search rules)

pub returns : goal.returns
returns c = filled_all c.loop-i.invariant (omega arith) refl
