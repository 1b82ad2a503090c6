-- The invariant before the first turn and after a turn that copies a sample; where the lengths are the same, the whole output is filled.
-- Assumes nothing.
use Rattle.std.proofs.Common.{refl, ◌∙◌, arith, eq-eqb}
use Rattle.laws.proofs.Filled.{filled_none, filled_turn, filled_all}
use Rattle.laws.proofs.Tabulated.{tab_self}
use Rattle.inter_reconstruction.proofs.samples.copy_samples.Goals as goal

pub loop-k-init : goal.loop-k-init
loop-k-init c = filled_none _ _

pub loop-k-preserved : goal.loop-k-preserved
loop-k-preserved c = filled_turn c.loop-k.invariant c.loop-k-test.true refl

pub returns : goal.returns
returns c =
    let e = c.if-out-from.false in
    rw (eq-eqb _ _ e) (filled_all c.loop-k.invariant (omega arith) e ∙ tab_self _)
