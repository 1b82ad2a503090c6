-- The three calls write the output from its front to its end.
-- Assumes nothing.
use Rattle.std.proofs.Common.{◌∙◌, ap, refl, length, ◌+◌, ◌++◌, append_assoc, arith}
use Rattle.inter_reconstruction.proofs.Begun.{begun_first, begun_part, begun_rest, append_count}
use Rattle.inter_reconstruction.proofs.components.store_blocks.Goals as goal

pub returns : goal.returns
returns c =
    let a = length c.args.y.now in
    let m = length c.args.cb.now in
    let first = c.store_chosen.new.out in
    let second = c.store_chosen-2.new.out in
    let third = c.store_chosen-3.new.out in
    let n1 = ap length c.store_chosen.ensures in
    let n2 = ap length c.store_chosen-2.ensures in
    let n3 = ap length c.store_chosen-3.ensures in
    begun_rest (a + m) third
    (begun_part a m second (begun_first a first c.args.out.now n1 (omega (arith, c.requires))) n1 n2 (omega (arith, c.requires)))
    (append_count first second a m (a + m) n1 n2 refl)
    (omega (arith, n3, c.requires))
    ∙ append_assoc first second third
    ∙ (λ i. c.store_chosen.ensures i ++ (c.store_chosen-2.ensures i ++ c.store_chosen-3.ensures i))
