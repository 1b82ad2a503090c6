-- A number of i digits stays below 10 to the power i; a digit more goes from the front of those that are left.
-- Assumes nothing.
use Rattle.std.proofs.Common.{ℕ, ◌+◌, ◌*◌, drop, sym, ap, ◌∙◌, arith}
use Rattle.lists.specs.Numbers.{decimal}
use Rattle.lists.proofs.Decimals.{decimal_more, decimal_end, below_more, below_18}
use Rattle.lists.proofs.numbers.digits.Goals as goal

pub overflow_mul-value : goal.overflow_mul-value
overflow_mul-value c =
    let l = c.loop-d in
    omega (arith, below_18 (l.value * 10 + 0) (l.d-index + 1) (below_more l.value 0 l.d-index l.invariant.below (omega arith)) (omega arith))

pub overflow_add-value : goal.overflow_add-value
overflow_add-value c =
    let l = c.loop-d in
    let d = c.digit in
    omega (arith, below_18 (l.value * 10 + d.result) (l.d-index + 1) (below_more l.value d.result l.d-index l.invariant.below d.ensures.below) (omega arith))

pub loop-d-preserved : goal.loop-d-preserved
loop-d-preserved c =
    let l = c.loop-d in
    let w = c.args.w.now in
    let d = c.digit in
    record {
      value =
          ap (λ (n : ℕ). decimal (l.value * 10 + n) (drop (l.d-index + 1) w)) d.ensures.value
          ∙ sym (decimal_more l.value w l.d-index (omega arith))
          ∙ l.invariant.value;
      below = below_more l.value d.result l.d-index l.invariant.below d.ensures.below;
      within = omega arith;
    }

pub returns : goal.returns
returns c =
    let l = c.loop-d in
    record {
      value = sym (decimal_end l.value c.args.w.now l.d-index (omega arith)) ∙ l.invariant.value;
      below = below_18 l.value l.d-index l.invariant.below (omega arith);
    }
