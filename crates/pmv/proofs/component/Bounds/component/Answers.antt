-- A vector that passes both tests is small, so that the casts and the doubling keep it.
-- Assumes nothing.
use Rattle.std.proofs.Common.{arith}
use Rattle.std.proofs.lemmas.Grind.{common_steps}
use mir.Syntax.{w32}
use mir.Val.{SFits}
use mir.Facts.{to_z-of_z}
use Rattle.laws.proofs.Bits.{widened}
use Rattle.laws.proofs.Bounded.{Within, within_fits}
use Rattle.pmv.specs.Component.{from_delta, from_delta_refusal}
use Rattle.pmv.proofs.Ranges.{range_fits, in_range_within}
use Rattle.pmv.proofs.component.Bounds.component.Goals as goal

pub next_predictor-requires : goal.next_predictor-requires
next_predictor-requires c =
    let w : Within 4096 c.wrap-v.result = grind (arith, common_steps, to_z-of_z, in_range_within) in
    let f : SFits w32 c.wrap-v.result = within_fits w (omega arith) in
    grind (arith, common_steps, to_z-of_z)

pub returns : goal.returns
unfolding from_delta from_delta_refusal
returns c =
    let w : Within 4096 c.wrap-v.result = grind (arith, common_steps, to_z-of_z, in_range_within) in
    let f : SFits w32 c.wrap-v.result = within_fits w (omega arith) in
    let r : SFits w32 c.args.self.ends.range = range_fits c.args.self.small in
    grind (arith, common_steps, to_z-of_z, widened)
