-- What is left after the subtraction is no larger, and fits.
-- Assumes nothing.
use Rattle.std.proofs.Common.{arith}
use Rattle.std.proofs.lemmas.Grind.{common_steps}
use lib.IntN.{◌-ℤ◌}
use mir.Syntax.{w64}
use mir.Val.{SFits}
use mir.Facts.{to_z-of_z}
use Rattle.laws.proofs.Bits.{widened}
use Rattle.laws.proofs.Bounded.{Within, within_sub, within_fits}
use Rattle.pmv.proofs.Ranges.{range_fits, past_high}
use Rattle.pmv.proofs.component.Bounds.lower.Goals as goal

pub returns-then-self-above_low : goal.returns-then-self-above_low
returns-then-self-above_low c =
    let d : Within 4294983680 (c.args.v -ℤ c.args.self.ends.range) = within_sub c.requires c.args.self.small.range in
    let f : SFits w64 (c.args.v -ℤ c.args.self.ends.range) = within_fits d (omega arith) in
    grind (arith, common_steps, to_z-of_z, widened, range_fits, past_high)
