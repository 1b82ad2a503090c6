-- The mean of the four samples at both columns is the predicted one.
-- Assumes nothing.
use Rattle.std.proofs.Common.{◌∙◌, pos, ◌+ℤ◌}
use Rattle.forming_predictions.proofs.Reading.{at_further, at_twice}
use Rattle.forming_predictions.proofs.Blocks.{clamped_is}
use Rattle.forming_predictions.proofs.narrow.clamped_sample.Goals as goal

pub returns : goal.returns
returns c =
    let a = c.args in
    let here = rw (at_further c.further.type_inv c.further.ensures) at c.clamp_to-here.ensures in
    let right = rw (at_twice _ _ a.x.at c.further-2.type_inv c.further-2.ensures) at c.clamp_to-right.ensures in
    c.avg4.ensures ∙ clamped_is a.row.now a.below.now (a.x.at +ℤ pos a.k) a.dx here right
