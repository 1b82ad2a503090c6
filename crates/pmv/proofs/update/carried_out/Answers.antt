-- Each of the eight by itself: zero, its own, or the first vector's.
-- Assumes nothing.
use Rattle.std.proofs.Common.{ap, List, ℤ, arith}
use Rattle.std.proofs.lemmas.Grind.{common_steps}
use mir.Facts.{to_z-of_z}
use Rattle.pmv.specs.inner.Rows.{has}
use Rattle.pmv.proofs.Rows.{eight_written}
use Rattle.pmv.proofs.update.carried_out.Goals as goal

pub returns : goal.returns
returns c =
    let row = c.args.row in
    ap (λ (x : List ℤ). record { values = x })
    (eight_written (has row 64) (has row 16) (has row 32) c.args.pmv.values
    (grind (arith, common_steps, to_z-of_z))
    (grind (arith, common_steps, to_z-of_z))
    (grind (arith, common_steps, to_z-of_z))
    (grind (arith, common_steps, to_z-of_z))
    (grind (arith, common_steps, to_z-of_z))
    (grind (arith, common_steps, to_z-of_z))
    (grind (arith, common_steps, to_z-of_z))
    (grind (arith, common_steps, to_z-of_z)))
