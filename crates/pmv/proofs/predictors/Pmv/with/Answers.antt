-- Each of the eight is the new value at its place, and the old one elsewhere.
-- Assumes nothing.
use Rattle.std.proofs.Common.{ap, List, rules, ℤ, arith}
use Rattle.std.proofs.lemmas.Grind.{common_steps}
use mir.Facts.{to_z-of_z}
use Rattle.pmv.proofs.Lists.{eight_set}
use Rattle.pmv.proofs.predictors.Pmv.with.Goals as goal

pub returns : goal.returns
returns c =
    ap (λ (x : List ℤ). record { values = x })
    (eight_set c.args.self.values _ _ (search rules)
    (grind (arith, common_steps, to_z-of_z))
    (grind (arith, common_steps, to_z-of_z))
    (grind (arith, common_steps, to_z-of_z))
    (grind (arith, common_steps, to_z-of_z))
    (grind (arith, common_steps, to_z-of_z))
    (grind (arith, common_steps, to_z-of_z))
    (grind (arith, common_steps, to_z-of_z))
    (grind (arith, common_steps, to_z-of_z)))
