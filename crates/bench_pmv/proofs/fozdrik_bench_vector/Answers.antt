-- The two predictors at the places are the pair of the record, and what is stored there is the pair after it.
-- Assumes nothing.
use Rattle.std.proofs.Common.{arith}
use Rattle.std.proofs.lemmas.Grind.{common_steps}
use mir.Facts.{to_z-of_z}
use Rattle.pmv.specs.Vector.{reconstructed}
use Rattle.bench_pmv.proofs.fozdrik_bench_vector.Goals as goal

pub returns-clause-code : goal.returns-clause-code
unfolding reconstructed
returns-clause-code c = grind (arith, common_steps, to_z-of_z)

pub returns-clause-buffer : goal.returns-clause-buffer
unfolding reconstructed
returns-clause-buffer c = grind (arith, common_steps, to_z-of_z)

pub returns-clause-components : goal.returns-clause-components
unfolding reconstructed
returns-clause-components c = grind (arith, common_steps, to_z-of_z)
