-- The means of the pairs give those of four, which go through the local array.
-- Assumes nothing.
use Rattle.std.proofs.Common.{◌∙◌}
use Rattle.forming_predictions.proofs.RowMeans.{four_parts}
use Rattle.forming_predictions.proofs.means.four_sixteen.Goals as goal

pub returns : goal.returns
returns c = c.copy_samples.ensures ∙ c.sixteen_of_pairs.ensures ∙ four_parts c.requires.0
