-- A refusal's number is that of its reason.
-- Assumes nothing.
use Rattle.inter_reconstruction.specs.Refusals.{prediction_number}
use Rattle.entry_points.proofs.Reading.{answered_code}
use Rattle.entry_points.proofs.numbers.predict_read.Goals as goal

pub returns-clause-number : goal.returns-clause-number
returns-clause-number g c = answered_code prediction_number _ _ _ c.predict_macroblock_planes.ensures.answer c.code_of.ensures
