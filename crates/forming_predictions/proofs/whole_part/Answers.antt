-- The shift is the floor of half.
-- Assumes nothing.
use Rattle.std.proofs.Common.{◌≡◌, true, [], refl}
use Rattle.forming_predictions.specs.Undivided.{undivided}
use Rattle.forming_predictions.proofs.whole_part.Code as code

-- no division, and it calls nothing
pub whole_part_undivided : undivided [] code.function.body ≡ true
whole_part_undivided = refl
