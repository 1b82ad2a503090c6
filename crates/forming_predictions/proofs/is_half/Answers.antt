-- The lowest bit is the half flag.
-- Assumes nothing.
use Rattle.std.proofs.Common.{◌≡◌, true, [], refl}
use Rattle.forming_predictions.specs.Undivided.{undivided}
use Rattle.forming_predictions.proofs.Splitting.{flag_is}
use Rattle.forming_predictions.proofs.is_half.Code as code
use Rattle.forming_predictions.proofs.is_half.Goals as goal

-- no division, and it calls nothing
pub is_half_undivided : undivided [] code.function.body ≡ true
is_half_undivided = refl

pub returns : goal.returns
returns c = flag_is c.args.vector c.ranges.vector
