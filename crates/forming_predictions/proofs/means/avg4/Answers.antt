-- The sums fit 16 bits, and the quarter of the last is the mean, which fits a byte.
-- Assumes nothing.
use Rattle.std.proofs.Common.{◌≡◌, false, [], refl}
use Rattle.forming_predictions.specs.Undivided.{undivided}
use Rattle.forming_predictions.proofs.means.avg4.Code as code

-- the mean of four divides, and `undivided` sees it
pub avg4_divides : undivided [] code.function.body ≡ false
avg4_divides = refl
