-- The whole samples and the half are what the two functions give of the component.
-- Assumes nothing.
use Rattle.std.proofs.Common.{◌≡◌, true, false, [], ◌∷◌, refl}
use Rattle.forming_predictions.specs.Undivided.{undivided}
use Rattle.forming_predictions.specs.contracts.whole_part.Key as whole_part
use Rattle.forming_predictions.specs.contracts.is_half.Key as is_half
use Rattle.forming_predictions.proofs.split_component.Code as code

-- no division, and it calls these two alone
pub split_component_undivided : undivided (whole_part.symbol ∷ is_half.symbol ∷ []) code.function.body ≡ true
split_component_undivided = refl

-- a call of what the list does not have is seen
pub split_component_calls : undivided (is_half.symbol ∷ []) code.function.body ≡ false
split_component_calls = refl
