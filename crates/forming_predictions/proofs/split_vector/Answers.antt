-- Each component is what the function for one component gives.
-- Assumes nothing.
use Rattle.std.proofs.Common.{◌≡◌, true, [], ◌∷◌, refl}
use Rattle.forming_predictions.specs.Undivided.{undivided}
use Rattle.forming_predictions.specs.contracts.split_component.Key as split_component
use Rattle.forming_predictions.proofs.split_vector.Code as code

-- no division, and it calls this one alone
pub split_vector_undivided : undivided (split_component.symbol ∷ []) code.function.body ≡ true
split_vector_undivided = refl
