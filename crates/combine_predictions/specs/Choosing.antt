-- ISO/IEC 13818-2, 7.6.7.1 and 7.6.7.2: where there is one direction alone, its prediction is the macroblock's.
-- The scope (docs/SCOPE.md): the lent slice is handed back, and not a copy; Skipped gives the forward one.
use Rattle.std.specs.Prelude.{List, ℕ}
use Rattle.std.specs.Borrow.{Bor}
use Rattle.combine_predictions.specs.declared.PredictionDirection.{PredictionDirection}
use Rattle.combine_predictions.specs.declared.PredictionDirection.TheVariants.{Forward, Backward, Skipped}

-- the lent slice itself, where it points included, and not a copy of its bytes. Where neither direction is flagged, the prediction
-- by zero vectors (7.6.3.5) is in the forward slice.
abbrev pub chosen : PredictionDirection → Bor (List ℕ) → Bor (List ℕ) → Bor (List ℕ)
chosen Forward forward backward = forward
chosen Backward forward backward = backward
chosen Skipped forward backward = forward
