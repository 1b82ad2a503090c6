-- The arithmetic that a predicted sample is made with. The standard's rounds every mean (ISO/IEC 13818-2, 4.1, 7.6.4, 7.6.7); forming is
-- defined over the record, so that another arithmetic, as one that never rounds, has the same readings.
-- The scope (docs/SCOPE.md): the drift figure asks for such a one (crates/drift/specs/Unrounded.antt). Of `rounded` nothing is the scope's.
use Rattle.std.specs.Prelude.{ℕ, ◌+◌}
use Rattle.combine_predictions.specs.Rounding.{◌//◌}
use Rattle.combine_predictions.specs.Averaging.{mean2}

pub record Means : Type 0 where
  -- of one sample, of two neighbours, of four (7.6.4)
  pub one : ℕ → ℕ
  pub two : ℕ → ℕ → ℕ
  pub four : ℕ → ℕ → ℕ → ℕ → ℕ
  -- of one direction's prediction, of two directions' (7.6.7)
  pub single : ℕ → ℕ
  pub join : ℕ → ℕ → ℕ

-- the sum of four samples // 4
abbrev pub mean4 : ℕ → ℕ → ℕ → ℕ → ℕ
mean4 a b c d = (a + b + c + d) // 4

-- the standard's
abbrev pub rounded : Means
rounded = record { one = λ (a : ℕ). a; two = mean2; four = mean4; single = λ (a : ℕ). a; join = mean2 }
