-- What is read, as a number. For the benchmark alone: nothing here is from the standard or from docs/SCOPE.md.
use Rattle.std.specs.Prelude.{ℕ}
use Rattle.forming_predictions.specs.Lines.{Lines}
use Rattle.forming_predictions.specs.Parities.{parity_from}
use Rattle.forming_predictions.specs.Planes.{lines_by}

-- 0 is the top field, 1 the bottom field, and any other number the frame
abbrev pub lines_of : ℕ → Lines
lines_of n = lines_by (parity_from n)
