-- The number of a parity means the parity, and a larger number none.
-- Assumes nothing.
use mathlib.Core.Path.{◌≡◌, refl}
use Prim.Native.Nat.{ℕ, ◌≤◌}
use native.Mathlib.Omega.{arith}
use borrow.Author.Tests.{ne_eqb}
use Rattle.std.specs.Prelude.{Some, None}
use Rattle.forming_predictions.specs.declared.FieldParity.{FieldParity}
use Rattle.forming_predictions.specs.declared.FieldParity.TheVariants.{Top, Bottom}
use Rattle.forming_predictions.specs.Parities.{parity_from}
use Rattle.forming_predictions.specs.Lines.{parity_row}

pub parity_back : (k : FieldParity) → parity_from (parity_row k) ≡ Some k
parity_back Top = refl
parity_back Bottom = refl

pub parity_none : (n : ℕ) → 2 ≤ n → parity_from n ≡ None
parity_none n h = rw (ne_eqb n 0 (λ e. absurd (omega arith)), ne_eqb n 1 (λ e. absurd (omega arith)))
