-- ISO/IEC 13818-2, 4.1: the standard's operator //. Nothing here is the scope's (docs/SCOPE.md), which writes each mean out.
use Rattle.std.specs.Prelude.{ℕ, ◌+◌, ◌/◌}

infixl 7 ◌//◌
-- the quotient rounded to the nearest whole number, a half upwards: the standard rounds it away from zero, and samples are never
-- negative. proofs/Rounding.antt shows that it is the nearest.
abbrev pub ◌//◌ : ℕ → ℕ → ℕ
n // d = (n + d / 2) / d
