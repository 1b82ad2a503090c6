-- The numbers of a range are small, so that no sum with them overflows, and range is how many there are from low to high. For private
-- contracts alone.
use Rattle.std.specs.Prelude.{◌≡◌, pos, ◌+ℤ◌}
use Rattle.laws.proofs.Bounded.{Within}
use Rattle.pmv.specs.declared.component.VectorRange.{VectorRange}

pub record Small (b : VectorRange) : Type 0 where
  pub low : Within 4096 b.low
  pub high : Within 4096 b.high
  pub range : Within 8192 b.range
  pub count : b.high +ℤ pos 1 ≡ b.low +ℤ b.range
