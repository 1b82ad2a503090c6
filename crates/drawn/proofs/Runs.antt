-- Laws of the generator's runs.
-- Assumes nothing.
use mathlib.Core.Path.{◌≡◌, refl}
use Prim.Native.Nat.{ℕ, ◌+◌}
use native.Mathlib.Numerals.{add-one}
use Rattle.drawn.specs.Draws.{next_number, number_after}

pub number_after_none : (s : ℕ) → s ≡ number_after s 0
unfolding number_after
number_after_none s = refl

-- one draw more
pub number_after_next : (s k : ℕ) → number_after s (k + 1) ≡ next_number (number_after s k)
unfolding number_after
number_after_next s k = rw (add-one k)

pub number_after_three : (s : ℕ) → number_after s 3 ≡ next_number (next_number (next_number s))
unfolding number_after
number_after_three s = refl
