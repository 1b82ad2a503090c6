-- Laws of averaging, for the proof of the call and for the layers above.
-- Assumes nothing.
use mathlib.Core.Path.{◌≡◌, refl}
use Prim.Native.Nat.{ℕ, ◌+◌, ◌/◌, ◌<◌}
use Rattle.std.specs.Prelude.{Some, None}
use native.Mathlib.Omega.{arith}
use borrow.Author.Tests.{eq-eqb, ne_eqb}
use Rattle.combine_predictions.specs.declared.AveragingRefusal.{AveragingRefusal}
use Rattle.combine_predictions.specs.declared.AveragingRefusal.TheVariants.{WrongLength, LengthsDiffer}
use Rattle.combine_predictions.specs.Averaging.{mean2, average_refusal}
use Rattle.combine_predictions.specs.Refusals.{averaging_number}

-- the mean as docs/SCOPE.md writes it
pub mean2_is : (a b : ℕ) → mean2 a b ≡ (a + b + 1) / 2
mean2_is a b = refl

-- the mean of two samples is a sample
pub mean2_byte : (a b : ℕ) → a < 256 → b < 256 → mean2 a b < 256
mean2_byte a b h k = omega arith

-- no refusal has number 0, which is acceptance's
pub never_refused_0 : (r : AveragingRefusal) → averaging_number r ≡ 0 → ⊥
never_refused_0 WrongLength e = omega arith
never_refused_0 LengthsDiffer e = omega arith

-- inputs of f and b bytes and an output of o: when each number is given
module _ (f b o : ℕ) where
  pub refused_19 : (f ≡ b → ⊥) → average_refusal f b o ≡ Some LengthsDiffer
  refused_19 h = rw (ne_eqb f b h)

  pub refused_18 : f ≡ b → (o ≡ f → ⊥) → average_refusal f b o ≡ Some WrongLength
  refused_18 h k = rw (eq-eqb f b h, ne_eqb o f k)

  pub accepted : f ≡ b → o ≡ f → average_refusal f b o ≡ None
  accepted h k = rw (eq-eqb f b h, eq-eqb o f k)
