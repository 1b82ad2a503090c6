-- Laws of clamping and of the lines that are read.
-- Assumes nothing.
use mathlib.Core.Path.{◌≡◌, refl}
use Prim.Native.Nat.{ℕ, ◌+◌, ◌-◌, ◌*◌, ◌/◌, ◌<◌, min}
use native.Mathlib.Omega.{arith}
use lib.IntN.{ℤ, pos, negsuc}
use borrow.Author.Tests.{eq-eqb, ne_eqb}
use Rattle.laws.proofs.Signed.{zp}
use Rattle.forming_predictions.specs.Lines.{frame, field, parity_row, field_lines, clamp_to, row_of}
use Rattle.forming_predictions.specs.declared.FieldParity.{FieldParity}
use Rattle.forming_predictions.specs.declared.FieldParity.TheVariants.{Top, Bottom}

-- clamping as one expression, for omega
pub clamp_is : (n : ℕ) (v : ℤ) → clamp_to n v ≡ min (zp v) (n - 1)
unfolding clamp_to
clamp_is n (pos a) = refl
clamp_is n (negsuc a) = omega arith

-- a coordinate that is inside stays
pub clamp_in : (n a : ℕ) → a < n → clamp_to n (pos a) ≡ a
clamp_in n a h = omega (arith, clamp_is n (pos a))

-- a clamped coordinate is inside
pub clamp_lt : (n : ℕ) (v : ℤ) → 0 < n → clamp_to n v < n
clamp_lt n v p = omega (arith, clamp_is n v)

-- a top field has half the rows, rounded up, and a bottom field half of them, rounded down
pub top_lines : (h : ℕ) → field_lines Top h ≡ (h + 1) / 2
unfolding field_lines
top_lines h = omega arith

pub bottom_lines : (h : ℕ) → field_lines Bottom h ≡ h / 2
unfolding field_lines
bottom_lines h = omega arith

-- both fields together have the plane's rows
pub both_fields : (h : ℕ) → field_lines Top h + field_lines Bottom h ≡ h
both_fields h = omega (arith, top_lines h, bottom_lines h)

-- the frame, and a field with lines and without
pub frame_row : (h : ℕ) (y : ℤ) → row_of frame h y ≡ clamp_to h y
unfolding row_of
frame_row h y = refl

pub field_row : (p : FieldParity) (h : ℕ) (y : ℤ) → 0 < field_lines p h → row_of (field p) h y ≡ 2 * clamp_to (field_lines p h) y + parity_row p
unfolding row_of
field_row p h y l = rw (ne_eqb (field_lines p h) 0 (λ e. omega arith))

pub empty_field : (p : FieldParity) (h : ℕ) (y : ℤ) → field_lines p h ≡ 0 → row_of (field p) h y ≡ clamp_to h (pos (parity_row p))
unfolding row_of
empty_field p h y e = rw (eq-eqb (field_lines p h) 0 e)
