-- Laws of the rows of a view.
-- Assumes nothing.
use mathlib.Core.Path.{◌≡◌, refl, ap, ◌∙◌}
use mathlib.Core.List.{List}
use Prim.Native.Nat.{ℕ, ◌+◌, ◌*◌, ◌≤◌, ◌<◌}
use native.Mathlib.Nat.{one-mul}
use native.Mathlib.Omega.{arith}
use lib.IntN.{ℤ, pos}
use lib.ListN.{length, get_or}
use Rattle.laws.proofs.Parts.{part_length, part_at}
use Rattle.forming_predictions.specs.Lines.{clamp_to}
use Rattle.forming_predictions.specs.inner.Views.{line_start, view_read, four_of, picked_of, ColumnsFit}
use Rattle.forming_predictions.specs.inner.Blocks.{row_at, read, cell_at, picked_at, LiesIn}
use Rattle.forming_predictions.specs.declared.view.View.{View}
use Rattle.forming_predictions.specs.declared.view.Neighbour.{Neighbour}
use Rattle.forming_predictions.proofs.Lines.{clamp_lt}
use Rattle.forming_predictions.proofs.Blocks.{line_cells, fetch_cells, line_further}

-- a row has the view's columns
pub row_length : (v : View) (j : ℕ) → j < v.count → length (row_at v j) ≡ v.width
row_length v j h =
    let start = line_start v.first v.step v.width j in
    part_length v.samples.now start (start + v.width) (v.fits.room j h) ∙ omega arith

pub clamped_length : (v : View) (y : ℤ) → length (row_at v (clamp_to v.count y)) ≡ v.width
clamped_length v y = row_length v _ (clamp_lt v.count y v.fits.lines)

-- what is read in it is what the view reads
pub clamped_read : (v : View) (x y : ℤ) → get_or (row_at v (clamp_to v.count y)) (clamp_to v.width x) 0 ≡ read v x y
unfolding view_read
clamped_read v x y =
    let start = line_start v.first v.step v.width (clamp_to v.count y) in
    part_at v.samples.now start (start + v.width) (clamp_to v.width x) (omega (arith, clamp_lt v.width x v.fits.some))

-- ---- two rows whose reads all lie in the view
module _ (v : View) (to : Neighbour) {x y n : ℕ} (i : LiesIn v to x y n 1) where
  pub same_row : to.below ≡ 0 → row_at v (y + to.below) ≡ row_at v y
  same_row e = let same : y + to.below ≡ y = omega arith in ap (row_at v) same

  pub inside_cells : (k : ℕ) → k < n → four_of (row_at v y) (row_at v (y + to.below)) x to.right k ≡ cell_at v to (pos x) (pos y) k
  inside_cells k h = line_cells v.fits i refl refl k h

-- ---- a row that is read in clamped columns
pub picked_cells : (v : View) {columns : List ℕ} → ColumnsFit columns v.width → (y : ℤ) (k : ℕ) → k < length columns
    → picked_of (row_at v (clamp_to v.count y)) columns k ≡ picked_at v columns y k
picked_cells v g y k h = fetch_cells v.fits g y refl k h

-- ---- rows of clamped lines
pub clamped_some : (v : View) (y : ℤ) → 0 < length (row_at v (clamp_to v.count y))
clamped_some v y = rw (clamped_length v y) v.fits.some

pub clamped_same : (v : View) (y z : ℤ) → length (row_at v (clamp_to v.count z)) ≡ length (row_at v (clamp_to v.count y))
clamped_same v y z = omega (arith, clamped_length v y, clamped_length v z)

-- ---- a row that starts some strides after another one
pub line_below : (v : View) (j n : ℕ) {a : ℕ} → a ≡ line_start v.first v.step v.width j
    → a + n * (v.step * v.width) ≡ line_start v.first v.step v.width (j + n)
line_below v j n e = omega (arith, e, line_further v.first v.step v.width j n)

pub line_next : (v : View) (j : ℕ) {a k : ℕ} → a ≡ line_start v.first v.step v.width j → k ≡ j + 1
    → a + v.step * v.width ≡ line_start v.first v.step v.width k
line_next v j e k = rw k (omega (arith, line_below v j 1 e, one-mul (v.step * v.width)))

pub row_room : (v : View) (j : ℕ) {a : ℕ} → j < v.count → a ≡ line_start v.first v.step v.width j → a + v.width ≤ length v.samples.now
row_room v j h e = omega (arith, e, v.fits.room j h)
