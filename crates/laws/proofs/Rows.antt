-- The invariant of a loop that writes a buffer row after row.
-- Assumes nothing.
use mathlib.Core.Path.{◌≡◌, ◌∙◌}
use mathlib.Core.List.{List}
use Prim.Native.Nat.{ℕ, ◌+◌, ◌-◌, ◌*◌, ◌≤◌, ◌<◌}
use native.Mathlib.Nat.{zero-mul, suc-mul, mul_comm, mul-le-mul_right}
use native.Mathlib.Numerals.{add-one}
use native.Mathlib.Omega.{arith}
use lib.ListN.{length, take, drop}
use borrow.Rule.Slice.PartMut.{put_mid}
use Rattle.laws.specs.Tabulate.{tabulate}
use Rattle.laws.proofs.Filled.{Filled, filled_none, filled_part, filled_all}
use Rattle.laws.proofs.Parts.{part_length}

-- row r of h rows of w elements
pub row_in : (r h w : ℕ) → r < h → r * w + w ≤ w * h
row_in r h w l = omega (arith, mul-le-mul_right w l, suc-mul r w, mul_comm w h)

-- the buffer o, which was d, has h rows of w elements, of which the first r are in place
pub record RowsFilled (f : ℕ → ℕ) (d : List ℕ) (w h r : ℕ) (o : List ℕ) : Type 0 where
  pub count : length d ≡ w * h
  pub few : r ≤ h
  pub filled : Filled f d (r * w) o

-- where the loop begins
pub rows_none : (f : ℕ → ℕ) (d : List ℕ) (w h : ℕ) → length d ≡ w * h → RowsFilled f d w h 0 d
rows_none f d w h e = record { count = e; few = omega arith; filled = rw (zero-mul w) (filled_none f d) }

module _ {f : ℕ → ℕ} {d : List ℕ} {w h r : ℕ} {o : List ℕ} (p : RowsFilled f d w h r o) where
  -- the next row lies in the buffer, as a part of w elements
  pub rows_room : r < h → r * w + w ≤ length o
  rows_room l = omega (arith, row_in r h w l)

  pub rows_part : r < h → length (take (r * w + w - r * w) (drop (r * w) o)) ≡ w
  rows_part l = part_length o (r * w) (r * w + w) (rows_room l) ∙ omega arith

  -- after a turn in which a call wrote it
  pub rows_step : {g : ℕ → ℕ} {ys : List ℕ} → r < h
      → ys ≡ tabulate (length (take (r * w + w - r * w) (drop (r * w) o))) g
      → ((c : ℕ) → c < w → g c ≡ f (r * w + c))
      → RowsFilled f d w h (r + 1) (put_mid (r * w) (r * w + w - r * w) o ys)
  rows_step l e q =
      let next : (r + 1) * w ≡ r * w + w = rw (add-one r) (suc-mul r w) in
      record {
        count = p.count;
        few = omega arith;
        filled = rw next (filled_part w p.filled (rows_room l) (rw (rows_part l) at e) q);
      }

  -- where the loop has ended
  pub rows_all : h ≤ r → o ≡ tabulate (w * h) f
  rows_all l =
      let e : r ≡ h = omega arith in
      let all : r * w ≡ w * h = rw e (mul_comm h w) in
      filled_all p.filled (omega arith) p.count
