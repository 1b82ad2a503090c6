-- A view of a plane's rows as lines: line 0 is row `first`, and lines are `step` rows apart. A frame and its fields are views, and so is
-- a block that was copied out of one. For private contracts alone: that a view reads as 7.6.4 and docs/SCOPE.md say is proved.
use Rattle.std.specs.Prelude.{◌≡◌, Bool, true, false, List, ℕ, ◌+◌, ◌*◌, ◌%◌, ◌≤◌, ◌<◌, leb, ℤ, pos, negsuc, ◌+ℤ◌, length, get_or}
use Rattle.std.specs.Int.{w32}
use Rattle.std.proofs.Common.{SFits}
use Rattle.combine_predictions.specs.Averaging.{mean2}
use Rattle.forming_predictions.specs.Lines.{Lines, clamp_to, row_of}
use Rattle.forming_predictions.specs.Means.{mean4}

-- the place of line j's first sample, in rows of w samples
abbrev pub line_start : ℕ → ℕ → ℕ → ℕ → ℕ
line_start first step w j = (first + step * j) * w

-- the sample that (x, y) reads in a view of `count` lines that is not empty
unfoldable pub view_read : List ℕ → ℕ → ℕ → ℕ → ℕ → ℤ → ℤ → ℕ
view_read samples w first step count x y = get_or samples (line_start first step w (clamp_to count y) + clamp_to w x) 0

-- the four cases of 7.6.4 as one: with a step of 0 to the side or down, samples are counted twice or four times
unfoldable pub spread : (ℤ → ℤ → ℕ) → ℤ → ℤ → ℕ → ℕ → ℕ
spread read x y dx dy = mean4 (read x y) (read (x +ℤ pos dx) y) (read x (y +ℤ pos dy)) (read (x +ℤ pos dx) (y +ℤ pos dy))

-- sample k of a row, from column x on: the mean of two rows' samples, the second one's dx columns to the right
unfoldable pub two_of : List ℕ → List ℕ → ℕ → ℕ → ℕ → ℕ
two_of row below x dx k = mean2 (get_or row (x + k) 0) (get_or below (x + dx + k) 0)

-- the mean of four samples of two rows
unfoldable pub four_of : List ℕ → List ℕ → ℕ → ℕ → ℕ → ℕ
four_of row below x dx k =
    mean4 (get_or row (x + k) 0) (get_or row (x + dx + k) 0) (get_or below (x + k) 0) (get_or below (x + dx + k) 0)

-- the mean of four samples of two rows, in the columns that x and the one dx further are clamped to
unfoldable pub clamped_of : List ℕ → List ℕ → ℤ → ℕ → ℕ
clamped_of row below x dx =
    let here = clamp_to (length row) x in
    let right = clamp_to (length row) (x +ℤ pos dx) in
    mean4 (get_or row here 0) (get_or row right 0) (get_or below here 0) (get_or below right 0)

-- sample k of a line y, from column x on
unfoldable pub line_cell : List ℕ → ℕ → ℕ → ℕ → ℕ → ℤ → ℤ → ℕ → ℕ → ℕ → ℕ
line_cell samples w first step count x y dx dy k = spread (view_read samples w first step count) (x +ℤ pos k) y dx dy

-- a row's sample in column k of a list of columns
abbrev pub picked_of : List ℕ → List ℕ → ℕ → ℕ
picked_of row columns k = get_or row (get_or columns k 0) 0

-- a line's sample in column k of a list of columns
unfoldable pub picked : List ℕ → ℕ → ℕ → ℕ → ℕ → List ℕ → ℤ → ℕ → ℕ
picked samples w first step count columns y k =
    get_or samples (line_start first step w (clamp_to count y) + get_or columns k 0) 0

-- the columns that a block reads
unfoldable pub column_at : ℕ → ℤ → ℕ → ℕ
column_at w x k = clamp_to w (x +ℤ pos k)

-- whether n places from a coordinate on lie below a limit
unfoldable pub inside_of : ℤ → ℕ → ℕ → Bool
inside_of (pos a) n limit = leb (a + n) limit
inside_of (negsuc a) n limit = false

-- a half as a step to the next sample
abbrev pub bit_of : Bool → ℕ
bit_of true = 1
bit_of false = 0

-- a view that is not empty and lies in the samples
pub record ViewFits (samples : List ℕ) (w first step count : ℕ) : Type 0 where
  pub some : 0 < w
  pub wide : w ≤ 16384
  pub low : first ≤ 1
  pub apart : step ≤ 2
  pub lines : 0 < count
  pub high : count ≤ 16384
  pub room : (j : ℕ) → j < count → line_start first step w j + w ≤ length samples

-- these rows of a plane of h rows are the ones that `l` reads, and none is outside it
pub record ReadsAs (l : Lines) (h first step count : ℕ) : Type 0 where
  pub low : first ≤ 1
  pub apart : step ≤ 2
  pub few : count ≤ h
  pub some : 0 < h → 0 < count
  pub inside : (j : ℕ) → j < count → first + step * j < h
  pub same : (y : ℤ) → first + step * clamp_to count y ≡ row_of l h y

-- 8 or 16
pub record Eights (n : ℕ) : Type 0 where
  pub some : 8 ≤ n
  pub wide : n ≤ 16
  pub even : n % 8 ≡ 0

-- a block's sides
pub record SidesFit (bw bh : ℕ) : Type 0 where
  pub some : 0 < bw
  pub wide : bw ≤ 16
  pub tall : 0 < bh
  pub high : bh ≤ 16

-- n samples from column x on, and their right neighbours, lie in two rows
pub record RowFits (row below : List ℕ) (x dx n : ℕ) : Type 0 where
  pub right : x + dx + n ≤ length row
  pub same : length below ≡ length row

-- every read of a block from (x, y) on lies in a view of w columns and `count` lines
pub record Inside (w count x y dx dy bw bh : ℕ) : Type 0 where
  pub right : x + dx + bw ≤ w
  pub below : y + dy + bh ≤ count

-- columns inside a row
pub record ColumnsFit (columns : List ℕ) (w : ℕ) : Type 0 where
  pub inside : (k : ℕ) → k < length columns → get_or columns k 0 < w

-- a coordinate from which as many steps can be made as a block asks for
pub record Reach (z : ℤ) : Type 0 where
  pub here : SFits w32 z
  pub last : SFits w32 (z +ℤ pos 17)
