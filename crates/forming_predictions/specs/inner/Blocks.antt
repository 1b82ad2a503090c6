-- What is read in a view, by the structs of the code (src/view.rt). For private contracts alone.
use Rattle.std.specs.Prelude.{List, ℕ, ◌+◌, ◌-◌, ℤ, take, drop}
use Rattle.forming_predictions.specs.Forming.{block_of}
use Rattle.forming_predictions.specs.inner.Views.{line_start, view_read, spread, line_cell, picked, Inside}
use Rattle.forming_predictions.specs.declared.view.View.{View}
use Rattle.forming_predictions.specs.declared.view.Neighbour.{Neighbour}

-- the sample that (x, y) reads
abbrev pub read : View → ℤ → ℤ → ℕ
read v = view_read v.samples.now v.width v.first v.step v.count

-- the row of line j
abbrev pub row_at : View → ℕ → List ℕ
row_at v j =
    let start = line_start v.first v.step v.width j in
    take (start + v.width - start) (drop start v.samples.now)

-- the predicted sample at (x, y)
abbrev pub formed_at : View → Neighbour → ℤ → ℤ → ℕ
formed_at v to x y = spread (read v) x y to.right to.below

-- sample k of a line y, from column x on
abbrev pub cell_at : View → Neighbour → ℤ → ℤ → ℕ → ℕ
cell_at v to x y = line_cell v.samples.now v.width v.first v.step v.count x y to.right to.below

-- a block of w columns and h rows, from (x, y) on
abbrev pub block_at : View → Neighbour → ℤ → ℤ → ℕ → ℕ → List ℕ
block_at v to x y w h = block_of w h (λ (a b : ℤ). spread (read v) a b to.right to.below) x y

-- a line's sample in column k of a list of columns
abbrev pub picked_at : View → List ℕ → ℤ → ℕ → ℕ
picked_at v = picked v.samples.now v.width v.first v.step v.count

-- every read of such a block lies in the view
abbrev pub LiesIn : View → Neighbour → ℕ → ℕ → ℕ → ℕ → Type 0
LiesIn v to x y w h = Inside v.width v.count x y to.right to.below w h
