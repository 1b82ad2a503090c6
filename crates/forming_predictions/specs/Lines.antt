-- Which sample of a plane a coordinate reads. ISO/IEC 13818-2, 7.6.4, reads samples of a reference frame or of a reference field, whose
-- lines are every second row of the frame; it allows no read outside. No place depends on a sample: other arithmetics read at the same places.
-- The scope (docs/SCOPE.md): clamping, to the plane or to the field's lines; what a plane without samples and a field without lines read.
use Rattle.std.specs.Prelude.{◌||◌, cond, List, ℕ, ◌+◌, ◌-◌, ◌*◌, ◌/◌, min, eqb, ℤ, pos, negsuc, get_or}
use Rattle.forming_predictions.specs.declared.FieldParity.{FieldParity}
use Rattle.forming_predictions.specs.declared.FieldParity.TheVariants.{Top, Bottom}

-- the lines that are read: a plane's rows, or those of one of its two fields
pub data Lines : Type 0 where
  frame : Lines
  field : FieldParity → Lines

-- the row that is a field's line 0
abbrev pub parity_row : FieldParity → ℕ
parity_row Top = 0
parity_row Bottom = 1

-- how many lines a field of a plane of h rows has: 17 rows have 9 top and 8 bottom lines
unfoldable pub field_lines : FieldParity → ℕ → ℕ
field_lines p h = (h + 1 - parity_row p) / 2

-- a coordinate moved into 0 .. n - 1
unfoldable pub clamp_to : ℕ → ℤ → ℕ
clamp_to n (pos a) = min a (n - 1)
clamp_to n (negsuc a) = 0

-- the row of a field's line y: the line is clamped to the field, and then looked up
abbrev pub line_row : FieldParity → ℕ → ℤ → ℕ
line_row p h y = 2 * clamp_to (field_lines p h) y + parity_row p

-- the row that y reads in a plane of h rows
unfoldable pub row_of : Lines → ℕ → ℤ → ℕ
row_of frame h y = clamp_to h y
row_of (field p) h y =
    cond (eqb (field_lines p h) 0)
    -- an empty field reads row `parity`, clamped to the plane
    (clamp_to h (pos (parity_row p)))
    (line_row p h y)

-- the place in a plane of w columns and h rows that (x, y) reads, counted row after row
abbrev pub place_of : Lines → ℕ → ℕ → ℤ → ℤ → ℕ
place_of l w h x y = row_of l h y * w + clamp_to w x

-- the sample that (x, y) reads
unfoldable pub sample_at : Lines → ℕ → ℕ → List ℕ → ℤ → ℤ → ℕ
sample_at l w h samples x y =
    cond (eqb w 0 || eqb h 0)
    -- an empty plane samples 0
    0
    (get_or samples (place_of l w h x y) 0)
