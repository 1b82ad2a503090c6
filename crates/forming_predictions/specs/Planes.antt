-- A plane that is read, as a record (src/lib.rt): what a coordinate reads in it, and what is refused of it.
use Rattle.std.specs.Prelude.{ℕ, ℤ, length, Option, Some, None}
use Rattle.forming_predictions.specs.Lines.{Lines, frame, field, sample_at}
use Rattle.forming_predictions.specs.Refusals.{plane_refusal, sample_refusal, block_refusal}
use Rattle.forming_predictions.specs.declared.FieldParity.{FieldParity}
use Rattle.forming_predictions.specs.declared.FormingRefusal.{FormingRefusal}
use Rattle.forming_predictions.specs.declared.ReferencePlane.{ReferencePlane}

-- the lines of a field, or the frame's where none is named
abbrev pub lines_by : Option FieldParity → Lines
lines_by None = frame
lines_by (Some p) = field p

-- the sample that (x, y) reads in a plane's lines
abbrev pub read_at : Lines → ReferencePlane → ℤ → ℤ → ℕ
read_at l p = sample_at l p.sides.width p.sides.height p.samples.now

abbrev pub count_of : ReferencePlane → ℕ
count_of p = length p.samples.now

-- what `sample`, `predict_sample` and `predict_block` refuse of a plane: at (x, y), and for a block of w columns and h rows into o bytes
abbrev pub plane_refused : ReferencePlane → Option FormingRefusal
plane_refused p = plane_refusal p.sides.width p.sides.height (count_of p)

abbrev pub sample_refused : ReferencePlane → ℤ → ℤ → Option FormingRefusal
sample_refused p = sample_refusal p.sides.width p.sides.height (count_of p)

abbrev pub block_refused : ReferencePlane → ℤ → ℤ → ℕ → ℕ → ℕ → Option FormingRefusal
block_refused p = block_refusal p.sides.width p.sides.height (count_of p)
