-- A frame, by component: the sides of its planes, and what is read of them.
-- The scope (docs/SCOPE.md): planes carry their own sides, and these say what is read. Nothing here is the standard's.
use Rattle.std.specs.Prelude.{List, [], ℕ, ℤ, length, Option, Some, None}
use Rattle.forming_predictions.specs.Lines.{Lines, sample_at}
use Rattle.forming_predictions.specs.declared.PlaneSides.{PlaneSides}
use Rattle.forming_predictions.specs.declared.ReferencePlane.{ReferencePlane}
use Rattle.inter_reconstruction.specs.Components.{ColourComponent, luma, cb, cr}
use Rattle.inter_reconstruction.specs.declared.frames.FrameSides.{FrameSides}
use Rattle.inter_reconstruction.specs.declared.frames.FrameBuffer.{FrameBuffer}

-- the samples of each component's plane, row after row
abbrev pub Samples : Type 0
Samples = ColourComponent → List ℕ

abbrev pub samples_of : List ℕ → List ℕ → List ℕ → Samples
samples_of y b r luma = y
samples_of y b r cb = b
samples_of y b r cr = r

abbrev pub lengths_of : Samples → ColourComponent → ℕ
lengths_of s c = length (s c)

-- the sides of a component's plane
abbrev pub plane_of : FrameSides → ColourComponent → PlaneSides
plane_of b luma = b.y
plane_of b cb = b.cb
plane_of b cr = b.cr

-- a plane as it is read: the sample at (x, y) of the frame's lines or of a field's
abbrev pub PlaneReading : Type 0
PlaneReading = Lines → ℤ → ℤ → ℕ

abbrev pub read_plane : PlaneSides → List ℕ → PlaneReading
read_plane p samples l = sample_at l p.width p.height samples

-- a frame's planes
abbrev pub read_frame : FrameSides → Samples → ColourComponent → PlaneReading
read_frame b s c = read_plane (plane_of b c) (s c)

-- a reference's; of one that is absent nothing is ever read
abbrev pub read_reference : Option FrameSides → Samples → ColourComponent → PlaneReading
read_reference None s c = λ (l : Lines) (x y : ℤ). 0
read_reference (Some b) s c = read_frame b s c

-- ---- planes and frames as a call is given them, with their samples (src/frames.rt)

abbrev pub plane_reading : ReferencePlane → PlaneReading
plane_reading p = read_plane p.sides p.samples.now

abbrev pub sides_of : FrameBuffer → FrameSides
sides_of b = record { geometry = b.geometry; y = b.y.sides; cb = b.cb.sides; cr = b.cr.sides }

abbrev pub samples_in : FrameBuffer → Samples
samples_in b = samples_of b.y.samples.now b.cb.samples.now b.cr.samples.now

abbrev pub frame_reading : FrameBuffer → ColourComponent → PlaneReading
frame_reading b = read_frame (sides_of b) (samples_in b)

-- a reference's, if it is there
abbrev pub given_sides : Option FrameBuffer → Option FrameSides
given_sides None = None
given_sides (Some b) = Some (sides_of b)

abbrev pub given_samples : Option FrameBuffer → Samples
given_samples None = λ (c : ColourComponent). []
given_samples (Some b) = samples_in b

abbrev pub given_lengths : Option FrameBuffer → ColourComponent → ℕ
given_lengths r = lengths_of (given_samples r)

abbrev pub given_reading : Option FrameBuffer → ColourComponent → PlaneReading
given_reading r = read_reference (given_sides r) (given_samples r)
