-- The scope (docs/SCOPE.md, "The drift figure"): the same steps with every mean exact. Unrounded pictures are fed the geometry and the
-- steps alone, never an answer of a call. A sample of picture n is counted in units, 8 to the power n of them to a grey step: at most four
-- samples and then two directions are averaged for each picture, so that all stays whole. Where is read, and placed, is by the definitions
-- of the calls; the arithmetic is the scope's and not the standard's.
use Rattle.std.specs.Prelude.{List, [], ◌∷◌, map, ℕ, ◌+◌, ◌-◌, ◌*◌, ◌^◌, ℤ, Option, Some, None}
use Rattle.std.specs.Option.{option_map}
use Rattle.combine_predictions.specs.Refusals.{or_else, unless_refused}
use Rattle.forming_predictions.specs.Lines.{Lines}
use Rattle.forming_predictions.specs.Means.{Means}
use Rattle.inter_reconstruction.specs.Components.{ColourComponent, macroblock_bytes}
use Rattle.inter_reconstruction.specs.Frames.{Samples, PlaneReading, plane_of, read_frame}
use Rattle.inter_reconstruction.specs.Macroblock.{predicted}
use Rattle.inter_reconstruction.specs.Refusals.{prediction_number, prediction_refusal}
use Rattle.inter_reconstruction.specs.Placing.{placed, placing_number, placing_refusal}
use Rattle.inter_reconstruction.specs.declared.frames.FrameGeometry.{FrameGeometry}
use Rattle.drift.specs.Steps.{Step, step_uses, Pictures, replaced, fitting, reference}

-- nothing is divided. A direction adds one sample four times, two neighbours twice each, or four once; a single direction is doubled
abbrev pub unrounded : Means
unrounded =
    record {
      one = λ (a : ℕ). 4 * a;
      two = λ (a b : ℕ). 2 * a + 2 * b;
      four = λ (a b c d : ℕ). a + b + c + d;
      single = λ (a : ℕ). 2 * a;
      join = λ (a b : ℕ). a + b;
    }

-- ---- what the table refuses, from the geometry and the step

-- as many samples as the sides say
abbrev pub fitting_lengths : FrameGeometry → ColourComponent → ℕ
fitting_lengths g c = (plane_of (fitting g) c).width * (plane_of (fitting g) c).height

-- prediction, then placing, by their numbers
unfoldable pub table_refusal : FrameGeometry → Step → Option ℕ
table_refusal g s =
    or_else
    (option_map prediction_number
    (prediction_refusal g (macroblock_bytes g.chroma_format) (reference g s.forward) (fitting_lengths g)
    (reference g s.backward) (fitting_lengths g) (step_uses s) s.column s.row))
    (option_map placing_number (placing_refusal (fitting g) (fitting_lengths g) (macroblock_bytes g.chroma_format) s.column s.row))

-- ---- a step

-- what is read for picture n: where prediction reads, but out of the reference's unrounded picture, and with j its number, times 8 to the
-- power n - 1 - j. Of a reference that is absent nothing is ever read.
abbrev pub unrounded_reading : FrameGeometry → ℕ → Pictures → Option ℕ → ColourComponent → PlaneReading
unrounded_reading g n pictures None c = λ (l : Lines) (x y : ℤ). 0
unrounded_reading g n pictures (Some j) c = λ (l : Lines) (x y : ℤ). 8 ^ (n - 1 - j) * read_frame (fitting g) (pictures j) c l x y

unfoldable pub unrounded_prediction : FrameGeometry → Step → Pictures → List ℕ
unrounded_prediction g s pictures =
    predicted unrounded g.chroma_format
    (unrounded_reading g s.target pictures s.forward)
    (unrounded_reading g s.target pictures s.backward)
    (step_uses s) s.column s.row

unfoldable pub unrounded_placement : FrameGeometry → Step → Pictures → Samples
unrounded_placement g s pictures = placed (fitting g) s.column s.row (unrounded_prediction g s pictures) (pictures s.target)

abbrev pub after_unrounded : FrameGeometry → Step → Pictures → Pictures
after_unrounded g s pictures =
    unless_refused (table_refusal g s) (replaced pictures s.target (unrounded_placement g s pictures)) pictures

abbrev pub after_unrounded_steps : FrameGeometry → List Step → Pictures → Pictures
after_unrounded_steps g [] pictures = pictures
after_unrounded_steps g (s ∷ ss) pictures = after_unrounded_steps g ss (after_unrounded g s pictures)

-- picture n starts as its first bytes times 8 to the power n
abbrev pub in_units : Pictures → Pictures
in_units pictures n c = map (λ (b : ℕ). 8 ^ n * b) (pictures n c)
