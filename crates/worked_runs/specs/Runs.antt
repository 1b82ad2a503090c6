-- Runs of the drift figure that are computed on both sides, by the calls and with every mean exact: two meet the figure, above and below, so that it
-- cannot be made smaller; a third has field-based prediction and refused steps. docs/SCOPE.md, "The drift figure". Nothing here is the standard's.
use Rattle.std.specs.Prelude.{◌≡◌, List, [], ◌∷◌, ◌++◌, ℕ, zero, suc, ◌+◌, ◌-◌, ◌*◌, ◌/◌, ◌%◌, ◌^◌, ◌≤◌, pos, negsuc, get_or, replicate, Some, None}
use Rattle.laws.specs.All.{All}
use Rattle.laws.specs.Tabulate.{tabulate}
use Rattle.forming_predictions.specs.declared.FieldParity.TheVariants.{Top, Bottom}
use Rattle.pmv.specs.declared.kinds.ChromaFormat.TheVariants.{Yuv420}
use Rattle.inter_reconstruction.specs.Components.{ColourComponent, luma, cb, cr}
use Rattle.inter_reconstruction.specs.declared.frames.FrameGeometry.{FrameGeometry}
use Rattle.inter_reconstruction.specs.declared.motion.FieldVectorPair.{FieldVectorPair}
use Rattle.drift.specs.Steps.{Step, frame_based, field_based, Pictures, after_steps}
use Rattle.drift.specs.Unrounded.{table_refusal, after_unrounded_steps, in_units}
use Rattle.drift.specs.Drift.{DriftWithin}

-- ---- what is claimed of the figure

-- picture n's figure cannot be made smaller: whatever bounds hold of every run are at least as large, above and below
abbrev pub Tight : ℕ → Type 0
Tight n = (above below : ℕ) → DriftWithin n above below → (4 * n ≤ above) × (n ≤ below)

abbrev pub TightUpTo : ℕ → Type 0
TightUpTo k = (n : ℕ) → n ≤ k → Tight n

-- ---- pictures of one macroblock, and what the two runs have at an index of picture n

abbrev pub g : FrameGeometry
g = record { width = 16; height = 16; chroma_format = Yuv420 }

-- all start with the same luminance
abbrev pub pictures : (ℕ → ℕ) → Pictures
pictures f n luma = tabulate 256 f
pictures f n cb = replicate 64 3
pictures f n cr = replicate 64 4

-- a step for each of pictures 1 to n
abbrev pub each : (ℕ → Step) → ℕ → List Step
each s zero = []
each s (suc n) = each s n ++ (s (suc n) ∷ [])

abbrev pub sample_of : List Step → Pictures → ℕ → ColourComponent → ℕ → ℕ
sample_of steps first n c i = get_or (after_steps g steps first n c) i 0

abbrev pub unrounded_of : List Step → Pictures → ℕ → ColourComponent → ℕ → ℕ
unrounded_of steps first n c i = get_or (after_unrounded_steps g steps (in_units first) n c) i 0

-- ---- n above: rows 0, 1, 2, .. by the row's number. Both directions from the picture before, half a row down and half a row up, make each
-- picture a grey step brighter, and the means are the rows again

abbrev pub rows : Pictures
rows = pictures (λ (k : ℕ). k / 16)

abbrev pub brighter : ℕ → Step
brighter n =
    record {
      target = n;
      forward = Some (n - 1);
      backward = Some (n - 1);
      column = 0;
      row = 0;
      motion =
          frame_based
          (record {
            forward = Some (record { horizontal = pos 0; vertical = pos 1 });
            backward = Some (record { horizontal = pos 0; vertical = negsuc 0 });
          });
    }

-- at row 8
abbrev pub MeetsAbove : ℕ → Type 0
MeetsAbove n =
    4 * (8 ^ n * sample_of (each brighter n) rows n luma 128) ≡ 4 * unrounded_of (each brighter n) rows n luma 128 + 4 * n * 8 ^ n

-- ---- n / 4 below: d (d - 1) / 2 at column x and row y, where d is x - y. Half a sample to the right and down, the sum of four samples is one
-- more than four times the first: the picture stays, and the means gain a quarter

abbrev pub triangle : ℕ → ℕ → ℕ
triangle x y = (x - y) * (x - y - 1) / 2 + (y - x) * (y - x + 1) / 2

abbrev pub hollow : Pictures
hollow = pictures (λ (k : ℕ). triangle (k % 16) (k / 16))

abbrev pub unchanged : ℕ → Step
unchanged n =
    record {
      target = n;
      forward = Some (n - 1);
      backward = None;
      column = 0;
      row = 0;
      motion = frame_based (record { forward = Some (record { horizontal = pos 1; vertical = pos 1 }); backward = None });
    }

-- at column 3 and row 1
abbrev pub MeetsBelow : ℕ → Type 0
MeetsBelow n =
    4 * unrounded_of (each unchanged n) hollow n luma 19 ≡ 4 * (8 ^ n * sample_of (each unchanged n) hollow n luma 19) + n * 8 ^ n

-- pictures 1 to 4 meet the figure, above and below
abbrev pub FigureMet : Type 0
FigureMet = All MeetsAbove (1 ∷ 2 ∷ 3 ∷ 4 ∷ []) × All MeetsBelow (1 ∷ 2 ∷ 3 ∷ 4 ∷ [])

-- ---- a list with field-based prediction and with steps that are refused

-- each field by a vector and a field of its own, the backward ones by others
abbrev pub there : FieldVectorPair
there =
    record {
      top = record { vector = record { horizontal = pos 1; vertical = negsuc 2 }; reference_field = Bottom };
      bottom = record { vector = record { horizontal = negsuc 4; vertical = pos 2 }; reference_field = Top };
    }

abbrev pub back : FieldVectorPair
back =
    record {
      top = record { vector = record { horizontal = negsuc 1; vertical = pos 1 }; reference_field = Top };
      bottom = record { vector = record { horizontal = pos 4; vertical = pos 5 }; reference_field = Bottom };
    }

abbrev pub mixed : Step
mixed =
    record {
      target = 2;
      forward = Some 0;
      backward = Some 1;
      column = 0;
      row = 0;
      motion = field_based (record { forward = Some there; backward = Some back });
    }

-- motion in both directions and neither reference; a cell outside the picture
abbrev pub missing : Step
missing = record { target = 2; forward = None; backward = None; column = 0; row = 0; motion = mixed.motion }

abbrev pub outside : Step
outside = record { target = 2; forward = Some 0; backward = Some 1; column = 1; row = 0; motion = mixed.motion }

abbrev pub Refused : Type 0
Refused = (table_refusal g mixed ≡ None) × (table_refusal g missing ≡ Some 16) × (table_refusal g outside ≡ Some 20)

abbrev pub steps : List Step
steps = missing ∷ brighter 1 ∷ mixed ∷ outside ∷ unchanged 1 ∷ missing ∷ []

-- a sample of picture 2 on both sides, in row 5, by the bottom fields' vectors: 5 beside 4 1/8 grey steps
abbrev pub BothSides : Type 0
BothSides = (sample_of steps hollow 2 luma 86 ≡ 5) × (unrounded_of steps hollow 2 luma 86 ≡ 264)

-- a sample of picture 1's Cb, by vectors without a half: 3 grey steps on both sides
abbrev pub WholeVectors : Type 0
WholeVectors = (sample_of steps hollow 1 cb 9 ≡ 3) × (unrounded_of steps hollow 1 cb 9 ≡ 24)

abbrev pub ListHolds : Type 0
ListHolds = Refused × BothSides × WholeVectors
