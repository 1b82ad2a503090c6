-- Demand 3: nobody who chooses picture 0 and the vectors can exceed the drift figure. docs/SCOPE.md, "The drift figure", has the hypotheses
-- and the scale. Nothing here is the standard's.
use Rattle.std.specs.Prelude.{◌≡◌, List, ℕ, ◌+◌, ◌*◌, ◌^◌, ◌≤◌, ◌<◌, length, get_or, Option, Some, None}
use Rattle.laws.specs.All.{All}
use Rattle.inter_reconstruction.specs.Components.{ColourComponent}
use Rattle.inter_reconstruction.specs.declared.frames.FrameGeometry.{FrameGeometry}
use Rattle.drift.specs.Steps.{Step, Pictures, after_steps}
use Rattle.drift.specs.Unrounded.{fitting_lengths, after_unrounded_steps, in_units}

-- ---- what is asked

-- pictures 0 to k have planes that fit one geometry
abbrev pub Fitting : FrameGeometry → ℕ → Pictures → Type 0
Fitting g k pictures = (n : ℕ) (c : ColourComponent) → n ≤ k → length (pictures n c) ≡ fitting_lengths g c

-- a reference is absent or a lower-numbered picture
abbrev pub Lower : ℕ → Option ℕ → Type 0
Lower n None = Unit {0}
Lower n (Some j) = j < n

-- a step is for one of pictures 1 to k
pub record InRange (k : ℕ) (s : Step) : Type 0 where
  pub first : 1 ≤ s.target
  pub last : s.target ≤ k
  pub forward : Lower s.target s.forward
  pub backward : Lower s.target s.backward

-- ---- what is claimed

-- a sample of picture n lies at most `above` quarters of a grey step above, and at most `below` quarters below, the unrounded one; both are
-- compared in units, 8 to the power n of them to a grey step
pub record Near (n above below sample unrounded : ℕ) : Type 0 where
  pub high : 4 * (8 ^ n * sample) ≤ 4 * unrounded + above * 8 ^ n
  pub low : 4 * unrounded ≤ 4 * (8 ^ n * sample) + below * 8 ^ n

-- every sample of picture n, in every component, lies so after the steps, whatever the pictures were at first and whatever the steps are. The
-- sides may be any, and a sample any number: that the sides are multiples of 16 up to 16,384 and the samples bytes, as the scope has it, is not
-- needed.
abbrev pub DriftWithin : ℕ → ℕ → ℕ → Type 0
DriftWithin n above below =
    (g : FrameGeometry) (k : ℕ) (first : Pictures)
    → Fitting g k first
    → (steps : List Step)
    → All (InRange k) steps
    → n ≤ k
    → (c : ColourComponent) (i : ℕ)
    → Near n above below (get_or (after_steps g steps first n c) i 0) (get_or (after_unrounded_steps g steps (in_units first) n c) i 0)

-- demand 3: n grey steps above and n / 4 below, for every picture n
abbrev pub DriftFigure : Type 0
DriftFigure = (n : ℕ) → DriftWithin n (4 * n) n
