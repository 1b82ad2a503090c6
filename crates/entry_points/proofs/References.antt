-- What is promised of references that hold their samples is what is promised of their numbers with the samples beside them: of a reference
-- that is absent neither numbers nor samples are looked at.
-- Assumes nothing.
use mathlib.Core.Path.{◌≡◌, refl}
use mathlib.Core.Bool.{Bool, true, false}
use Prim.Native.Nat.{ℕ}
use Rattle.std.specs.Prelude.{cond, Option, Some, None, is_some}
use Rattle.forming_predictions.specs.Means.{rounded}
use Rattle.pmv.specs.declared.kinds.ChromaFormat.{ChromaFormat}
use Rattle.inter_reconstruction.specs.Components.{ColourComponent}
use Rattle.inter_reconstruction.specs.Frames.{Samples, samples_of, lengths_of, read_reference, sides_of, samples_in}
use Rattle.inter_reconstruction.specs.Macroblock.{predicted}
use Rattle.inter_reconstruction.specs.Refusals.{prediction_refusal}
use Rattle.inter_reconstruction.specs.Answers.{refusal_from, prediction_from}
use Rattle.inter_reconstruction.specs.declared.frames.FrameBuffer.{FrameBuffer}
use Rattle.inter_reconstruction.specs.declared.frames.FrameGeometry.{FrameGeometry}
use Rattle.inter_reconstruction.specs.declared.frames.FrameSides.{FrameSides}
use Rattle.inter_reconstruction.specs.declared.motion.Uses.{Uses}
use Rattle.inter_reconstruction.specs.declared.motion.Uses.TheVariants.{Forward, Backward, Both}
use Rattle.entry_points.specs.Entries.{is_yes, reference_of}
use Rattle.entry_points.specs.inner.Reading.{frame_meant, reference_meant}
use Rattle.entry_points.specs.declared.numbers.ReferenceNumbers.{ReferenceNumbers}

-- a reference where it is present, with its samples and without
abbrev held : Bool → FrameBuffer → Option FrameBuffer
held p b = cond p (Some b) None

abbrev bare : Bool → FrameBuffer → Option FrameSides
bare p b = cond p (Some (sides_of b)) None

abbrev lengths : FrameBuffer → ColourComponent → ℕ
lengths b = lengths_of (samples_in b)

same_refusal : (dest : FrameGeometry) (n : ℕ) (p q : Bool) (f b : FrameBuffer) (u : Uses) (col row : ℕ)
    → refusal_from dest n (held p f) (held q b) u col row ≡ prediction_refusal dest n (bare p f) (lengths f) (bare q b) (lengths b) u col row
same_refusal dest n true true f b u col row = refl
same_refusal dest n true false f b (Forward d) col row = refl
same_refusal dest n true false f b (Backward e) col row = refl
same_refusal dest n true false f b (Both d e) col row = refl
same_refusal dest n false true f b (Forward d) col row = refl
same_refusal dest n false true f b (Backward e) col row = refl
same_refusal dest n false true f b (Both d e) col row = refl
same_refusal dest n false false f b (Forward d) col row = refl
same_refusal dest n false false f b (Backward e) col row = refl
same_refusal dest n false false f b (Both d e) col row = refl

same_prediction : (g : ChromaFormat) (p q : Bool) (f b : FrameBuffer) (u : Uses) (col row : ℕ)
    → prediction_from g (held p f) (held q b) u col row
    ≡ predicted rounded g (read_reference (bare p f) (samples_in f)) (read_reference (bare q b) (samples_in b)) u col row
same_prediction g true true f b u col row = refl
same_prediction g true false f b u col row = refl
same_prediction g false true f b u col row = refl
same_prediction g false false f b u col row = refl

same_presence : (p : Bool) (b : FrameBuffer) → is_some (held p b) ≡ is_some (bare p b)
same_presence true b = refl
same_presence false b = refl

-- the sides that a reference's numbers mean
abbrev pub sides_meant : ReferenceNumbers → Option FrameSides
sides_meant n =
    reference_of
    n.present n.geometry.width n.geometry.height n.geometry.format n.y.sides.width n.y.sides.height n.cb.sides.width n.cb.sides.height
    n.cr.sides.width n.cr.sides.height

abbrev pub samples_meant : ReferenceNumbers → Samples
samples_meant n = samples_of n.y.samples.now n.cb.samples.now n.cr.samples.now

pub presence_meant : (n : ReferenceNumbers) → is_some (reference_meant n) ≡ is_some (sides_meant n)
unfolding reference_of
presence_meant n = same_presence (is_yes n.present) (frame_meant n)

-- `uses` are the directions that are used, by the presence of both references
module _ (f b : ReferenceNumbers) (uses : Bool → Bool → Uses) (col row : ℕ) where
  pub refusal_meant : (dest : FrameGeometry) (n : ℕ)
      → refusal_from dest n (reference_meant f) (reference_meant b) (uses (is_some (reference_meant f)) (is_some (reference_meant b))) col row
      ≡ prediction_refusal dest n (sides_meant f) (lengths_of (samples_meant f)) (sides_meant b) (lengths_of (samples_meant b)) (uses (is_some (sides_meant f)) (is_some (sides_meant b))) col row
  unfolding reference_of
  refusal_meant dest n =
      rw (presence_meant f, presence_meant b) (same_refusal dest n (is_yes f.present) (is_yes b.present) (frame_meant f) (frame_meant b) _ col row)

  pub bytes_meant : (g : ChromaFormat)
      → prediction_from g (reference_meant f) (reference_meant b) (uses (is_some (reference_meant f)) (is_some (reference_meant b))) col row
      ≡ predicted rounded g (read_reference (sides_meant f) (samples_meant f)) (read_reference (sides_meant b) (samples_meant b)) (uses (is_some (sides_meant f)) (is_some (sides_meant b))) col row
  unfolding reference_of
  bytes_meant g =
      rw (presence_meant f, presence_meant b) (same_prediction g (is_yes f.present) (is_yes b.present) (frame_meant f) (frame_meant b) _ col row)
