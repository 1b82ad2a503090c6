-- On pictures whose planes fit, a step by the two calls does what the table says: nothing, or the macroblock in its cell.
-- Assumes nothing.
use mathlib.Core.Path.{◌≡◌, refl, ap, ◌∙◌, fun_ext}
use mathlib.Core.Bool.{Bool, true, false, cond}
use Rattle.std.specs.Prelude.{Option, Some, None}
use Rattle.std.specs.Option.{option_map}
use Prim.Native.Nat.{ℕ, ◌≤◌}
use native.Mathlib.Omega.{arith}
use lib.Dec.{eqb}
use lib.ListN.{length, length-append}
use Rattle.combine_predictions.specs.Refusals.{or_else, unless_refused}
use Rattle.forming_predictions.specs.Means.{Means, rounded}
use Rattle.pmv.specs.declared.kinds.ChromaFormat.{ChromaFormat}
use Rattle.inter_reconstruction.specs.Components.{ColourComponent, macroblock_bytes}
use Rattle.inter_reconstruction.specs.Frames.{lengths_of, PlaneReading}
use Rattle.inter_reconstruction.specs.Macroblock.{macroblock, predicted}
use Rattle.inter_reconstruction.specs.Refusals.{prediction_number, planes_refusal, references_refusal, prediction_refusal}
use Rattle.inter_reconstruction.specs.Placing.{placing_number, placing_refusal}
use Rattle.inter_reconstruction.specs.declared.frames.FrameGeometry.{FrameGeometry}
use Rattle.inter_reconstruction.specs.declared.motion.Uses.{Uses}
use Rattle.inter_reconstruction.specs.declared.macroblock.PredictionRefusal.{PredictionRefusal}
use Rattle.inter_reconstruction.specs.declared.placing.PlacingRefusal.{PlacingRefusal}
use Rattle.inter_reconstruction.specs.declared.motion.Uses.TheVariants.{Forward, Backward, Both}
use Rattle.inter_reconstruction.proofs.Rectangles.{rectangle_length}
use Rattle.inter_reconstruction.proofs.Stored.{stored_length}
use Rattle.drift.specs.Steps.{Step, step_uses, Pictures, replaced, fitting, reference, reference_samples, step_prediction_refusal, prediction, step_placing_refusal, placement, after_step}
use Rattle.drift.specs.Unrounded.{fitting_lengths, table_refusal}
use Rattle.drift.specs.Drift.{Fitting, Lower, InRange}

-- a macroblock's length, in any arithmetic
pub predicted_length : (m : Means) (f : ChromaFormat) (r s : ColourComponent → PlaneReading) (u : Uses) (col row : ℕ)
    → length (predicted m f r s u col row) ≡ macroblock_bytes f
unfolding macroblock
predicted_length m f r s u col row = simp (length-append, rectangle_length)

module _ (g : FrameGeometry) (k : ℕ) (pictures : Pictures) (fit : Fitting g k pictures) where
  lengths : (n : ℕ) → n ≤ k → lengths_of (pictures n) ≡ fitting_lengths g
  lengths n h = fun_ext (λ c. fit n c h)

  -- a reference's planes, where it is there
  planes : (n : ℕ) → n ≤ k → (r : Option ℕ) → Lower n r
      → planes_refusal (reference g r) (lengths_of (reference_samples pictures r)) ≡ planes_refusal (reference g r) (fitting_lengths g)
  planes n h None l = refl
  planes n h (Some j) l = ap (planes_refusal (reference g (Some j))) (lengths j (omega (arith, l)))

  references : (n : ℕ) → n ≤ k → (f b : Option ℕ) → Lower n f → Lower n b → (u : Uses)
      → references_refusal g (reference g f) (lengths_of (reference_samples pictures f)) (reference g b) (lengths_of (reference_samples pictures b)) u
      ≡ references_refusal g (reference g f) (fitting_lengths g) (reference g b) (fitting_lengths g) u
  references n h f b lf lb (Forward d) = rw (planes n h f lf)
  references n h f b lf lb (Backward e) = rw (planes n h b lb)
  references n h f b lf lb (Both d e) = rw (planes n h f lf, planes n h b lb)

  module _ (s : Step) (r : InRange k s) where
    -- what the table refuses of the prediction, and of placing
    abbrev prediction_table : Option PredictionRefusal
    prediction_table =
        prediction_refusal g (macroblock_bytes g.chroma_format) (reference g s.forward) (fitting_lengths g)
        (reference g s.backward) (fitting_lengths g) (step_uses s) s.column s.row

    abbrev placing_table : Option PlacingRefusal
    placing_table = placing_refusal (fitting g) (fitting_lengths g) (macroblock_bytes g.chroma_format) s.column s.row

    predicts : step_prediction_refusal g s pictures ≡ prediction_table
    unfolding step_prediction_refusal
    predicts = rw (references s.target r.last s.forward s.backward r.forward r.backward (step_uses s))

    places : step_placing_refusal g s pictures ≡ placing_table
    unfolding step_placing_refusal prediction
    places = rw (lengths s.target r.last, predicted_length rounded g.chroma_format _ _ (step_uses s) s.column s.row)

    -- one refusal after the other is the first of them
    chain : (a : Option PredictionRefusal) (b : Option PlacingRefusal) (new : Pictures)
        → unless_refused a (unless_refused b new pictures) pictures
        ≡ unless_refused (or_else (option_map prediction_number a) (option_map placing_number b)) new pictures
    chain None None new = refl
    chain None (Some b) new = refl
    chain (Some a) b new = refl

    pub step_is : after_step g s pictures ≡ unless_refused (table_refusal g s) (replaced pictures s.target (placement g s pictures)) pictures
    unfolding table_refusal
    step_is = rw (predicts, places) (chain prediction_table placing_table (replaced pictures s.target (placement g s pictures)))

    placed_fits : (c : ColourComponent) → length (placement g s pictures c) ≡ fitting_lengths g c
    unfolding placement
    placed_fits c = stored_length _ _ _ ∙ fit s.target c r.last

    replaced_fits : (b : Bool) (m : ℕ) (c : ColourComponent) → m ≤ k → length (cond b (placement g s pictures) (pictures m) c) ≡ fitting_lengths g c
    replaced_fits true m c h = placed_fits c
    replaced_fits false m c h = fit m c h

    table_fits : (t : Option ℕ) → Fitting g k (unless_refused t (replaced pictures s.target (placement g s pictures)) pictures)
    table_fits None m c h = replaced_fits (eqb m s.target) m c h
    table_fits (Some t) m c h = fit m c h

    pub step_fits : Fitting g k (after_step g s pictures)
    step_fits = rw step_is (table_fits (table_refusal g s))
