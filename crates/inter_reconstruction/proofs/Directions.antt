-- Laws of the directions that are used: what the presence of the references changes, and what it does not.
-- Assumes nothing.
use mathlib.Core.Path.{◌≡◌, refl, sym, ap, ◌∙◌}
use mathlib.Core.Bool.{Bool, true, false, not, ◌||◌}
use mathlib.Core.List.{List}
use Prim.Native.Nat.{ℕ}
use lib.Dec.{eqb}
use Rattle.std.specs.Prelude.{Option, Some, None, Result, Ok, is_some}
use Rattle.std.specs.Result.{result_err}
use Rattle.combine_predictions.specs.Refusals.{cause, or_else, answered, unless_refused}
use Rattle.combine_predictions.proofs.Answers.{refusal_of}
use Rattle.inter_reconstruction.specs.Components.{ColourComponent, macroblock_bytes}
use Rattle.inter_reconstruction.specs.Motion.{remaining, BackwardAlone}
use Rattle.inter_reconstruction.specs.Refusals.{too_far, cell_refusal, same_geometry, planes_fit, geometry_refusal, planes_refusal, references_refusal, prediction_refusal}
use Rattle.inter_reconstruction.specs.Frames.{given_sides, given_lengths}
use Rattle.inter_reconstruction.specs.Answers.{accepted, directions_of, prediction_directions, refusal_from}
use Rattle.inter_reconstruction.specs.declared.frames.FrameBuffer.{FrameBuffer}
use Rattle.inter_reconstruction.specs.declared.frames.FrameGeometry.{FrameGeometry}
use Rattle.inter_reconstruction.specs.declared.frames.FrameSides.{FrameSides}
use Rattle.inter_reconstruction.specs.declared.motion.DirectionMotion.{DirectionMotion}
use Rattle.inter_reconstruction.specs.declared.motion.Uses.{Uses}
use Rattle.inter_reconstruction.specs.declared.motion.Uses.TheVariants.{Forward, Backward, Both}
use Rattle.inter_reconstruction.specs.declared.macroblock.Accepted.{Accepted}
use Rattle.inter_reconstruction.specs.declared.macroblock.PredictionRefusal.{PredictionRefusal}
use Rattle.inter_reconstruction.specs.declared.macroblock.PredictionRefusal.TheVariants.{CellTooFar, OutsideDomain, OtherGeometry, ForwardMissing, BackwardMissing, WrongLength}

-- ---- what the references refuse

-- a refusal that is not that of an absent backward reference
abbrev Other : Option PredictionRefusal → Type 0
Other o = o ≡ Some BackwardMissing → ⊥

cause_other : (t : Bool) (r : PredictionRefusal) → Other (Some r) → Other (cause t r)
cause_other true r h e = h e
cause_other false r h e = absurd cc

or_else_other : (a b : Option PredictionRefusal) → Other a → Other b → Other (or_else a b)
or_else_other None b h k e = k e
or_else_other (Some r) b h k e = h e

geometry_other : (dest : FrameGeometry) (r : Option FrameSides) → Other (geometry_refusal dest r)
geometry_other dest None e = absurd cc
geometry_other dest (Some p) e = cause_other (not (same_geometry p.geometry dest)) OtherGeometry (λ z. absurd cc) e

planes_other : (r : Option FrameSides) (n : ColourComponent → ℕ) → Other (planes_refusal r n)
planes_other None n e = absurd cc
planes_other (Some p) n e = cause_other (not (planes_fit p n)) OutsideDomain (λ z. absurd cc) e

one_other : (dest : FrameGeometry) (r : Option FrameSides) (n : ColourComponent → ℕ) → Other (or_else (geometry_refusal dest r) (planes_refusal r n))
one_other dest r n = or_else_other _ _ (geometry_other dest r) (planes_other r n)

module _ (dest : FrameGeometry) (n k : ColourComponent → ℕ) where
  -- what is accepted by the directions that have motion uses these
  pub unchanged : (f b : Option FrameSides) (u : Uses) → references_refusal dest f n b k u ≡ None → remaining u (is_some f) (is_some b) ≡ u
  unchanged f b (Forward d) a = refl
  unchanged f b (Backward e) a = refl
  unchanged None b (Both d e) a = absurd cc
  unchanged (Some p) None (Both d e) a = absurd cc
  unchanged (Some p) (Some q) (Both d e) a = refl

  both_other : (p q : FrameSides) (d e : DirectionMotion) → Other (references_refusal dest (Some p) n (Some q) k (Both d e))
  both_other p q d e =
      or_else_other (geometry_refusal dest (Some p)) _ (geometry_other dest (Some p))
      (or_else_other (geometry_refusal dest (Some q)) _ (geometry_other dest (Some q))
      (or_else_other (planes_refusal (Some p) n) _ (planes_other (Some p) n) (planes_other (Some q) k)))

  -- 17 is a backward reference that is absent, where there is backward motion alone
  pub backward_only : (f b : Option FrameSides) (u : Uses)
      → references_refusal dest f n b k (remaining u (is_some f) (is_some b)) ≡ Some BackwardMissing
      → BackwardAlone u × (is_some b ≡ false)
  backward_only f None (Backward e) a = (tt, refl)
  backward_only f (Some q) (Backward e) a = absurd (one_other dest (Some q) k a)
  backward_only None b (Forward d) a = absurd cc
  backward_only (Some p) b (Forward d) a = absurd (one_other dest (Some p) n a)
  backward_only None None (Both d e) a = absurd cc
  backward_only None (Some q) (Both d e) a = absurd (one_other dest (Some q) k a)
  backward_only (Some p) None (Both d e) a = absurd (one_other dest (Some p) n a)
  backward_only (Some p) (Some q) (Both d e) a = absurd (both_other p q d e a)

  -- of motion in both directions: both references absent, and each of the two alone
  module _ (d e : DirectionMotion) (p : FrameSides) where
    pub both_absent : references_refusal dest None n None k (remaining (Both d e) false false) ≡ Some ForwardMissing
    both_absent = refl

    pub forward_there : references_refusal dest (Some p) n None k (remaining (Both d e) true false)
        ≡ or_else (geometry_refusal dest (Some p)) (planes_refusal (Some p) n)
    forward_there = refl

    pub backward_there : references_refusal dest None n (Some p) k (remaining (Both d e) false true)
        ≡ or_else (geometry_refusal dest (Some p)) (planes_refusal (Some p) k)
    backward_there = refl

-- ---- the same of a whole call: of its refusal and its answer

-- a chain of three gives a reason that neither of the first two gives only where the third does
third : (a b c : Option PredictionRefusal) → Other a → Other b → or_else a (or_else b c) ≡ Some BackwardMissing → c ≡ Some BackwardMissing
third None None c x y e = e
third None (Some r) c x y e = absurd (y e)
third (Some r) b c x y e = absurd (x e)

-- a chain of three refuses nothing only where each of them does
last_none : (a b c : Option PredictionRefusal) → or_else a (or_else b c) ≡ None → c ≡ None
last_none None None c e = e
last_none None (Some r) c e = absurd cc
last_none (Some r) b c e = absurd cc

-- what an accepted answer tells
pub told : (r : Result Accepted PredictionRefusal) (n : Option PredictionRefusal) (u : Uses)
    → r ≡ answered n (accepted u) → result_err r ≡ None → prediction_directions r ≡ Some (directions_of u)
told r None u a e = ap prediction_directions a
told r (Some q) u a e = let z : Some q ≡ None = sym (refusal_of (Some q) (accepted u) a) ∙ e in absurd cc

module _ (dest : FrameGeometry) (out : ℕ) (f b : Option FrameSides) (n k : ColourComponent → ℕ) (u : Uses) (col row : ℕ) where
  abbrev used : Uses
  used = remaining u (is_some f) (is_some b)

  pub same_uses : prediction_refusal dest out f n b k u col row ≡ None → used ≡ u
  same_uses e =
      unchanged dest n k f b u
      (last_none (cell_refusal col row) (cause (not (eqb out (macroblock_bytes dest.chroma_format))) WrongLength) (references_refusal dest f n b k u) e)

  -- samples given before are unchanged: what was accepted by the directions that have motion is answered and written by these
  pub as_before : (r : Result Accepted PredictionRefusal) (o old : List ℕ) (w : Uses → List ℕ)
      → r ≡ answered (prediction_refusal dest out f n b k used col row) (accepted used)
      → o ≡ unless_refused (result_err r) (w used) old
      → prediction_refusal dest out f n b k u col row ≡ None
      → (r ≡ Ok (accepted u)) × (o ≡ w u)
  as_before r o old w a v e =
      let s = same_uses e in
      let x : r ≡ Ok (accepted u) = a ∙ rw (s, e) in
      (x, v ∙ rw (x, s))

  -- 17 is backward motion's alone
  pub alone_17 : (r : Result Accepted PredictionRefusal)
      → r ≡ answered (prediction_refusal dest out f n b k used col row) (accepted used)
      → result_err r ≡ Some BackwardMissing
      → BackwardAlone u × (is_some b ≡ false)
  alone_17 r a e =
      let m : prediction_refusal dest out f n b k used col row ≡ Some BackwardMissing = sym (refusal_of _ _ a) ∙ e in
      backward_only dest n k f b u
      (third (cell_refusal col row) (cause (not (eqb out (macroblock_bytes dest.chroma_format))) WrongLength) _
      (cause_other (too_far col || too_far row) CellTooFar (λ z. absurd cc))
      (cause_other (not (eqb out (macroblock_bytes dest.chroma_format))) WrongLength (λ z. absurd cc))
      m)

-- ---- by references that hold their samples
there : (r : Option FrameBuffer) → is_some (given_sides r) ≡ is_some r
there None = refl
there (Some b) = refl

module _ (dest : FrameGeometry) (out : ℕ) (f b : Option FrameBuffer) (u : Uses) (col row : ℕ) where
  by_presence : remaining u (is_some (given_sides f)) (is_some (given_sides b)) ≡ remaining u (is_some f) (is_some b)
  by_presence = rw (there f, there b)

  pub given_before : (r : Result Accepted PredictionRefusal) (o old : List ℕ) (w : Uses → List ℕ)
      → r ≡ answered (refusal_from dest out f b (remaining u (is_some f) (is_some b)) col row) (accepted (remaining u (is_some f) (is_some b)))
      → o ≡ unless_refused (result_err r) (w (remaining u (is_some f) (is_some b))) old
      → refusal_from dest out f b u col row ≡ None
      → (r ≡ Ok (accepted u)) × (o ≡ w u)
  given_before r o old w a v e =
      as_before dest out (given_sides f) (given_sides b) (given_lengths f) (given_lengths b) u col row r o old w
      (rw by_presence a) (rw by_presence v) e
