-- ISO/IEC 13818-2, 7.6.3.5, 7.6.3.7 and 7.6.5: which directions a macroblock is predicted from, and by which vectors.
-- The scope (docs/SCOPE.md): without motion in either direction, zero vectors from the forward reference, each field from its own parity,
-- in every picture; with motion in both directions and one reference, that one alone, by its own vectors.
use Rattle.std.specs.Prelude.{Bool, ℕ, zero, suc, pos, true, false, Option, Some, None}
use Rattle.std.specs.Option.{option_map}
use Rattle.forming_predictions.specs.declared.FieldParity.TheVariants.{Top, Bottom}
use Rattle.pmv.specs.Chroma.{chroma_horizontal, chroma_vertical}
use Rattle.pmv.specs.declared.kinds.ChromaFormat.{ChromaFormat}
use Rattle.inter_reconstruction.specs.Components.{ColourComponent, luma, cb, cr}
use Rattle.inter_reconstruction.specs.declared.motion.MotionVectorPel.{MotionVectorPel}
use Rattle.inter_reconstruction.specs.declared.motion.FieldVector.{FieldVector}
use Rattle.inter_reconstruction.specs.declared.motion.FieldVectorPair.{FieldVectorPair}
use Rattle.inter_reconstruction.specs.declared.motion.Motion.{Motion}
use Rattle.inter_reconstruction.specs.declared.motion.DirectionMotion.{DirectionMotion}
use Rattle.inter_reconstruction.specs.declared.motion.DirectionMotion.TheVariants.{Frame, Field}
use Rattle.inter_reconstruction.specs.declared.motion.Uses.{Uses}
use Rattle.inter_reconstruction.specs.declared.motion.Uses.TheVariants.{Forward, Backward, Both}

-- ---- which directions are used

abbrev pub zero_vector : MotionVectorPel
zero_vector = record { horizontal = pos 0; vertical = pos 0 }

-- each field reads its own parity
abbrev pub zero_pair : FieldVectorPair
zero_pair =
    record {
      top = record { vector = zero_vector; reference_field = Top };
      bottom = record { vector = zero_vector; reference_field = Bottom };
    }

-- the directions that have motion. Without motion in either (7.6.3.5) it is the forward one, by zero vectors, `still`.
abbrev pub wanted : DirectionMotion → Option DirectionMotion → Option DirectionMotion → Uses
wanted still None None = Forward still
wanted still (Some d) None = Forward d
wanted still None (Some e) = Backward e
wanted still (Some d) (Some e) = Both d e

-- by whether the forward and the backward reference are there: of two directions the one whose reference is there, where the other's is
-- absent. A direction that is wanted alone stays wanted, and so do two whose references are both absent: these are refused.
abbrev pub remaining : Uses → Bool → Bool → Uses
remaining (Forward d) forward backward = Forward d
remaining (Backward e) forward backward = Backward e
remaining (Both d e) true true = Both d e
remaining (Both d e) true false = Forward d
remaining (Both d e) false true = Backward e
remaining (Both d e) false false = Both d e

-- backward motion, and no forward motion
abbrev pub BackwardAlone : Uses → Type 0
BackwardAlone (Forward d) = ⊥
BackwardAlone (Backward e) = Unit {0}
BackwardAlone (Both d e) = ⊥

-- the directions that are used, by the motion of each and the presence of the references
abbrev pub uses : DirectionMotion → Option DirectionMotion → Option DirectionMotion → Bool → Bool → Uses
uses still d e = remaining (wanted still d e)

-- the same of a macroblock's vectors, whatever they are: `of` is the motion that they stand for, and `still` are those of no motion
abbrev pub wanted_by : {V : Type 0} → (V → DirectionMotion) → V → Motion V → Uses
wanted_by of still m = wanted (of still) (option_map of m.forward) (option_map of m.backward)

abbrev pub uses_by : {V : Type 0} → (V → DirectionMotion) → V → Motion V → Bool → Bool → Uses
uses_by of still m = uses (of still) (option_map of m.forward) (option_map of m.backward)

-- of a frame-based macroblock, and of a field-based one
abbrev pub frame_wanted : Motion MotionVectorPel → Uses
frame_wanted = wanted_by Frame zero_vector

abbrev pub field_wanted : Motion FieldVectorPair → Uses
field_wanted = wanted_by Field zero_pair

abbrev pub frame_uses : Motion MotionVectorPel → Bool → Bool → Uses
frame_uses = uses_by Frame zero_vector

abbrev pub field_uses : Motion FieldVectorPair → Bool → Bool → Uses
field_uses = uses_by Field zero_pair

-- ---- 7.6.3.7: the vectors of the chrominance

abbrev pub chroma_vector : ChromaFormat → MotionVectorPel → MotionVectorPel
chroma_vector f v = record { horizontal = chroma_horizontal f v.horizontal; vertical = chroma_vertical f v.vertical }

abbrev pub chroma_field : ChromaFormat → FieldVector → FieldVector
chroma_field f u = record { vector = chroma_vector f u.vector; reference_field = u.reference_field }

abbrev pub chroma_motion : ChromaFormat → DirectionMotion → DirectionMotion
chroma_motion f (Frame v) = Frame (chroma_vector f v)
chroma_motion f (Field p) = Field (record { top = chroma_field f p.top; bottom = chroma_field f p.bottom })

abbrev pub chroma_uses : ChromaFormat → Uses → Uses
chroma_uses f (Forward d) = Forward (chroma_motion f d)
chroma_uses f (Backward e) = Backward (chroma_motion f e)
chroma_uses f (Both d e) = Both (chroma_motion f d) (chroma_motion f e)

-- for each component
abbrev pub uses_of : ChromaFormat → Uses → ColourComponent → Uses
uses_of f u luma = u
uses_of f u cb = chroma_uses f u
uses_of f u cr = chroma_uses f u

-- ---- 7.6.4, 7.6.5: the fields of a macroblock

-- a field's vector, by a frame row's number modulo 2: even rows are the top field's
abbrev pub field_vector_of : FieldVectorPair → ℕ → FieldVector
field_vector_of p zero = p.top
field_vector_of p (suc n) = p.bottom
