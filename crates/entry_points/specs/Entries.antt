-- The C entry points, by docs/SCOPE.md. Kinds and flags cross as numbers, counted from 0 in the order of the Rust's enums, no and yes as 0
-- and 1; any other number that is read is refused before all else. What is absent has a 0 beside it, and its other numbers are not read.
-- Nothing here is the standard's, whose codes are mostly others.
use Rattle.std.specs.Prelude.{Bool, false, not, ◌&&◌, ◌||◌, cond, List, ℕ, zero, suc, eqb, ℤ, Option, Some, None, is_some, unwrap_or, Result, Ok, Err}
use Rattle.combine_predictions.specs.Refusals.{refusal_number}
use Rattle.forming_predictions.specs.declared.FieldParity.TheVariants.{Top}
use Rattle.forming_predictions.specs.Parities.{parity_from}
use Rattle.pmv.specs.Kinds.{flag_from, chroma_from, index_from, direction_from, format_from, structure_from, type_from}
use Rattle.pmv.specs.Predictors.{pair_of}
use Rattle.pmv.specs.Vector.{ported, reconstructed_pair}
use Rattle.pmv.specs.declared.component.VectorRefusal.{VectorRefusal}
use Rattle.pmv.specs.declared.kinds.ChromaFormat.TheVariants.{Yuv420}
use Rattle.pmv.specs.declared.kinds.VectorIndex.{VectorIndex}
use Rattle.pmv.specs.declared.kinds.VectorIndex.TheVariants.{First}
use Rattle.pmv.specs.declared.kinds.Direction.{Direction}
use Rattle.pmv.specs.declared.kinds.Direction.TheVariants.{Forward}
use Rattle.pmv.specs.declared.kinds.MvFormat.{MvFormat}
use Rattle.pmv.specs.declared.kinds.MvFormat.TheVariants as Format
use Rattle.pmv.specs.declared.kinds.PictureStructure.{PictureStructure}
use Rattle.pmv.specs.declared.kinds.PictureStructure.TheVariants.{TopField}
use Rattle.pmv.specs.declared.kinds.PredictionType.{PredictionType}
use Rattle.pmv.specs.declared.kinds.PredictionType.TheVariants.{FieldBased}
use Rattle.pmv.specs.declared.vector.MotionVector.{MotionVector}
use Rattle.pmv.specs.declared.vector.DecodedPair.{DecodedPair}
use Rattle.pmv.specs.declared.vector.VectorComponents.{VectorComponents}
use Rattle.pmv.specs.declared.update.PmvUpdateContext.{PmvUpdateContext}
use Rattle.entry_points.specs.Layout.{predictors_of, pair_bytes}
use Rattle.inter_reconstruction.specs.declared.frames.FrameGeometry.{FrameGeometry}
use Rattle.inter_reconstruction.specs.declared.frames.FrameSides.{FrameSides}
use Rattle.inter_reconstruction.specs.declared.motion.MotionVectorPel.{MotionVectorPel}
use Rattle.inter_reconstruction.specs.declared.motion.FieldVector.{FieldVector}
use Rattle.inter_reconstruction.specs.declared.motion.FieldVectorPair.{FieldVectorPair}
use Rattle.inter_reconstruction.specs.declared.motion.Motion.{Motion}

-- a number that is read has no meaning
abbrev pub no_meaning : ℕ
no_meaning = 38

-- what a call answers: 38 unless all that is read is known, and then that
abbrev pub call_number : {R : Type 0} → (R → ℕ) → Bool → Option R → ℕ
call_number number known refusal = cond known (refusal_number number refusal) no_meaning

-- what a lent buffer holds at exit: what was written where the answer is 0, and else what it held at entry
abbrev pub unless_number : {A : Type 0} → ℕ → A → A → A
unless_number zero written kept = written
unless_number (suc n) written kept = kept

-- ---- what is read, and known

abbrev pub is_yes : ℕ → Bool
is_yes n = unwrap_or (flag_from n) false

-- a presence; what it stands beside is read where it is yes
abbrev pub presence_known : ℕ → Bool → Bool
presence_known present rest = is_some (flag_from present) && (not (is_yes present) || rest)

unfoldable pub reference_known : ℕ → ℕ → Bool
reference_known present format = presence_known present (is_some (chroma_from format))

unfoldable pub fields_known : ℕ → ℕ → ℕ → Bool
fields_known present top bottom = presence_known present (is_some (parity_from top) && is_some (parity_from bottom))

-- the frame call: the destination's format; both references, present or not, with their formats; whether there is motion in each direction
unfoldable pub frame_known : ℕ → ℕ → ℕ → ℕ → ℕ → ℕ → ℕ → Bool
frame_known format forward forward_format backward backward_format forward_motion backward_motion =
    is_some (chroma_from format)
    && (reference_known forward forward_format
    && (reference_known backward backward_format
    && (is_some (flag_from forward_motion) && is_some (flag_from backward_motion))))

-- the field call: with the fields that each direction's two vectors read
unfoldable pub field_known : ℕ → ℕ → ℕ → ℕ → ℕ → ℕ → ℕ → ℕ → ℕ → ℕ → ℕ → Bool
field_known format forward forward_format backward backward_format forward_motion forward_top forward_bottom backward_motion backward_top backward_bottom =
    is_some (chroma_from format)
    && (reference_known forward forward_format
    && (reference_known backward backward_format
    && (fields_known forward_motion forward_top forward_bottom && fields_known backward_motion backward_top backward_bottom)))

-- ---- what it means

unfoldable pub geometry_of : ℕ → ℕ → ℕ → FrameGeometry
geometry_of w h format = record { width = w; height = h; chroma_format = unwrap_or (chroma_from format) Yuv420 }

unfoldable pub reference_of : ℕ → ℕ → ℕ → ℕ → ℕ → ℕ → ℕ → ℕ → ℕ → ℕ → Option FrameSides
reference_of present w h format yw yh bw bh rw rh =
    cond (is_yes present)
    (Some
    (record {
      geometry = geometry_of w h format;
      y = record { width = yw; height = yh };
      cb = record { width = bw; height = bh };
      cr = record { width = rw; height = rh };
    }))
    None

unfoldable pub frame_direction_of : ℕ → ℤ → ℤ → Option MotionVectorPel
frame_direction_of present h v = cond (is_yes present) (Some (record { horizontal = h; vertical = v })) None

unfoldable pub field_vector_of : ℕ → ℤ → ℤ → FieldVector
field_vector_of parity h v = record { vector = record { horizontal = h; vertical = v }; reference_field = unwrap_or (parity_from parity) Top }

unfoldable pub field_direction_of : ℕ → ℕ → ℤ → ℤ → ℕ → ℤ → ℤ → Option FieldVectorPair
field_direction_of present tf th tv bf bh bv =
    cond (is_yes present) (Some (record { top = field_vector_of tf th tv; bottom = field_vector_of bf bh bv })) None

abbrev pub frame_motion_of : ℕ → ℤ → ℤ → ℕ → ℤ → ℤ → Motion MotionVectorPel
frame_motion_of fp fh fv bp bh bv = record { forward = frame_direction_of fp fh fv; backward = frame_direction_of bp bh bv }

abbrev pub field_motion_of : ℕ → ℕ → ℤ → ℤ → ℕ → ℤ → ℤ → ℕ → ℕ → ℤ → ℤ → ℕ → ℤ → ℤ → Motion FieldVectorPair
field_motion_of fp ftf fth ftv fbf fbh fbv bp btf bth btv bbf bbh bbv =
    record { forward = field_direction_of fp ftf fth ftv fbf fbh fbv; backward = field_direction_of bp btf bth btv bbf bbh bbv }

-- ---- vectors: kinds, the two presences of a residual, and the lengths of both buffers

abbrev pub index_of : ℕ → VectorIndex
index_of n = unwrap_or (index_from n) First

abbrev pub direction_of : ℕ → Direction
direction_of n = unwrap_or (direction_from n) Forward

abbrev pub format_of : ℕ → MvFormat
format_of n = unwrap_or (format_from n) Format.Field

abbrev pub structure_of : ℕ → PictureStructure
structure_of n = unwrap_or (structure_from n) TopField

unfoldable pub vector_known : ℕ → ℕ → ℕ → ℕ → ℕ → ℕ → ℕ → ℕ → Bool
vector_known r s horizontal vertical format structure predictors vector =
    (is_some (index_from r)
    && (is_some (direction_from s) && (is_some (flag_from horizontal) && is_some (flag_from vertical))))
    && ((is_some (format_from format) && is_some (structure_from structure)) && (eqb predictors 32 && eqb vector 8))

unfoldable pub residual_of : ℕ → ℕ → Option ℕ
residual_of present residual = cond (is_yes present) (Some residual) None

abbrev pub motion_vector_of : ℤ → ℕ → ℕ → ℤ → ℕ → ℕ → MotionVector
motion_vector_of ch hp hr cv vp vr =
    record {
      motion_code_horiz = ch;
      motion_residual_horiz = residual_of hp hr;
      motion_code_vert = cv;
      motion_residual_vert = residual_of vp vr;
    }

-- the vector against its two predictors in the 32 bytes
abbrev pub vector_from : List ℕ → VectorIndex → Direction → MotionVector → ℕ → ℕ → MvFormat → PictureStructure → DecodedPair
vector_from l r s mv fh fv format structure = reconstructed_pair (pair_of (predictors_of l) r s) mv fh fv format structure ported

-- what the buffer for the components holds: both of an accepted vector, and else what it held
abbrev pub vector_bytes : Result VectorComponents VectorRefusal → List ℕ → List ℕ
vector_bytes (Ok c) old = pair_bytes c.horizontal.vector_prime c.vertical.vector_prime
vector_bytes (Err r) old = old

-- ---- updates

unfoldable pub update_known : ℕ → ℕ → ℕ → ℕ → ℕ → ℕ → ℕ → ℕ → ℕ → Bool
update_known structure present type forward backward intra concealment predictors outcome =
    (is_some (structure_from structure) && presence_known present (is_some (type_from type)))
    && (((is_some (flag_from forward) && is_some (flag_from backward)) && (is_some (flag_from intra) && is_some (flag_from concealment)))
    && (eqb predictors 32 && eqb outcome 1))

unfoldable pub type_of : ℕ → ℕ → Option PredictionType
type_of present type = cond (is_yes present) (Some (unwrap_or (type_from type) FieldBased)) None

abbrev pub context_of : ℕ → ℕ → ℕ → ℕ → ℕ → ℕ → ℕ → PmvUpdateContext
context_of structure present type forward backward intra concealment =
    record {
      picture_structure = structure_of structure;
      prediction_type = type_of present type;
      macroblock_motion_forward = is_yes forward;
      macroblock_motion_backward = is_yes backward;
      macroblock_intra = is_yes intra;
      concealment_motion_vectors = is_yes concealment;
    }
