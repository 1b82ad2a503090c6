-- Two arithmetics that keep relations: whatever they make of related reads, at the same places and by the same vectors, is related. It does not matter
-- what the relations say.
-- Assumes nothing.
use mathlib.Core.Bool.{Bool, true, false}
use mathlib.Core.List.{List}
use Prim.Native.Nat.{ℕ, ◌*◌, ◌/◌, ◌%◌}
use lib.IntN.{ℤ, pos, ◌+ℤ◌}
use Rattle.laws.proofs.Related.{Related, related_tab, related_append, related_take, related_drop}
use Rattle.forming_predictions.specs.Splitting.{floor_half, half_flag}
use Rattle.forming_predictions.specs.Lines.{Lines, frame, field}
use Rattle.forming_predictions.specs.Means.{Means}
use Rattle.forming_predictions.specs.Forming.{combined, formed}
use Rattle.pmv.specs.declared.kinds.ChromaFormat.{ChromaFormat}
use Rattle.inter_reconstruction.specs.Components.{ColourComponent, luma, cb, cr, block_width, block_height, block_bytes}
use Rattle.inter_reconstruction.specs.Motion.{field_vector_of, uses_of}
use Rattle.inter_reconstruction.specs.Frames.{Samples, PlaneReading, plane_of}
use Rattle.inter_reconstruction.specs.Macroblock.{field_sample, direction_sample, used_sample, rectangle, part, macroblock, predicted}
use Rattle.inter_reconstruction.specs.Placing.{place_in, part_first, placed}
use Rattle.inter_reconstruction.specs.declared.frames.FrameSides.{FrameSides}
use Rattle.inter_reconstruction.specs.declared.motion.FieldVector.{FieldVector}
use Rattle.inter_reconstruction.specs.declared.motion.DirectionMotion.{DirectionMotion}
use Rattle.inter_reconstruction.specs.declared.motion.DirectionMotion.TheVariants.{Frame, Field}
use Rattle.inter_reconstruction.specs.declared.motion.Uses.{Uses}
use Rattle.inter_reconstruction.specs.declared.motion.Uses.TheVariants.{Forward, Backward, Both}
use Rattle.drift.proofs.Lists.{related_stored}

-- reads related by R give samples of a direction related by S, and these predicted samples related by P
pub record Keeps (a b : Means) (R S P : ℕ → ℕ → Type 0) : Type 0 where
  pub one : {x y : ℕ} → R x y → S (a.one x) (b.one y)
  pub two : {x y x' y' : ℕ} → R x y → R x' y' → S (a.two x x') (b.two y y')
  pub four : {x y x' y' x'' y'' x''' y''' : ℕ} → R x y → R x' y' → R x'' y'' → R x''' y''' → S (a.four x x' x'' x''') (b.four y y' y'' y''')
  pub single : {x y : ℕ} → S x y → P (a.single x) (b.single y)
  pub join : {x y x' y' : ℕ} → S x y → S x' y' → P (a.join x x') (b.join y y')

-- two readings that are related at every coordinate
abbrev pub Alike : (ℕ → ℕ → Type 0) → PlaneReading → PlaneReading → Type 0
Alike R r s = (l : Lines) (x y : ℤ) → R (r l x y) (s l x y)

module _ (a b : Means) (R S P : ℕ → ℕ → Type 0) (K : Keeps a b R S P) where
  combined_alike : (r s : ℤ → ℤ → ℕ) → ((x y : ℤ) → R (r x y) (s x y)) → (x y : ℤ) (h v : Bool) → S (combined a r x y h v) (combined b s x y h v)
  unfolding combined
  combined_alike r s e x y false false = K.one (e x y)
  combined_alike r s e x y false true = K.two (e x y) (e x (y +ℤ pos 1))
  combined_alike r s e x y true false = K.two (e x y) (e (x +ℤ pos 1) y)
  combined_alike r s e x y true true = K.four (e x y) (e (x +ℤ pos 1) y) (e x (y +ℤ pos 1)) (e (x +ℤ pos 1) (y +ℤ pos 1))

  formed_alike : (r s : ℤ → ℤ → ℕ) → ((x y : ℤ) → R (r x y) (s x y)) → (x y h v : ℤ) → S (formed a r x y h v) (formed b s x y h v)
  unfolding formed
  formed_alike r s e x y h v = combined_alike r s e (x +ℤ floor_half h) (y +ℤ floor_half v) (half_flag h) (half_flag v)

  field_alike : (r s : PlaneReading) → Alike R r s → (u : FieldVector) (x line : ℕ) → S (field_sample a r u x line) (field_sample b s u x line)
  unfolding field_sample
  field_alike r s e u x line =
      let l = field u.reference_field in
      formed_alike (r l) (s l) (e l) (pos x) (pos line) u.vector.horizontal u.vector.vertical

  direction_alike : (r s : PlaneReading) → Alike R r s → (d : DirectionMotion) (x y : ℕ) → S (direction_sample a r d x y) (direction_sample b s d x y)
  unfolding direction_sample
  direction_alike r s e (Frame v) x y = formed_alike (r frame) (s frame) (e frame) (pos x) (pos y) v.horizontal v.vertical
  direction_alike r s e (Field p) x y = field_alike r s e (field_vector_of p (y % 2)) x (y / 2)

  used_alike : (r s r' s' : PlaneReading) → Alike R r s → Alike R r' s' → (u : Uses) (x y : ℕ) → P (used_sample a r r' u x y) (used_sample b s s' u x y)
  unfolding used_sample
  used_alike r s r' s' e f (Forward d) x y = K.single (direction_alike r s e d x y)
  used_alike r s r' s' e f (Backward d) x y = K.single (direction_alike r' s' f d x y)
  used_alike r s r' s' e f (Both c d) x y = K.join (direction_alike r s e c x y) (direction_alike r' s' f d x y)

  -- a macroblock's prediction
  module _ (z : P 0 0) (f : ChromaFormat) (r s r' s' : ColourComponent → PlaneReading) (e : (c : ColourComponent) → Alike R (r c) (s c)) (e' : (c : ColourComponent) → Alike R (r' c) (s' c)) (u : Uses) (col row : ℕ) where
    part_alike : (c : ColourComponent)
        → Related P (part f c (used_sample a (r c) (r' c) (uses_of f u c)) col row) (part f c (used_sample b (s c) (s' c) (uses_of f u c)) col row)
    unfolding rectangle
    part_alike c = related_tab P z (block_width f c * block_height f c) _ _ (λ k l. used_alike (r c) (s c) (r' c) (s' c) (e c) (e' c) (uses_of f u c) _ _)

    pub predicted_alike : Related P (predicted a f r r' u col row) (predicted b f s s' u col row)
    unfolding macroblock
    predicted_alike = related_append P (part_alike luma) (related_append P (part_alike cb) (part_alike cr))

-- placing related macroblocks in related planes
pub placed_alike : (R : ℕ → ℕ → Type 0) → R 0 0 → (p : FrameSides) (col row : ℕ) {bytes units : List ℕ} (planes planes' : Samples) (c : ColourComponent)
    → Related R bytes units
    → Related R (planes c) (planes' c)
    → Related R (placed p col row bytes planes c) (placed p col row units planes' c)
placed_alike R z p col row {bytes} {units} planes planes' c e d =
    let f = p.geometry.chroma_format in
    related_stored R (place_in f c (plane_of p c).width col row) _ _
    (related_take R z (block_bytes f c) _ _ (related_drop R (part_first f c) bytes units e)) d
