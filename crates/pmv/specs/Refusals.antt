-- The scope (docs/SCOPE.md, "When a call refuses"): the numbers of this layer's reasons. Nothing here is the standard's.
use Rattle.std.specs.Prelude.{ℕ}
use Rattle.pmv.specs.declared.component.VectorRefusal.{VectorRefusal}
use Rattle.pmv.specs.declared.component.VectorRefusal.TheVariants.{FCodeOutside, CodeOutside, ResidualForbidden, ResidualMissing, DeltaOutside, VectorOutside}
use Rattle.pmv.specs.declared.update.UpdateRefusal.{UpdateRefusal}
use Rattle.pmv.specs.declared.update.UpdateRefusal.TheVariants.{IntraWithMotion, TypeMissing, FrameBasedInField, SixteenByEightInFrame, DualPrimeFlags, NoneRowFlags}

abbrev pub vector_number : VectorRefusal → ℕ
-- f_code outside 1..9
vector_number FCodeOutside = 1
-- motion_code outside -16..16
vector_number CodeOutside = 2
-- motion_residual is there, and the syntax has none
vector_number ResidualForbidden = 3
-- motion_residual is not there, and the syntax has one
vector_number ResidualMissing = 4
-- delta outside low..high
vector_number DeltaOutside = 5
-- the vector outside low..high after one wrap
vector_number VectorOutside = 6

abbrev pub update_number : UpdateRefusal → ℕ
-- an intra macroblock with a motion flag
update_number IntraWithMotion = 7
-- not intra, and no motion type
update_number TypeMissing = 8
-- frame-based in a field picture
update_number FrameBasedInField = 9
-- 16 x 8 in a frame picture
update_number SixteenByEightInFrame = 10
-- dual prime, and the flags are not forward alone
update_number DualPrimeFlags = 11
-- a row "(none)" without a motion flag
update_number NoneRowFlags = 12
