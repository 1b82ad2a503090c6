-- The sum is far from the ends of an i32.
-- Assumes nothing.
use Rattle.std.proofs.Common.{◌≡◌, ap, ◌∙◌, ℤ, ◌+ℤ◌, w32, to_z, of_z, FitsSigned}
use mir.Facts.{to_z-of_z}
use Rattle.forming_predictions.specs.Splitting.{floor_half}
use Rattle.forming_predictions.proofs.Splitting.{floor_fits}
use Rattle.forming_predictions.proofs.Forming.{moved_reach}
use Rattle.forming_predictions.proofs.block.moved.Goals as goal

-- the sum that the code makes
sum : (p v i : ℤ) → FitsSigned w32 p → FitsSigned w32 v → i ≡ floor_half (to_z w32 (of_z w32 v))
    → to_z w32 (of_z w32 p) +ℤ to_z w32 (of_z w32 i) ≡ p +ℤ floor_half v
sum p v i f g e =
    let whole = rw (to_z-of_z g) at e in
    rw (to_z-of_z f) (ap (λ (z : ℤ). p +ℤ z) (ap (λ (z : ℤ). to_z w32 (of_z w32 z)) whole ∙ to_z-of_z (floor_fits g)))

pub overflow_add-at : goal.overflow_add-at
overflow_add-at c =
    rw (sum _ _ _ c.ranges.position c.ranges.vector c.split_component-split.ensures.0) (moved_reach c.requires c.ranges.vector).here

pub invariant_of-result : goal.invariant_of-result
invariant_of-result c =
    let reach = moved_reach c.requires c.ranges.vector in
    rw (sum _ _ _ c.ranges.position c.ranges.vector c.split_component-split.ensures.0, to_z-of_z reach.here) (record { reach = reach })

pub returns : goal.returns
returns c =
    let reach = moved_reach c.requires c.ranges.vector in
    rw (sum _ _ _ c.ranges.position c.ranges.vector c.split_component-split.ensures.0) (to_z-of_z reach.here)
