-- The fronts of the local arrays have one direction's block each, and their mean is the block of both.
-- Assumes nothing.
use Rattle.std.proofs.Common.{◌∙◌, ◌≡◌, ap, sym, refl, List, ℕ, length, drop}
use Rattle.forming_predictions.specs.Means.{rounded}
use Rattle.inter_reconstruction.specs.Frames.{read_plane}
use Rattle.inter_reconstruction.specs.Macroblock.{direction_sample, used_sample, rectangle}
use Rattle.inter_reconstruction.proofs.Begun.{blank, front_is}
use Rattle.inter_reconstruction.proofs.Rectangles.{rectangle_length, rectangle_ext, averaged_is}
use Rattle.inter_reconstruction.proofs.blocks.predict_two.Goals as goal

pub returns : goal.returns
unfolding used_sample
returns c =
    let a = c.args in
    let at = a.at in
    let n = c.bytes-n.result in
    let long : (ys : List ℕ) (rule : ℕ → ℕ → ℕ) → ys ≡ rectangle at.width at.height rule at.x at.y → length ys ≡ n
    = λ ys rule e. ap length e ∙ rectangle_length at.width at.height rule at.x at.y ∙ sym c.bytes-n.ensures in
    averaged_is at.width at.height
    (direction_sample rounded (read_plane a.forward.now.sides a.forward.now.samples.now) a.forward_motion.now)
    (direction_sample rounded (read_plane a.backward.now.sides a.backward.now.samples.now) a.backward_motion.now)
    at.x at.y _ _ _ _ _
    (front_is n c.predict_direction.new.out (drop n (blank 256)) (long _ _ c.predict_direction.ensures) ∙ c.predict_direction.ensures)
    (front_is n c.predict_direction-2.new.out (drop n (blank 256)) (long _ _ c.predict_direction-2.ensures) ∙ c.predict_direction-2.ensures)
    c.requires.2
    c.average_predictions.ensures.answer
    c.average_predictions.ensures.buffer
    ∙ rectangle_ext _ _ _ _ _ _ (λ i j. refl)
