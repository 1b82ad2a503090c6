-- Both references are there, their geometries are the destination's, and the tests say that both frames' planes are in the domain.
-- Assumes nothing.
use Rattle.std.proofs.Common.{◌∙◌, sym, arith}
use Rattle.std.proofs.lemmas.Grind.{common_steps}
use Rattle.inter_reconstruction.specs.Frames.{sides_of, samples_in}
use Rattle.inter_reconstruction.proofs.Checks.{frame_fits, is_there}
use Rattle.inter_reconstruction.proofs.macroblock.predict_both.Goals as goal

pub predict_from_two-requires : goal.predict_from_two-requires
predict_from_two-requires c =
    let f = c.in_ok-first.first in
    let b = c.in_ok-second.second in (
      frame_fits (sides_of f.now) (samples_in f.now) (sym c.frame_fits.ensures ∙ c.if-not-frame_fits.false),
      frame_fits (sides_of b.now) (samples_in b.now) (sym c.frame_fits-2.ensures ∙ c.if-not-frame_fits-2.false),
      c.requires,
    )

pub returns-then-not-frame_fits-clause-answer : goal.returns-then-not-frame_fits-clause-answer
returns-then-not-frame_fits-clause-answer c =
    rw (is_there _ _ _ c.as_ref.ensures.value c.in_ok-first.ensures.value, is_there _ _ _ c.as_ref-2.ensures.value c.in_ok-second.ensures.value)
    (grind (arith, common_steps))

pub returns-clause-answer : goal.returns-clause-answer
returns-clause-answer c =
    rw (is_there _ _ _ c.as_ref.ensures.value c.in_ok-first.ensures.value, is_there _ _ _ c.as_ref-2.ensures.value c.in_ok-second.ensures.value)
    (grind (arith, common_steps))
