-- What was accepted by the directions that have motion uses these.
-- Assumes nothing.
use Rattle.std.proofs.Common.{length, arith}
use Rattle.std.proofs.lemmas.Grind.{common_steps}
use Rattle.inter_reconstruction.specs.Answers.{prediction_from}
use Rattle.inter_reconstruction.specs.Motion.{wanted_by}
use Rattle.inter_reconstruction.proofs.Directions.{given_before}
use Rattle.inter_reconstruction.proofs.macroblock.predict_macroblock_planes.Goals as goal

pub returns-clause-answer : goal.returns-clause-answer
returns-clause-answer g c = grind (arith, common_steps)

pub returns-clause-buffer : goal.returns-clause-buffer
returns-clause-buffer g c =
    let e = rw (c.is_some.ensures, c.is_some-2.ensures) at c.uses.ensures in
    rw e at c.predict_used.ensures.buffer

pub returns-clause-unchanged : goal.returns-clause-unchanged
returns-clause-unchanged g c =
    let a = c.args in
    let v = g.V.DirectionVectors in
    given_before a.dest (length a.out.now) a.forward a.backward (wanted_by v.motion v.still a.motion) a.mb_col a.mb_row
    _ _ _
    (λ u. prediction_from a.dest.chroma_format a.forward a.backward u a.mb_col a.mb_row)
    (returns-clause-answer g c)
    (returns-clause-buffer g c)
