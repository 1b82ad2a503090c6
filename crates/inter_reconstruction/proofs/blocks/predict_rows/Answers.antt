-- The block call accepts the block, and what it then writes is the rectangle of the frame's rows.
-- Assumes nothing.
use Rattle.std.proofs.Common.{rules, arith, ◌∙◌, length, FitsSigned, w32}
use Rattle.std.proofs.lemmas.Int.{to_z_pos, to_z-of_z}
use Rattle.inter_reconstruction.proofs.Rectangles.{block_accepted, block_written, rows_are}
use Rattle.inter_reconstruction.proofs.blocks.predict_rows.Goals as goal

pub returns : goal.returns
returns c =
    let a = c.args in
    let at = a.at in
    let b = at.fits in
    let h : FitsSigned w32 a.v.horizontal = search rules in
    let v : FitsSigned w32 a.v.vertical = search rules in
    let x = to_z_pos w32 at.x (omega (arith, b.left)) in
    let y = to_z_pos w32 at.y (omega (arith, b.top)) in
    let size = c.size.ensures in
    block_written _ _ _ _ _ (simp (x, y, size.0, size.1) at c.predict_block.ensures.answer)
    (block_accepted a.plane.sides a.plane.samples.now at.x at.y at.width at.height (length a.out.now) c.requires.0 b c.requires.1)
    (simp (x, y, size.0, size.1, to_z-of_z w32 a.v.horizontal h, to_z-of_z w32 a.v.vertical v) at c.predict_block.ensures.buffer)
    ∙ rows_are a.plane.sides a.plane.samples.now a.v at.width at.height at.x at.y
