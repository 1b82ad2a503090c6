-- The invariant before the first turn, and after a turn that copies a row: the parts of the block and of the plane have one length.
-- Assumes nothing.
use Rattle.std.proofs.Common.{◌≡◌, sym, ◌∙◌, ◌+◌, ◌-◌, ◌*◌, ◌≤◌, length, take, drop, arith, eq-eqb}
use Rattle.laws.proofs.Parts.{part_length}
use Rattle.inter_reconstruction.proofs.Stored.{row_inside, row_source, placed_none, placed_row}
use Rattle.inter_reconstruction.proofs.placing.place_block.Goals as goal

pub loop-r-init : goal.loop-r-init
loop-r-init c = record { within = omega arith; rows = placed_none _ _ _ _ _ _ }

pub loop-r-preserved : goal.loop-r-preserved
loop-r-preserved c =
    let a = c.args in
    let r = c.loop-r.r in
    let t = c.loop-r-test.true in
    let i = r * a.at.width in
    let o = (a.at.y + r) * a.width + a.at.x in
    let source : i + a.at.width ≤ length a.block.now = row_source c.requires r t in
    let inside : o + a.at.width ≤ length c.loop-r.plane = omega (arith, row_inside c.requires r t, c.loop-r.invariant.rows.long) in
    let same : length (take (o + a.at.width - o) (drop o c.loop-r.plane)) ≡ length (take (i + a.at.width - i) (drop i a.block.now)) =
    part_length c.loop-r.plane o (o + a.at.width) inside
    ∙ sym (part_length a.block.now i (i + a.at.width) source ∙ omega arith) in
    record {
      within = omega arith;
      rows = placed_row c.loop-r.invariant.rows c.requires t (rw (eq-eqb _ _ same) at c.copy_samples.ensures);
    }
