-- Both buffers are arrays of their lengths. Where all numbers are known, each number's reading is its meaning.
-- Assumes nothing.
use Rattle.std.proofs.Common.{sym}
use mir.Facts.{to_z-of_z}
use Rattle.pmv.specs.Kinds.{index_from, direction_from, format_from, structure_from}
use Rattle.pmv.specs.declared.kinds.VectorIndex.TheVariants.{First}
use Rattle.pmv.specs.declared.kinds.Direction.TheVariants.{Forward}
use Rattle.pmv.specs.declared.kinds.MvFormat.TheVariants as Format
use Rattle.pmv.specs.declared.kinds.PictureStructure.TheVariants.{TopField}
use Rattle.entry_points.proofs.Reading.{read_value}
use Rattle.entry_points.proofs.vectors.fozdrik_reconstruct_motion_vector.Goals as goal

pub returns : goal.returns
returns c =
    let a = c.args in
    let p = c.in-Some.ensures.cases in
    let l = c.in-Some-as_mut_array.ensures.cases in
    let known = sym c.if-not-vector_known.ensures in
    let r = read_value (index_from a.r) First c.unwrap_or.ensures c.try_from.ensures in
    let s = read_value (direction_from a.s) Forward c.unwrap_or-2.ensures c.try_from-2.ensures in
    let f = read_value (format_from a.mv_format) Format.Field c.unwrap_or-3.ensures c.try_from-3.ensures in
    let t = read_value (structure_from a.picture_structure) TopField c.unwrap_or-4.ensures c.try_from-4.ensures in
    let h = to_z-of_z c.ranges.motion_code_horiz in
    let v = to_z-of_z c.ranges.motion_code_vert in
    let e = rw (p.same, l.same, r, s, f, t, h, v, c.residual_of.ensures, c.residual_of-2.ensures) at c.vector_in_bytes.ensures in
    record {
      number = rw (p.long, l.long, known) e.number;
      predictors = rw (p.long, l.long, known) e.predictors;
      vector = rw (p.long, l.long, known) e.vector;
    }
