-- The calls write the three components' blocks, from the output's front to its end.
-- Assumes nothing.
use Rattle.std.proofs.Common.{refl, ◌∙◌, sym, ap, ◌+◌, ◌-◌, length, arith}
use borrow.Rule.Slice.PartMut.{put_mid}
use Rattle.laws.proofs.Parts.{part_length}
use Rattle.inter_reconstruction.specs.Components.{luma, cb, cr}
use Rattle.inter_reconstruction.specs.Frames.{read_frame, sides_of, samples_in}
use Rattle.inter_reconstruction.specs.declared.motion.Uses.TheVariants.{Both}
use Rattle.inter_reconstruction.proofs.Begun.{begun_length, begun_first, begun_part, begun_rest, append_count}
use Rattle.inter_reconstruction.proofs.Cells.{luma_area_rows, chroma_area_rows, chroma_total, area_bytes, area_part, cr_part, parts_are}
use Rattle.inter_reconstruction.proofs.Rectangles.{rectangle_length}
use Rattle.inter_reconstruction.proofs.components.predict_from_two.Goals as goal

pub predict_two-requires : goal.predict_two-requires
predict_two-requires c =
    let at = c.luma-luma_at.ensures c.args.chroma_format in
    let k = c.chroma-chroma_at.ensures in
    let total = chroma_total c.args.chroma_format k.width k.height c.requires.2 in (
      c.requires.0 luma,
      c.requires.1 luma,
      part_length c.args.out.now 0 256 (omega (arith, total)) ∙ sym (area_bytes at),
      luma_area_rows at,
    )

pub predict_two-requires-2 : goal.predict_two-requires-2
predict_two-requires-2 c =
    let f = c.args.chroma_format in
    let k = c.chroma-chroma_at.ensures in
    let n = c.bytes-a.ensures in
    let total = chroma_total f k.width k.height c.requires.2 in
    let first = ap length c.predict_two.ensures ∙ rectangle_length _ _ _ _ _ ∙ area_bytes (c.luma-luma_at.ensures f) in
    let begun = begun_first 256 c.predict_two.new.out c.args.out.now first (omega (arith, total)) in (
      c.requires.0 cb,
      c.requires.1 cb,
      part_length (put_mid 0 (256 - 0) c.args.out.now c.predict_two.new.out) 256 (256 + c.bytes-a.result) (omega (arith, begun_length begun, total, n)) ∙ omega (arith, n),
      chroma_area_rows f k,
    )

pub predict_two-requires-3 : goal.predict_two-requires-3
predict_two-requires-3 c =
    let f = c.args.chroma_format in
    let k = c.chroma-chroma_at.ensures in
    let n = c.bytes-a.ensures in
    let m = c.bytes-a.result in
    let total = chroma_total f k.width k.height c.requires.2 in
    let first = ap length c.predict_two.ensures ∙ rectangle_length _ _ _ _ _ ∙ area_bytes (c.luma-luma_at.ensures f) in
    let second = ap length c.predict_two-2.ensures ∙ rectangle_length _ _ _ _ _ ∙ sym n in
    let begun =
    begun_part 256 m c.predict_two-2.new.out
    (begun_first 256 c.predict_two.new.out c.args.out.now first (omega (arith, total)))
    first second (omega (arith, total, n)) in (
      c.requires.0 cr,
      c.requires.1 cr,
      part_length (put_mid 256 (256 + m - 256) (put_mid 0 (256 - 0) c.args.out.now c.predict_two.new.out) c.predict_two-2.new.out) (256 + m) (length c.args.out.now) (omega (arith, begun_length begun))
          ∙ omega (arith, total, n),
      chroma_area_rows f k,
    )

pub returns : goal.returns
returns c =
    let a = c.args in
    let f = a.chroma_format in
    let at = c.luma-luma_at.ensures f in
    let k = c.chroma-chroma_at.ensures in
    let n = c.bytes-a.ensures in
    let m = c.bytes-a.result in
    let forward = read_frame (sides_of a.forward.now) (samples_in a.forward.now) in
    let backward = read_frame (sides_of a.backward.now) (samples_in a.backward.now) in
    let total = chroma_total f k.width k.height c.requires.2 in
    let first = ap length c.predict_two.ensures ∙ rectangle_length _ _ _ _ _ ∙ area_bytes at in
    let second = ap length c.predict_two-2.ensures ∙ rectangle_length _ _ _ _ _ ∙ sym n in
    let third = ap length c.predict_two-3.ensures ∙ rectangle_length _ _ _ _ _ ∙ sym n in
    begun_rest (256 + m) c.predict_two-3.new.out
    (begun_part 256 m c.predict_two-2.new.out
    (begun_first 256 c.predict_two.new.out a.out.now first (omega (arith, total)))
    first second (omega (arith, total, n)))
    (append_count c.predict_two.new.out c.predict_two-2.new.out 256 m _ first second refl)
    (omega (arith, third, total, n))
    ∙ parts_are f forward backward (Both a.forward_motion a.backward_motion) _ a.cell.mb_col a.cell.mb_row _ _ _
    (λ i. Both (c.chroma-forward_chroma.ensures i) (c.chroma-backward_chroma.ensures i))
    (c.predict_two.ensures ∙ area_part at _)
    (c.predict_two-2.ensures ∙ area_part k _)
    (c.predict_two-3.ensures ∙ area_part (cr_part _ k) _)
