-- Each block is a part of the macroblock, and lies where prediction takes one.
-- Assumes nothing.
use Rattle.std.proofs.Common.{sym, ◌∙◌}
use Rattle.inter_reconstruction.specs.Components.{luma, cb, cr}
use Rattle.inter_reconstruction.proofs.Cells.{area_bytes, area_part, cr_part, luma_area_rows, chroma_area_rows}
use Rattle.inter_reconstruction.proofs.components.predict_blocks.Goals as goal

pub predict_direction-requires : goal.predict_direction-requires
predict_direction-requires c =
    let k = c.luma-luma_at.ensures c.args.chroma_format in
    (c.requires.0 luma, c.requires.1.luminance ∙ sym (area_bytes k), luma_area_rows k)

pub predict_direction-requires-2 : goal.predict_direction-requires-2
predict_direction-requires-2 c =
    let k = c.chroma-chroma_at.ensures in
    (c.requires.0 cb, c.requires.1.cb_length ∙ sym (area_bytes k), chroma_area_rows _ k)

pub predict_direction-requires-3 : goal.predict_direction-requires-3
predict_direction-requires-3 c =
    let k = c.chroma-chroma_at.ensures in
    (c.requires.0 cr, c.requires.1.cr_length ∙ sym (area_bytes (cr_part _ k)), chroma_area_rows _ k)

pub returns-clause-y_block_at_exit : goal.returns-clause-y_block_at_exit
returns-clause-y_block_at_exit c = c.predict_direction.ensures ∙ area_part (c.luma-luma_at.ensures c.args.chroma_format) _
