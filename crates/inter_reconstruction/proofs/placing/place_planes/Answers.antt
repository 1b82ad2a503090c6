-- Each component's part lies in its plane and is placed there; the parts of all three together are the macroblock.
-- Assumes nothing.
use Rattle.std.proofs.Common.{◌≡◌, refl, ◌∙◌, ℕ, ◌+◌, ◌*◌, length, arith}
use Rattle.laws.proofs.Parts.{part_length}
use Rattle.inter_reconstruction.specs.declared.frames.FrameSides.{FrameSides}
use Rattle.inter_reconstruction.specs.Components.{ColourComponent, luma, cb, cr}
use Rattle.inter_reconstruction.specs.Frames.{samples_of}
use Rattle.inter_reconstruction.specs.inner.Areas.{PartAt}
use Rattle.inter_reconstruction.specs.inner.Placing.{Placeable}
use Rattle.inter_reconstruction.specs.declared.area.Area.{Area}
use Rattle.pmv.specs.declared.kinds.ChromaFormat.TheVariants.{Yuv420}
use Rattle.inter_reconstruction.proofs.Cells.{chroma_total, cr_part}
use Rattle.inter_reconstruction.proofs.Places.{few_columns, few_rows, room_as, placed_as, part_cb, part_cr, planes_are}
use Rattle.inter_reconstruction.proofs.placing.place_planes.Goals as goal

total : {p : FrameSides} {n : ColourComponent → ℕ} {bytes col row : ℕ} {at : Area} → Placeable p n bytes col row → PartAt p.geometry.chroma_format cb col row at
    → bytes ≡ 256 + (at.width * at.height + at.width * at.height)
total {p = p} r k = chroma_total p.geometry.chroma_format k.width k.height r.count

pub invariant_of-cell : goal.invariant_of-cell
invariant_of-cell c = record { near = (few_columns _ _ _ _ _ c.requires luma, few_rows _ _ _ _ _ c.requires luma) }

pub place_block-requires : goal.place_block-requires
place_block-requires c =
    room_as c.args.picture luma (c.luma.ensures _) _ _ _ c.requires
    (part_length c.args.bytes.now 0 256 (omega (arith, total c.requires c.chroma-chroma_at.ensures)) ∙ rw ((c.luma.ensures Yuv420).width, (c.luma.ensures Yuv420).height))

pub place_block-requires-2 : goal.place_block-requires-2
place_block-requires-2 c =
    let k = c.chroma-chroma_at.ensures in
    room_as c.args.picture cb k _ _ _ c.requires
    (part_length c.args.bytes.now 256 (256 + c.bytes-a.result) (omega (arith, total c.requires k, c.bytes-a.ensures)) ∙ omega (arith, c.bytes-a.ensures))

pub place_block-requires-3 : goal.place_block-requires-3
place_block-requires-3 c =
    let k = c.chroma-chroma_at.ensures in
    room_as c.args.picture cr (cr_part _ k) _ _ _ c.requires
    (part_length c.args.bytes.now (256 + c.bytes-a.result) (length c.args.bytes.now) (omega arith) ∙ omega (arith, total c.requires k, c.bytes-a.ensures))

pub returns : goal.returns
returns c =
    let a = c.args in
    let f = a.picture.geometry.chroma_format in
    let planes = samples_of a.y.now a.cb.now a.cr.now in
    let k = c.chroma-chroma_at.ensures in
    planes_are a.picture a.mb_col a.mb_row a.bytes.now planes _ _ _
    (placed_as a.picture luma (c.luma.ensures _) a.bytes.now planes _ _ refl c.place_block.ensures)
    (placed_as a.picture cb k a.bytes.now planes _ _ (rw c.bytes-a.ensures (part_cb f _ _ k.width k.height a.bytes.now)) c.place_block-2.ensures)
    (placed_as a.picture cr (cr_part _ k) a.bytes.now planes _ _ (rw c.bytes-a.ensures (part_cr f _ _ k.width k.height a.bytes.now c.requires.count)) c.place_block-3.ensures)
