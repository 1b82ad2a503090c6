-- A turn copies row r of the frame from the one block or the other, and it is the next row of the output.
-- Assumes nothing.
use Rattle.std.proofs.Common.{ℕ, ◌∙◌, ap, sym, get_or, length, ◌+◌, ◌*◌, ◌≤◌, arith}
use lib.Arith.{digits_div, digits_mod}
use Rattle.laws.specs.Tabulate.{tabulate}
use Rattle.laws.proofs.Rows.{row_in, rows_none, rows_part, rows_step}
use Rattle.inter_reconstruction.specs.inner.Blocks.{field_row, interleaved_cell}
use Rattle.inter_reconstruction.proofs.Begun.{part_tab}
use Rattle.inter_reconstruction.proofs.Rectangles.{field_row_in}
use Rattle.inter_reconstruction.proofs.blocks.interleave.Goals as goal

pub loop-r-init : goal.loop-r-init
loop-r-init c = rows_none _ _ _ _ c.requires.3

pub loop-r-preserved : goal.loop-r-preserved
unfolding interleaved_cell
loop-r-preserved c =
    let s = c.args.halves.now in
    let w = c.args.width in
    let h = c.args.half in
    let r = c.loop-r.r in
    let source = field_row h r in
    let room : source * w + w ≤ length s
    = omega (arith, row_in source (h + h) w (field_row_in h r c.loop-r-test.true), c.requires.2) in
    rows_step c.loop-r.invariant c.loop-r-test.true
    (c.copy_row.ensures
    ∙ part_tab s (source * w) w room
    ∙ ap (λ (n : ℕ). tabulate n (λ (k : ℕ). get_or s (source * w + k) 0)) (sym (rows_part c.loop-r.invariant c.loop-r-test.true)))
    (λ k q. rw (digits_div r q, digits_mod r q))
