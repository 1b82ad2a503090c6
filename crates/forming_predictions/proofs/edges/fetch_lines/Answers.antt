-- After a turn that writes a row, the invariant holds.
-- Assumes nothing.
use Rattle.std.proofs.Common.{pos, ◌+ℤ◌, ℕ, ap, sym, ◌∙◌, arith}
use Rattle.laws.specs.Tabulate.{tabulate}
use Rattle.forming_predictions.specs.Lines.{clamp_to}
use Rattle.forming_predictions.specs.inner.Views.{picked_of}
use Rattle.forming_predictions.specs.inner.Blocks.{row_at}
use lib.Arith.{digits_div, digits_mod}
use Rattle.laws.proofs.Rows.{rows_part, rows_step}
use Rattle.forming_predictions.proofs.Reading.{at_further}
use Rattle.forming_predictions.proofs.ViewRows.{picked_cells}
use Rattle.forming_predictions.proofs.edges.fetch_lines.Goals as goal

pub loop-r-preserved : goal.loop-r-preserved
loop-r-preserved g c =
    let v = c.args.view in
    let r = c.loop-r.r in
    let row = rw (at_further c.further.type_inv c.further.ensures) at c.clamped_row.ensures in
    let cells = picked_of (row_at v (clamp_to v.count (c.args.y.at +ℤ pos r))) c.args.columns.now in
    let turn = c.loop-r-test.true in
    rows_step c.loop-r.invariant turn
    (◌∙◌ {b = tabulate g.row.N cells} (rw row at c.pick_samples.ensures) (ap (λ (n : ℕ). tabulate n cells) (sym (rows_part c.loop-r.invariant turn))))
    (λ k h. rw (digits_div r h, digits_mod r h) (picked_cells v c.requires.0 _ k (omega (arith, c.requires.1))))
