-- The invariant before the first turn, after a turn that writes a row, and that all rows are the block.
-- Assumes nothing.
use Rattle.laws.proofs.Rows.{rows_none, rows_step, rows_all}
use Rattle.forming_predictions.specs.Forming.{block_of}
use Rattle.forming_predictions.specs.inner.Views.{line_cell}
use Rattle.forming_predictions.specs.inner.Blocks.{formed_at}
use Rattle.forming_predictions.proofs.Blocks.{row_of_block}
use Rattle.forming_predictions.proofs.narrow.form_clamped.Goals as goal

pub loop-r-init : goal.loop-r-init
loop-r-init c = rows_none _ _ _ _ c.requires

pub loop-r-preserved : goal.loop-r-preserved
unfolding line_cell
loop-r-preserved c =
    let a = c.args in
    rows_step c.loop-r.invariant c.loop-r-test.true c.clamped_line.ensures
    (row_of_block (formed_at a.view a.to) a.x.at a.y.at a.size.width c.loop-r.r)

pub returns : goal.returns
unfolding block_of
returns c = rows_all c.loop-r.invariant c.loop-r-test.false
