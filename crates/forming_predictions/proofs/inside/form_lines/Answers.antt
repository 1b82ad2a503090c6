-- A turn writes the next row, and after the last one the block is whole.
-- Assumes nothing.
use Rattle.std.proofs.Common.{pos, arith}
use Rattle.laws.proofs.Rows.{rows_none, rows_step, rows_all}
use Rattle.forming_predictions.specs.Forming.{block_of}
use Rattle.forming_predictions.specs.inner.Views.{line_cell}
use Rattle.forming_predictions.specs.inner.Blocks.{formed_at}
use Rattle.forming_predictions.proofs.Blocks.{row_of_block}
use Rattle.forming_predictions.proofs.inside.form_lines.Goals as goal

pub loop-r-init : goal.loop-r-init
loop-r-init g c = rows_none _ _ _ _ c.requires.2

pub loop-r-preserved : goal.loop-r-preserved
unfolding line_cell
loop-r-preserved g c =
    let a = c.args in
    rows_step c.loop-r.invariant (omega arith) c.form_line.ensures
    (row_of_block (formed_at a.view a.to) (pos a.x) (pos a.y) a.size.width c.loop-r.r)

pub returns : goal.returns
unfolding block_of
returns g c = rows_all c.loop-r.invariant (omega arith)
