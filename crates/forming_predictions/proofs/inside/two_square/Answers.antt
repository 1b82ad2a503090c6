-- A turn writes the next row: two samples are enough where one of the steps is 0.
-- Assumes nothing.
use Rattle.std.proofs.Common.{◌≡◌, ◌+◌, ◌∙◌, pos, ◌<◌, ap, arith}
use Rattle.laws.proofs.Rows.{rows_none, rows_part, rows_step, rows_all}
use Rattle.laws.proofs.Tabulated.{tab_ext}
use Rattle.forming_predictions.specs.Forming.{block_of}
use Rattle.forming_predictions.specs.inner.Views.{line_start, line_cell}
use Rattle.forming_predictions.specs.inner.Blocks.{formed_at, row_at, LiesIn}
use Rattle.forming_predictions.proofs.RowMeans.{fours_of_two}
use Rattle.forming_predictions.proofs.Blocks.{row_of_block}
use Rattle.forming_predictions.proofs.ViewRows.{same_row, inside_cells, line_below, line_next, row_room}
use Rattle.forming_predictions.proofs.inside.two_square.Goals as goal

pub loop-r-init : goal.loop-r-init
loop-r-init c =
    let v = c.args.view in
    let here : c.args.y ≡ c.args.y + 0 = omega arith in
    (rows_none _ _ _ _ c.requires.2, c.start-a.ensures ∙ ap (line_start v.first v.step v.width) here)

pub slice_bounds-two_row-end-in-loop-r : goal.slice_bounds-two_row-end-in-loop-r
slice_bounds-two_row-end-in-loop-r c =
    let v = c.args.view in
    let y = c.args.y + c.loop-r.r in
    row_room v (y + c.args.to.below) (omega (arith, c.requires.0.below)) (line_below v y c.args.to.below c.loop-r.invariant.1)

pub loop-r-preserved : goal.loop-r-preserved
unfolding line_cell
loop-r-preserved c =
    let v = c.args.view in
    let to = c.args.to in
    let y = c.args.y + c.loop-r.r in
    let turn : c.loop-r.r < 8 = omega arith in
    let i : LiesIn v to c.args.x y 8 1 = record { right = c.requires.0.right; below = omega (arith, c.requires.0.below) } in
    let part = rows_part c.loop-r.invariant.0 turn in
    let under = line_below v y to.below c.loop-r.invariant.1 in (
      rows_step c.loop-r.invariant.0 turn
          ((rw (under, c.loop-r.invariant.1) at c.two_row.ensures)
          ∙ fours_of_two (row_at v y) (row_at v (y + to.below)) c.args.x to.right part to.near.0 to.near.1 (λ b. omega arith) (same_row v to i)
          ∙ tab_ext _ _ _ (λ k h. inside_cells v to i k (omega arith)))
          (row_of_block (formed_at v to) (pos c.args.x) (pos c.args.y) 8 c.loop-r.r),
      line_next v y c.loop-r.invariant.1 (omega arith),
    )

pub returns : goal.returns
unfolding block_of
returns c = rows_all c.loop-r.invariant.0 (omega arith)
