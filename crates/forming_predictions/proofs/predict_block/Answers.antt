-- A plane without samples gives zeros, and another one is read.
-- Assumes nothing.
use Rattle.std.proofs.Common.{◌∙◌, rules, arith}
use Rattle.forming_predictions.specs.inner.Blocks.{read}
use Rattle.forming_predictions.proofs.Reading.{same_count, block_accepted, at_moved, at_half}
use Rattle.forming_predictions.proofs.Forming.{empty_block, view_block}
use Rattle.forming_predictions.proofs.predict_block.Goals as goal

pub returns-then-plane-eq0-clause-buffer : goal.returns-then-plane-eq0-clause-buffer
returns-then-plane-eq0-clause-buffer g c =
    let r = block_accepted c.plane-plane.ensures c.ranges.top_left_x c.ranges.top_left_y c.in_ok-check_block.ensures in
    c.fill.ensures.after (λ y e. search rules) ∙ empty_block _ _ _ _ _ _ _ _ _ _ _ (omega (arith, r.plane.count, same_count c.plane-plane.ensures)) r.room

pub invariant_of-form : goal.invariant_of-form
invariant_of-form g c = record { fits = (block_accepted c.plane-plane.ensures c.ranges.top_left_x c.ranges.top_left_y c.in_ok-check_block.ensures).sides }

pub form-requires : goal.form-requires
form-requires g c = (block_accepted c.plane-plane.ensures c.ranges.top_left_x c.ranges.top_left_y c.in_ok-check_block.ensures).room

pub returns-clause-buffer : goal.returns-clause-buffer
returns-clause-buffer g c =
    let a = c.args in
    let r = c.ranges in
    (rw (
      at_moved r.top_left_x r.horizontal c.moved.ensures,
      at_moved r.top_left_y r.vertical c.moved-2.ensures,
      at_half r.horizontal c.neighbour.ensures.0,
      at_half r.vertical c.neighbour.ensures.1,
    )
    at c.form.ensures)
    ∙ view_block (read c.view_of.result) _ c.view_of.ensures a.size.width a.size.height a.top_left_x a.top_left_y a.horizontal a.vertical
