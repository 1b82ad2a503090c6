-- A plane that has samples is read, by the lines of its view.
-- Assumes nothing.
use Rattle.std.proofs.Common.{sym, ◌∙◌}
use Rattle.combine_predictions.proofs.Answers.{given}
use Rattle.forming_predictions.specs.inner.Blocks.{read}
use Rattle.forming_predictions.proofs.Reading.{sample_accepted, at_moved, at_half}
use Rattle.forming_predictions.proofs.Forming.{view_formed}
use Rattle.forming_predictions.proofs.predict_sample.Goals as goal

pub returns-clause-answer : goal.returns-clause-answer
returns-clause-answer g c =
    let a = c.args in
    let r = c.ranges in
    given (sample_accepted c.plane-plane.ensures r.x r.y c.in_ok-check_sample.ensures)
    ((rw (
      at_moved r.x r.horizontal c.moved.ensures,
      at_moved r.y r.vertical c.moved-2.ensures,
      at_half r.horizontal c.neighbour.ensures.0,
      at_half r.vertical c.neighbour.ensures.1,
    )
    at c.form_sample.ensures)
    ∙ view_formed (read c.view_of.result) _ c.view_of.ensures a.x a.y a.horizontal a.vertical)

pub returns-clause-refusal : goal.returns-clause-refusal
returns-clause-refusal g c = sym (sample_accepted c.plane-plane.ensures c.ranges.x c.ranges.y c.in_ok-check_sample.ensures)

pub returns-clause-value : goal.returns-clause-value
returns-clause-value g c =
    let e = rw (sample_accepted c.plane-plane.ensures c.ranges.x c.ranges.y c.in_ok-check_sample.ensures) at (returns-clause-answer g c) in
    cc
