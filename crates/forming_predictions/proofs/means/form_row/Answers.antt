-- Two samples give the mean of four where one of the steps is 0.
-- Assumes nothing.
use Rattle.std.proofs.Common.{◌∙◌, arith}
use Rattle.forming_predictions.proofs.RowMeans.{fours_of_two}
use Rattle.forming_predictions.proofs.means.form_row.Goals as goal

pub returns-in-true-false : goal.returns-in-true-false
returns-in-true-false c =
    let p = c.requires in
    c.two_row.ensures ∙ fours_of_two _ _ _ _ (omega arith) p.1 p.2 c.in-true-false.is-1 p.3

pub returns-in-false-false : goal.returns-in-false-false
returns-in-false-false c =
    let p = c.requires in
    c.two_row-in-false-false.ensures ∙ fours_of_two _ _ _ _ (omega arith) p.1 p.2 c.in-false-false.is-1 p.3
