-- What is read in the rows of the clamped lines is what the view reads.
-- Assumes nothing.
use Rattle.std.proofs.Common.{◌≡◌, refl, ◌∙◌, pos, ◌+ℤ◌, arith}
use Rattle.laws.proofs.Tabulated.{tab_ext}
use Rattle.forming_predictions.proofs.Reading.{at_further, at_twice}
use Rattle.forming_predictions.proofs.Blocks.{clamped_cells, copied_cells}
use Rattle.forming_predictions.proofs.narrow.clamped_line.Goals as goal

pub returns-then-to-eq0 : goal.returns-then-to-eq0
returns-then-to-eq0 c =
    let a = c.args in
    let right : a.to.right ≡ 0 = omega arith in
    let below : a.to.below ≡ 0 = omega arith in
    let row = rw (at_further c.further.type_inv c.further.ensures) at c.clamped_row-row.ensures in
    rw (right, below)
    ((rw row at c.clamped_copy.ensures) ∙ tab_ext _ _ _ (λ k h. copied_cells a.view.fits (a.y.at +ℤ pos a.r) refl a.x.at k))

pub returns : goal.returns
returns c =
    let a = c.args in
    let row = rw (at_further c.further.type_inv c.further.ensures) at c.clamped_row-row.ensures in
    let under = rw (at_twice _ _ a.y.at c.further-2.type_inv c.further-2.ensures) at c.clamped_row-below.ensures in
    (rw (row, under) at c.clamped_row.ensures)
    ∙ tab_ext _ _ _ (λ k h. clamped_cells a.view.fits (a.y.at +ℤ pos a.r) refl a.to.below refl a.x.at a.to.right k)
