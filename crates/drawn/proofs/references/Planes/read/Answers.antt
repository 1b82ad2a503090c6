-- Each part is read where the one before it ends, and drawn from where the run has come to.
-- Assumes nothing.
use Rattle.std.proofs.Common.{rules, arith, ap, ◌∙◌}
use Rattle.drawn.specs.Draws.{number_after}
use Rattle.drawn.specs.Fields.{NumberAt}
use Rattle.drawn.proofs.Moved.{third_moved, number_moved, extent_moved, drawn_moved}
use Rattle.drawn.proofs.references.Planes.read.Goals as goal

pub returns-clause-planes : goal.returns-clause-planes
returns-clause-planes c =
    let y = c.in_ok-y.ensures in
    let cb = c.in_ok-cb.ensures in
    let cr = c.in_ok-cr.ensures in
    let cb_text = cb.moved.text ∙ y.moved.text in
    let cb_place = cb.moved.place ∙ third_moved y.moved.text y.moved.place in
    let cr_text = cr.moved.text ∙ cb_text in
    let cr_place = cr.moved.place ∙ third_moved cb_text cb_place in
    let seed : NumberAt c.read-3.new.case.text.now c.read-3.new.case.at c.in_ok-number.field-0 = search rules in
    let cb_last = c.in_ok-drawn.ensures.last ∙ ap (λ s. number_after s c.in_ok-y.y.length) c.from_seed-draws.ensures in
    let cr_last = c.in_ok-drawn-2.ensures.last ∙ ap (λ s. number_after s c.in_ok-cb.cb.length) cb_last in
    record {
      seed = c.in_ok-number.field-0;
      y = c.in_ok-y.y;
      cb = c.in_ok-cb.cb;
      cr = c.in_ok-cr.cr;
      y_at = y.extent;
      cb_at = extent_moved y.moved.text y.moved.place cb.extent;
      cr_at = extent_moved cb_text cb_place cr.extent;
      seed_at = number_moved cr_text cr_place seed;
      few = omega (arith, y.few, cb.few, cr.few);
      y_drawn = drawn_moved c.from_seed-draws.ensures c.in_ok-drawn.ensures.plane;
      cb_drawn = drawn_moved cb_last c.in_ok-drawn-2.ensures.plane;
      cr_drawn = drawn_moved cr_last c.in_ok-drawn-3.ensures.plane;
    }
