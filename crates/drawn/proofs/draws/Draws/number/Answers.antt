-- Three draws, one after the other.
-- Assumes nothing.
use Rattle.std.proofs.Common.{sym, ap, ◌∙◌}
use Rattle.drawn.specs.Draws.{next_number}
use Rattle.drawn.proofs.Runs.{number_after_three}
use Rattle.drawn.proofs.draws.Draws.number.Goals as goal

pub returns-clause-last : goal.returns-clause-last
returns-clause-last c =
    c.bits-low.ensures.last
    ∙ ap next_number (c.bits-middle.ensures.last ∙ ap next_number c.bits-high.ensures.last)
    ∙ sym (number_after_three c.args.self.now.last)
