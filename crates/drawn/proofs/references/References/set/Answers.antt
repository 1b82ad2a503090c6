-- The planes stand behind the reference's number.
-- Assumes nothing.
use Rattle.drawn.proofs.Moved.{planes_moved}
use Rattle.drawn.proofs.references.References.set.Goals as goal

pub returns-in_ok-self-in-0-clause-moved : goal.returns-in_ok-self-in-0-clause-moved
returns-in_ok-self-in-0-clause-moved c = planes_moved c.integer.ensures.moved c.in_ok-self-in-0.ensures.moved

pub returns-in_ok-self-in-1-clause-moved : goal.returns-in_ok-self-in-1-clause-moved
returns-in_ok-self-in-1-clause-moved c = planes_moved c.integer.ensures.moved c.in_ok-self-in-1.ensures.moved
