-- What each clause claims is proved in Runs.antt, Tight.antt and Steps.antt.
-- Assumes nothing.
use Rattle.worked_runs.proofs.Runs.{meets_above, meets_below, refusals, both_sides, whole_vectors}
use Rattle.worked_runs.proofs.Tight.{tight}
use Rattle.worked_runs.proofs.Steps.{steps_hold}
use Rattle.worked_runs.proofs.tight_pictures.Goals as goal

pub returns-clause-tight : goal.returns-clause-tight
returns-clause-tight c = tight

pub returns-clause-met : goal.returns-clause-met
returns-clause-met c = (meets_above, meets_below)

pub returns-clause-list : goal.returns-clause-list
returns-clause-list c = (refusals, both_sides, whole_vectors)

pub returns-clause-steps : goal.returns-clause-steps
returns-clause-steps c = steps_hold
