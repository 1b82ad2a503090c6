-- All rows of the table hold by computing them, as Cases.antt does.
-- Assumes nothing.
use Rattle.worked_cases.proofs.Cases.{cases_hold}
use Rattle.worked_cases.proofs.number_of_cases.Goals as goal

pub returns-clause-hold : goal.returns-clause-hold
returns-clause-hold c = cases_hold
