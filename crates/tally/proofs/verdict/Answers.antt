-- The judge's answer and where it stopped, and what the verdict makes of them.
-- Assumes nothing.
use Rattle.std.proofs.Common.{arith, rules}
use Rattle.std.proofs.lemmas.Grind.{common_steps}
use Rattle.tally.proofs.verdict.Goals as goal

pub returns-in_err-agrees-clause-verdict : goal.returns-in_err-agrees-clause-verdict
returns-in_err-agrees-clause-verdict g c =
    (c.judge.result, c.judge.new.arg2, search rules, grind (arith, common_steps))

pub returns-in_err-line_ends-clause-verdict : goal.returns-in_err-line_ends-clause-verdict
returns-in_err-line_ends-clause-verdict g c =
    (c.judge.result, c.judge.new.arg2, search rules, grind (arith, common_steps))

pub returns-clause-verdict : goal.returns-clause-verdict
returns-clause-verdict g c = (c.judge.result, c.judge.new.arg2, search rules, grind (arith, common_steps))
