-- The two numbers, and the ramp that they say.
-- Assumes nothing.
use Rattle.std.proofs.Common.{rules, ◌≡◌, ◌+◌}
use Rattle.std.proofs.lemmas.Result.{IfOk-weaker}
use Rattle.laws.specs.Tabulate.{tabulate}
use Rattle.lists.specs.ByteStrings.{ramp}
use Rattle.tally.specs.Lent.{IsNew, FillAt, FilledAt}
use Rattle.tally.proofs.lent.Lent.filled.Goals as goal

pub returns-clause-filled : goal.returns-clause-filled
returns-clause-filled c =
    let fill : FillAt c.args.case.now.text.now c.args.case.now.at c.in_ok-first.first c.in_ok-length.length =
    record { first_at = search rules; byte = search rules; count_at = search rules; few = search rules } in
    let room : c.in_ok-room.room.items ≡ tabulate (c.in_ok-length.length + 16) (ramp c.in_ok-first.first) = search rules in
    IfOk-weaker c.new.result (IsNew c.in_ok-room.room.items) (FilledAt c.args.case.now.text.now c.args.case.now.at)
    (λ l h.
    record {
      first = c.in_ok-first.first;
      count = c.in_ok-length.length;
      fill = fill;
      new = rw (← room) h;
    })
    c.new.ensures.new
