-- The bytes that were read, and those behind them.
-- Assumes nothing.
use Rattle.std.proofs.Common.{rules, ◌≡◌, ◌∙◌, ◌++◌, length}
use Rattle.std.proofs.lemmas.Result.{IfOk-weaker}
use Rattle.lists.specs.Text.{word_at}
use Rattle.lists.specs.ByteStrings.{bytes_of}
use Rattle.tally.specs.Lent.{IsNew, HoldingAt}
use Rattle.tally.proofs.lent.Lent.holding.Goals as goal

pub returns-clause-holding : goal.returns-clause-holding
returns-clause-holding c =
    let bytes = c.in_ok-room.ensures.bytes in
    let joined : c.extend_from_slice.new.self.items
    ≡ bytes_of (word_at c.args.case.now.text.now c.args.case.now.at) ++ c.in_ok-behind.behind.items =
    c.in_ok-extend_from_slice.ensures.items ∙ rw (c.deref.ensures.value, bytes.1) in
    let sixteen : length c.in_ok-behind.behind.items ≡ 16 = search rules in
    IfOk-weaker c.new.result (IsNew c.extend_from_slice.new.self.items) (HoldingAt c.args.case.now.text.now c.args.case.now.at)
    (λ l h.
    record {
      behind = c.in_ok-behind.behind.items;
      bytes = bytes.0;
      new = rw (← joined) h;
      sixteen = sixteen;
    })
    c.new.ensures.new
