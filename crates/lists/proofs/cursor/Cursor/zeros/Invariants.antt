-- After some turns as many zeros were read.
-- Assumes nothing.
use Rattle.std.proofs.Common.{◌≡◌}
use Rattle.lists.specs.Numbers.{ZerosAt, words_end}
use Rattle.lists.proofs.cursor.Cursor.zeros.Given as goal

abbrev pub invariant-loop : goal.invariant-loop
invariant-loop l =
    record {
      text : l.self.text.now ≡ l.initial.self.text.now;
      place : l.self.at ≡ words_end l.initial.self.text.now l.initial.self.at l.counter;
      zeros : ZerosAt l.initial.self.text.now l.initial.self.at l.counter;
    }
