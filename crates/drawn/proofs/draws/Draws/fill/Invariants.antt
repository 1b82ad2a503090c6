-- After some turns the bytes so far are those of as many draws.
-- Assumes nothing.
use Rattle.std.proofs.Common.{◌≡◌}
use Rattle.laws.proofs.Filled.{Filled}
use Rattle.drawn.specs.Draws.{number_after, draw}
use Rattle.drawn.proofs.draws.Draws.fill.Given as goal

abbrev pub invariant-loop-byte : goal.invariant-loop-byte
invariant-loop-byte l =
    record {
      filled : Filled (draw l.initial.draws.last) l.initial.bytes l.byte-index l.bytes;
      last : l.draws.last ≡ number_after l.initial.draws.last l.byte-index;
    }
