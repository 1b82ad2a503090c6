-- After i turns the first i bytes are written.
-- Assumes nothing.
use Rattle.laws.proofs.Filled.{Filled}
use Rattle.lists.specs.ByteStrings.{ramp}
use Rattle.lists.proofs.byte_strings.fill.Given as goal

abbrev pub invariant-loop-i : goal.invariant-loop-i
invariant-loop-i l = Filled (ramp l.b) l.initial.s l.i l.s
