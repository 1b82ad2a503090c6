-- What was read, with the digits that are left after it, is the whole number.
-- Assumes nothing.
use Rattle.std.proofs.Common.{length, ◌≡◌, ◌^◌, ◌≤◌, ◌<◌, drop}
use Rattle.lists.specs.Numbers.{decimal}
use Rattle.lists.proofs.numbers.digits.Given as goal

abbrev pub invariant-loop-d : goal.invariant-loop-d
invariant-loop-d l =
    record {
      value : decimal l.value (drop l.d-index l.w) ≡ decimal 0 l.w;
      below : l.value < 10 ^ l.d-index;
      within : l.d-index ≤ length l.w;
    }
