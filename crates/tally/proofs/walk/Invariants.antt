-- What is left of the walk, with what was done of it, is the whole walk. Each turn goes further in the list.
-- Assumes nothing.
use Rattle.std.proofs.Common.{◌≡◌, ◌-◌, Bool, List, Option, length}
use Rattle.std.specs.Fn.{CalledAtMut}
use Rattle.tally.specs.declared.Tally.{Tally}
use Rattle.tally.specs.Counts.{none}
use Rattle.tally.specs.Walk.{Walks}
use Rattle.tally.proofs.walk.Given as goal

abbrev pub invariant-loop-line : goal.invariant-loop-line
invariant-loop-line g l =
    record {
      callable : goal.J-IsAlwaysCallable g l.judge;
      text : l.lines.text.now ≡ l.list;
      walks :
          (lines : List (Option Bool)) (r : Tally)
          → Walks (CalledAtMut g.J.FnMut) l.list lines l.judge l.lines.at l.tally r
          → (all : List (Option Bool)) × Walks (CalledAtMut g.J.FnMut) l.list all l.fn.judge 0 none r;
    }

abbrev pub decreases-loop-line : goal.decreases-loop-line
decreases-loop-line g l = length l.lines.text.now - l.lines.at
