-- What a replay counts in a list, by what its judge answers to each case.
use Rattle.std.specs.Prelude.{◌≡◌, ℕ, Bool, false, cond, List, [], ◌∷◌, Option, Some, None, Result, Ok, Err, ◌⊎◌}
use Rattle.lists.specs.declared.cursor.Cursor.{Cursor}
use Rattle.lists.specs.declared.cursor.Line.TheVariants.{Comment, Case}
use Rattle.lists.specs.declared.unread.Unread.{Unread}
use Rattle.lists.specs.declared.unread.Unread.TheVariants.{Malformed}
use Rattle.lists.specs.Text.{line_ends, line_end, NextAt}
use Rattle.tally.specs.declared.Tally.{Tally}
use Rattle.tally.specs.Counts.{after_comment, after_case, at_end}

-- a case has to end its line
abbrev pub verdict_of : Result Bool Unread → Cursor → Result Bool Unread
verdict_of (Ok agrees) left = cond (line_ends left.text.now left.at) (Ok agrees) (Err Malformed)
verdict_of (Err why) left = Err why

-- a judge: its states before and after a call at a case, what it answers, and where it stops to read
abbrev pub Judge : Type 0 → Type 1
Judge J = J → Cursor → Result Bool Unread → J → Cursor → Type 0

abbrev pub Verdict : {J : Type 0} → Judge J → J → Cursor → Result Bool Unread → J → Type 0
Verdict judges j case verdict k = (answer : Result Bool Unread) × (left : Cursor) × judges j case answer k left × (verdict ≡ verdict_of answer left)

-- where a walk ends: at the end of the list, or at a case that is not well formed
abbrev pub Ends : {J : Type 0} → Judge J → List ℕ → J → ℕ → Tally → Tally → Type 0
Ends {J} judges s j at t r =
    (NextAt s at None × (r ≡ t))
    ⊎ ((case : Cursor) × (k : J) × NextAt s at (Some (Case case)) × Verdict judges j case (Err Malformed) k × (r ≡ at_end t false))

-- r is the count of the list from a place on, where t is that of the lines before: each of these lines is a comment, or a case and whether it agrees
abbrev pub Walks : {J : Type 0} → Judge J → List ℕ → List (Option Bool) → J → ℕ → Tally → Tally → Type 0
Walks judges s [] j at t r = Ends judges s j at t r
Walks judges s (None ∷ lines) j at t r = NextAt s at (Some Comment) × Walks judges s lines j (line_end s at) (after_comment t) r
Walks {J} judges s (Some agrees ∷ lines) j at t r =
    (case : Cursor)
    × (k : J)
    × NextAt s at (Some (Case case))
    × Verdict judges j case (Ok agrees) k
    × Walks judges s lines k (line_end s at) (after_case t agrees) r
