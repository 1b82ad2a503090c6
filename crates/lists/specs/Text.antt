-- Words, lines and comments of a text. The format is this repository's.
use Rattle.std.specs.Prelude.{◌≡◌, Bool, true, false, not, ◌&&◌, ◌||◌, cond, List, ℕ, ◌+◌, ◌-◌, ◌≤◌, ◌<◌, min, eqb, leb, ltb, length, get_or, take, drop, Option, Some, None}
use Rattle.std.specs.List.{prefix_len}
use Rattle.lists.specs.declared.class.Class.{Class}
use Rattle.lists.specs.declared.class.Class.TheVariants.{Blank, Space, Word, Line, Digit, Hex}
use Rattle.lists.specs.declared.cursor.Line.{Line as ALine}
use Rattle.lists.specs.declared.cursor.Line.TheVariants.{Comment, Case}

-- the bytes of each class, in ASCII: the blank; the blank and the line feed; what is neither; all but the line feed; 0 to 9; 0 to 9
-- and a to f
abbrev pub in_class : Class → ℕ → Bool
in_class Blank b = eqb b 32
in_class Space b = eqb b 32 || eqb b 10
in_class Word b = not (eqb b 32 || eqb b 10)
in_class Line b = not (eqb b 10)
in_class Digit b = leb 48 b && leb b 57
in_class Hex b = (leb 48 b && leb b 57) || (leb 97 b && leb b 102)

-- the place after the run of a class that starts at a place
abbrev pub run_end : Class → List ℕ → ℕ → ℕ
run_end class s at = at + prefix_len (in_class class) (drop at s)

-- a place past the end is the end
abbrev pub place : List ℕ → ℕ → ℕ
place s at = min at (length s)

-- the word at a place: after blanks, up to the next blank, the line's end or the end. At the end of a line it is empty
abbrev pub word_start : List ℕ → ℕ → ℕ
word_start s at = run_end Blank s (place s at)

abbrev pub word_end : List ℕ → ℕ → ℕ
word_end s at = run_end Word s (word_start s at)

abbrev pub word_at : List ℕ → ℕ → List ℕ
word_at s at = take (word_end s at - word_start s at) (drop (word_start s at) s)

-- whether a line ends at a place
abbrev pub line_ends : List ℕ → ℕ → Bool
line_ends s at = cond (ltb at (length s)) (eqb (get_or s at 0) 10) true

-- what comes next, on whatever line: the end; a comment, which begins with a number sign and ends with its line; or a case
abbrev pub next_start : List ℕ → ℕ → ℕ
next_start s at = run_end Space s (place s at)

-- the end of the line on which that stands
abbrev pub line_end : List ℕ → ℕ → ℕ
line_end s at = run_end Line s (next_start s at)

abbrev pub NextAt : List ℕ → ℕ → Option ALine → Type 0
NextAt s at None = length s ≤ next_start s at
NextAt s at (Some Comment) = (next_start s at < length s) × (get_or s (next_start s at) 0 ≡ 35)
NextAt s at (Some (Case line)) =
    (next_start s at < length s)
    × (eqb (get_or s (next_start s at) 0) 35 ≡ false)
    × (line.text.now ≡ s)
    × (line.at ≡ next_start s at)
