-- Byte strings: two hexadecimal digits to a byte, and a lone minus for the empty string. The format is this repository's.
use Rattle.std.specs.Prelude.{◌≡◌, Bool, true, ◌&&◌, ◌||◌, cond, List, ◌++◌, ℕ, ◌+◌, ◌*◌, ◌-◌, ◌/◌, ◌%◌, eqb, leb, ltb, length, get_or, drop, Result, Ok, Err}
use Rattle.std.specs.List.{prefix_len}
use Rattle.laws.specs.Tabulate.{tabulate}
use Rattle.lists.specs.declared.class.Class.TheVariants.{Digit, Hex}
use Rattle.lists.specs.declared.unread.Unread.{Unread}
use Rattle.lists.specs.declared.unread.Unread.TheVariants.{Malformed, OutOfMemory}
use Rattle.lists.specs.Text.{in_class, word_at}

abbrev pub is_empty_string : List ℕ → Bool
is_empty_string w = eqb (length w) 1 && eqb (get_or w 0 0) 45

-- a byte string of at most so many bytes
abbrev pub is_bytes : List ℕ → ℕ → Bool
is_bytes w most =
    is_empty_string w
    || (ltb 0 (length w) && eqb (length w % 2) 0 && leb (length w / 2) most && eqb (prefix_len (in_class Hex) w) (length w))

abbrev pub hex_of : ℕ → ℕ
hex_of b = cond (in_class Digit b) (b - 48) (cond (in_class Hex b) (b - 87) 0)

abbrev pub byte_at : List ℕ → ℕ → ℕ
byte_at w k = hex_of (get_or w (2 * k) 0) * 16 + hex_of (get_or w (2 * k + 1) 0)

abbrev pub bytes_of : List ℕ → List ℕ
bytes_of w = tabulate (length w / 2) (byte_at w)

-- read into a buffer that holds o: the bytes go to its front, and where no byte string stands it keeps what it has
abbrev pub stored : List ℕ → List ℕ → List ℕ
stored w o = cond (is_bytes w (length o)) (bytes_of w ++ drop (length w / 2) o) o

-- what is read as a byte string at a place: only where none stands there, the line is malformed
abbrev pub BytesAt : List ℕ → ℕ → ℕ → Result (List ℕ) Unread → Type 0
BytesAt s at most (Ok bytes) = (is_bytes (word_at s at) most ≡ true) × (bytes ≡ bytes_of (word_at s at))
BytesAt s at most (Err why) = why ≡ cond (is_bytes (word_at s at) most) OutOfMemory Malformed

-- the bytes b, b + 1 and so on, modulo 256
abbrev pub ramp : ℕ → ℕ → ℕ
ramp b k = (b + k % 256) % 256
