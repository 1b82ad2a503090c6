-- The generator: the C standard's example of rand, without the lowest bits of its numbers.
use Rattle.std.specs.Prelude.{List, ℕ, zero, suc, ◌+◌, ◌*◌, ◌/◌, ◌%◌}
use Rattle.laws.specs.Tabulate.{tabulate}

abbrev pub next_number : ℕ → ℕ
next_number s = (s % 2147483648 * 1103515245 + 12345) % 2147483648

abbrev pub bits_of : ℕ → ℕ
bits_of s = s / 65536

abbrev pub byte_of : ℕ → ℕ
byte_of s = s / 65536 % 256

-- what three draws give together
abbrev pub number_of_45 : ℕ → ℕ
number_of_45 s =
    let one = next_number s in
    let two = next_number one in
    let three = next_number two in
    (bits_of one * 32768 + bits_of two) * 32768 + bits_of three

-- the number after so many draws
unfoldable pub number_after : ℕ → ℕ → ℕ
number_after s zero = s
number_after s (suc k) = next_number (number_after s k)

-- the byte of the draw after so many
abbrev pub draw : ℕ → ℕ → ℕ
draw s k = byte_of (next_number (number_after s k))

-- the next so many bytes
abbrev pub drawn : ℕ → ℕ → List ℕ
drawn s count = tabulate count (draw s)
