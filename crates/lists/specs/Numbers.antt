-- Decimal numbers. The format is this repository's.
use Rattle.std.specs.Prelude.{◌≡◌, Bool, true, false, ◌&&◌, cond, List, [], ◌∷◌, ℕ, zero, suc, ◌+◌, ◌*◌, ◌-◌, ◌<◌, eqb, leb, ltb, ℤ, pos, neg_ℤ, length, get_or, drop, Result, Ok, Err}
use Rattle.std.specs.List.{prefix_len}
use Rattle.lists.specs.declared.class.Class.TheVariants.{Digit}
use Rattle.lists.specs.declared.unread.Unread.{Unread}
use Rattle.lists.specs.declared.unread.Unread.TheVariants.{Malformed}
use Rattle.lists.specs.Text.{in_class, word_at, word_end}

-- 1 to 18 digits
abbrev pub is_natural : List ℕ → Bool
is_natural w = ltb 0 (length w) && leb (length w) 18 && eqb (prefix_len (in_class Digit) w) (length w)

abbrev pub digit_of : ℕ → ℕ
digit_of b = cond (in_class Digit b) (b - 48) 0

-- v with the digits of w after it
unfoldable pub decimal : ℕ → List ℕ → ℕ
decimal v [] = v
decimal v (d ∷ w) = decimal (v * 10 + digit_of d) w

abbrev pub natural_of : List ℕ → ℕ
natural_of w = cond (is_natural w) (decimal 0 w) 0

-- a minus before the digits of a negative number
abbrev pub is_negative : List ℕ → Bool
is_negative w = eqb (get_or w 0 0) 45

abbrev pub is_number : List ℕ → Bool
is_number w = cond (is_negative w) (is_natural (drop 1 w)) (is_natural w)

-- 0 where no number stands
abbrev pub number_of : List ℕ → ℤ
number_of w = cond (is_negative w) (neg_ℤ (pos (natural_of (drop 1 w)))) (pos (natural_of w))

-- what is read as a number at a place
abbrev pub number_at : List ℕ → ℕ → Result ℤ Unread
number_at s at = cond (is_number (word_at s at)) (Ok (number_of (word_at s at))) (Err Malformed)

abbrev pub IsNumberAt : List ℕ → ℕ → Type 0
IsNumberAt s at = is_number (word_at s at) ≡ true

-- the number at a place is one of which this answer may be given
pub record IsKindAt {K E : Type 0} (answers : ℕ → Result K E → Type 0) (s : List ℕ) (at : ℕ) (answer : Result K E) : Type 0 where
  pub number : ℕ
  pub there : number_at s at ≡ Ok (pos number)
  pub answered : answers number answer

-- the place behind so many words
unfoldable pub words_end : List ℕ → ℕ → ℕ → ℕ
words_end s at zero = at
words_end s at (suc k) = word_end s (words_end s at k)

abbrev pub ZerosAt : List ℕ → ℕ → ℕ → Type 0
ZerosAt s at count = (k : ℕ) → k < count → number_at s (words_end s at k) ≡ Ok (pos 0)

-- a 1 says that something follows, and else a 0 stands there, and so many in place of what is absent
abbrev pub PresentAt : List ℕ → ℕ → ℕ → Bool → Type 0
PresentAt s at fields true = number_at s at ≡ Ok (pos 1)
PresentAt s at fields false = (number_at s at ≡ Ok (pos 0)) × ZerosAt s (word_end s at) fields

abbrev pub present_end : List ℕ → ℕ → ℕ → Bool → ℕ
present_end s at fields true = word_end s at
present_end s at fields false = words_end s (word_end s at) fields
