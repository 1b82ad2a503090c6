-- Laws of words that are passed over, and of zeros.
-- Assumes nothing.
use Rattle.std.proofs.Common.{◌≡◌, refl, List, ℕ, ◌+◌, ◌<◌, pos, Ok, arith}
use mathlib.Core.Logic.{◌⊎◌, inl, inr}
use native.Mathlib.Numerals.{add-one}
use Rattle.std.proofs.Math.Nat.{eq-or-lt_of_le}
use Rattle.lists.specs.Text.{word_end}
use Rattle.lists.specs.Numbers.{number_at, words_end, ZerosAt}

pub number_moved : {s t : List ℕ} {at to : ℕ} → t ≡ s → to ≡ at → number_at t to ≡ number_at s at
number_moved text place = rw (text, place)

pub end_moved : {s t : List ℕ} {at to : ℕ} → t ≡ s → to ≡ at → word_end t to ≡ word_end s at
end_moved text place = rw (text, place)

pub words_none : (s : List ℕ) (at : ℕ) → at ≡ words_end s at 0
unfolding words_end
words_none s at = refl

-- one word more
pub words_next : (s : List ℕ) (at k : ℕ) → words_end s at (k + 1) ≡ word_end s (words_end s at k)
unfolding words_end
words_next s at k = rw (add-one k)

pub zeros_none : (s : List ℕ) (at : ℕ) → ZerosAt s at 0
zeros_none s at k below = absurd (omega (arith, below))

-- one zero more
zero_at : (s : List ℕ) (at n k : ℕ) → ZerosAt s at n → number_at s (words_end s at n) ≡ Ok (pos 0)
    → (k ≡ n) ⊎ (k < n) → number_at s (words_end s at k) ≡ Ok (pos 0)
zero_at s at n k before this (inl same) = rw (same) this
zero_at s at n k before this (inr less) = before k less

pub zeros_next : (s : List ℕ) (at n : ℕ) → ZerosAt s at n → number_at s (words_end s at n) ≡ Ok (pos 0) → ZerosAt s at (n + 1)
zeros_next s at n before this k below = zero_at s at n k before this (eq-or-lt_of_le (omega (arith, below)))
