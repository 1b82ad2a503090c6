-- The predictors' 32 bytes and the eight numbers are each read back out of the other.
-- Assumes nothing.
use mathlib.Core.Path.{◌≡◌, refl, sym, ap, ◌∙◌}
use mathlib.Core.List.{List, [], ◌∷◌, ◌++◌}
use Prim.Native.Nat.{ℕ, zero, suc, ◌+◌, ◌*◌, ◌/◌, ◌%◌, ◌<◌}
use native.Mathlib.Omega.{arith}
use lib.IntN.{ℤ}
use lib.ListN.{length, get_or}
use mir.Syntax.{w32}
use mir.Val.{SFits}
use mir.Facts.{of_z-to_z}
use Rattle.laws.specs.All.{All}
use Rattle.laws.specs.Tabulate.{tabulate}
use Rattle.laws.proofs.Tabulated.{tab_self}
use Rattle.pmv.specs.declared.predictors.Pmv.{Pmv}
use Rattle.entry_points.specs.Layout.{word_of, signed_of, bytes_of, word_at, number_at, predictors_of, numbers_bytes, predictor_bytes}
use Rattle.entry_points.proofs.Words.{Eight, eight, eight_of, word_is, word_fits, word_back, number_back}

-- ---- numbers, by way of bytes

-- a number out of its four bytes
number_read : (z : ℤ) → SFits w32 z → signed_of (word_at (bytes_of z) 0) ≡ z
unfolding bytes_of
number_read z f = ap signed_of (word_back (word_of z) (word_fits z f)) ∙ number_back z f

numbers_back : {l : List ℤ} → Eight l → All (SFits w32) l → (predictors_of (numbers_bytes l)).values ≡ l
unfolding predictors_of number_at numbers_bytes bytes_of
numbers_back (eight a b c d e f g h) p =
    λ i. number_read a p.0 i
    ∷ number_read b p.1.0 i
    ∷ number_read c p.1.1.0 i
    ∷ number_read d p.1.1.1.0 i
    ∷ number_read e p.1.1.1.1.0 i
    ∷ number_read f p.1.1.1.1.1.0 i
    ∷ number_read g p.1.1.1.1.1.1.0 i
    ∷ number_read h p.1.1.1.1.1.1.1.0 i
    ∷ []

-- eight numbers that fit 32 bits are written and read back
pub predictors_back : (p : Pmv) → length p.values ≡ 8 → All (SFits w32) p.values → predictors_of (predictor_bytes p) ≡ p
predictors_back p n f = λ i. record { values = numbers_back (eight_of p.values n) f i }

-- ---- bytes, by way of numbers

below_at : (l : List ℕ) → All (λ (b : ℕ). b < 256) l → (i : ℕ) → get_or l i 0 < 256
below_at [] p i = omega arith
below_at (b ∷ l) p zero = p.0
below_at (b ∷ l) p (suc i) = below_at l p.1 i

-- the four bytes of a word
module _ (n a b c d : ℕ) (ha : a < 256) (hb : b < 256) (hc : c < 256) (hd : d < 256) (is : n ≡ a + b * 256 + c * 65536 + d * 16777216) where
  first : n % 256 ≡ a
  first = omega arith

  second : n / 256 % 256 ≡ b
  second = omega arith

  third : n / 65536 % 256 ≡ c
  third = omega arith

  fourth : n / 16777216 % 256 ≡ d
  fourth = omega arith

  -- and of its number
  bytes_read : bytes_of (signed_of n) ≡ a ∷ b ∷ c ∷ d ∷ []
  unfolding bytes_of
  bytes_read =
      let w : word_of (signed_of n) ≡ n = sym (word_is (signed_of n)) ∙ of_z-to_z {w = w32} (record { fits = omega arith }) in
      rw w (λ i. first i ∷ second i ∷ third i ∷ fourth i ∷ [])

-- 32 bytes are read and written back
pub bytes_read_back : (l : List ℕ) → length l ≡ 32 → ((i : ℕ) → get_or l i 0 < 256) → predictor_bytes (predictors_of l) ≡ l
unfolding predictors_of number_at numbers_bytes tabulate
bytes_read_back l n b =
    (λ i. at 0 i ++ (at 4 i ++ (at 8 i ++ (at 12 i ++ (at 16 i ++ (at 20 i ++ (at 24 i ++ (at 28 i ++ []))))))))
    ∙ (sym (ap (λ (k : ℕ). tabulate k (λ (i : ℕ). get_or l i 0)) n) ∙ tab_self l)
  where
    at : (k : ℕ) → bytes_of (signed_of (word_at l k)) ≡ get_or l k 0 ∷ get_or l (k + 1) 0 ∷ get_or l (k + 2) 0 ∷ get_or l (k + 3) 0 ∷ []
    at k = bytes_read (word_at l k) (get_or l k 0) (get_or l (k + 1) 0) (get_or l (k + 2) 0) (get_or l (k + 3) 0) (b k) (b (k + 1)) (b (k + 2)) (b (k + 3)) refl

pub bytes_back : (l : List ℕ) → length l ≡ 32 → All (λ (b : ℕ). b < 256) l → predictor_bytes (predictors_of l) ≡ l
bytes_back l n p = bytes_read_back l n (below_at l p)
