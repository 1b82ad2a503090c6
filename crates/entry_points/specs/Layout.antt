-- The buffers of the C entry points: 32-bit numbers in two's complement, each as four bytes, the lowest first. proofs/ReadBack.antt shows that
-- the predictors are read back out of their bytes, and the bytes out of the predictors.
-- docs/SCOPE.md leaves the layout to docs/C-INTERFACE.md, which has it in words ("Layouts"). Nothing here is the standard's.
use Rattle.std.specs.Prelude.{cond, List, [], ◌∷◌, ◌++◌, ℕ, suc, ◌+◌, ◌-◌, ◌*◌, ◌/◌, ◌%◌, ltb, ℤ, pos, negsuc, get_or, take, drop}
use Rattle.pmv.specs.Predictors.{pmv_index}
use Rattle.pmv.specs.declared.kinds.Component.TheVariants.{Horizontal}
use Rattle.pmv.specs.declared.kinds.VectorIndex.{VectorIndex}
use Rattle.pmv.specs.declared.kinds.Direction.{Direction}
use Rattle.pmv.specs.declared.predictors.Pmv.{Pmv}
use Rattle.pmv.specs.declared.predictors.PredictorPair.{PredictorPair}

-- ---- one number

-- its two's complement: 2 ^ 32 is added to a negative number. negsuc n is -(n + 1)
abbrev pub word_of : ℤ → ℕ
word_of (pos n) = n
word_of (negsuc n) = 4294967296 - suc n

-- and back
abbrev pub signed_of : ℕ → ℤ
signed_of n = cond (ltb n 2147483648) (pos n) (negsuc (4294967296 - suc n))

-- four bytes, the lowest first
abbrev pub word_bytes : ℕ → List ℕ
word_bytes n = n % 256 ∷ n / 256 % 256 ∷ n / 65536 % 256 ∷ n / 16777216 % 256 ∷ []

unfoldable pub bytes_of : ℤ → List ℕ
bytes_of z = word_bytes (word_of z)

-- the word, and the number, whose first byte is at place k
abbrev pub word_at : List ℕ → ℕ → ℕ
word_at l k = get_or l k 0 + get_or l (k + 1) 0 * 256 + get_or l (k + 2) 0 * 65536 + get_or l (k + 3) 0 * 16777216

unfoldable pub number_at : List ℕ → ℕ → ℤ
number_at l k = signed_of (word_at l k)

-- ---- the predictors: eight numbers, 32 bytes

unfoldable pub predictors_of : List ℕ → Pmv
predictors_of l =
    record {
      values =
          number_at l 0 ∷ number_at l 4 ∷ number_at l 8 ∷ number_at l 12
          ∷ number_at l 16 ∷ number_at l 20 ∷ number_at l 24 ∷ number_at l 28 ∷ [];
    }

unfoldable pub numbers_bytes : List ℤ → List ℕ
numbers_bytes [] = []
numbers_bytes (z ∷ zs) = bytes_of z ++ numbers_bytes zs

abbrev pub predictor_bytes : Pmv → List ℕ
predictor_bytes p = numbers_bytes p.values

-- two numbers: the predictors of one vector, or a vector's components
abbrev pub pair_bytes : ℤ → ℤ → List ℕ
pair_bytes h v = bytes_of h ++ bytes_of v

-- PMV[r][s][1:0] replaced: its eight bytes, and no others
unfoldable pub with_pair : List ℕ → VectorIndex → Direction → PredictorPair → List ℕ
with_pair l r s p =
    take (4 * pmv_index r s Horizontal) l
    ++ (pair_bytes p.horizontal p.vertical ++ drop (4 * pmv_index r s Horizontal + 8) l)
