-- Laws of rows: means of parts of a row, and that a mean of four serves every pattern.
-- Assumes nothing.
use mathlib.Core.Path.{◌≡◌, refl, sym, ◌∙◌}
use mathlib.Core.List.{List}
use Prim.Native.Nat.{ℕ, zero, suc, ◌+◌, ◌-◌, ◌≤◌, ◌/◌, ◌<◌}
use native.Mathlib.Omega.{arith}
use lib.ListN.{length, get_or, take, drop}
use Rattle.laws.specs.Tabulate.{tabulate}
use Rattle.laws.proofs.Tabulated.{tab_ext}
use Rattle.laws.proofs.Parts.{part_length, part_at}
use Rattle.combine_predictions.specs.Averaging.{mean2, averaged}
use Rattle.forming_predictions.specs.Means.{mean4}
use Rattle.forming_predictions.specs.inner.Views.{two_of, four_of, RowFits}

-- the mean as docs/SCOPE.md writes it, and that it is a sample
pub mean4_is : (a b c d : ℕ) → mean4 a b c d ≡ (a + b + c + d + 2) / 4
mean4_is a b c d = refl

pub mean4_byte : (a b c d : ℕ) → a < 256 → b < 256 → c < 256 → d < 256 → mean4 a b c d < 256
mean4_byte a b c d p q r t = omega arith

-- ---- a mean of four whose samples are two, or one
pub mean4_pair : (a b : ℕ) → mean4 a b a b ≡ mean2 a b
mean4_pair a b = omega arith

pub mean4_twice : (a b : ℕ) → mean4 a a b b ≡ mean2 a b
mean4_twice a b = omega arith

pub mean4_same : (a : ℕ) → mean4 a a a a ≡ a
mean4_same a = omega arith

-- ---- n samples of two rows, from column x on, as parts
module _ {row below : List ℕ} {x dx n : ℕ} (f : RowFits row below x dx n) where
  pub here_length : length (take (x + n - x) (drop x row)) ≡ n
  here_length = part_length row x (x + n) (omega (arith, f.right)) ∙ omega arith

  pub two_parts : averaged (take (x + n - x) (drop x row)) (take (x + dx + n - (x + dx)) (drop (x + dx) below)) ≡ tabulate n (two_of row below x dx)
  unfolding two_of
  two_parts =
      rw here_length
      (tab_ext n _ _ (λ k h. rw (part_at row x (x + n) k (omega arith), part_at below (x + dx) (x + dx + n) k (omega arith))))

  pub four_parts : tabulate (length (take (x + n - x) (drop x row)))
      (λ (k : ℕ). mean4 (get_or (take (x + n - x) (drop x row)) k 0) (get_or (take (x + dx + n - (x + dx)) (drop (x + dx) row)) k 0)
      (get_or (take (x + n - x) (drop x below)) k 0) (get_or (take (x + dx + n - (x + dx)) (drop (x + dx) below)) k 0))
      ≡ tabulate n (four_of row below x dx)
  unfolding four_of
  four_parts =
      rw here_length
      (tab_ext n _ _ (λ k h. rw (
        part_at row x (x + n) k (omega arith),
        part_at row (x + dx) (x + dx + n) k (omega arith),
        part_at below x (x + n) k (omega arith),
        part_at below (x + dx) (x + dx + n) k (omega arith),
      )))

-- unless both steps are 1, two samples are enough
pub two_is_four : (row below : List ℕ) (x dx dy k : ℕ) → dx ≤ 1 → dy ≤ 1 → (dx + dy ≡ 2 → ⊥) → (dy ≡ 0 → below ≡ row)
    → two_of row below x dx k ≡ four_of row below x dx k
unfolding two_of four_of
two_is_four row below x dx zero k p q r e =
    rw (e refl) (sym (mean4_pair (get_or row (x + k) 0) (get_or row (x + dx + k) 0)))
two_is_four row below x dx (suc dy) k p q r e =
    let z : x + dx ≡ x = omega (arith, flat dx dy p q r) in
    rw z (sym (mean4_twice (get_or row (x + k) 0) (get_or below (x + k) 0)))
  where
    flat : (dx dy : ℕ) → dx ≤ 1 → suc dy ≤ 1 → (dx + suc dy ≡ 2 → ⊥) → dx ≡ 0
    flat zero dy p q r = refl
    flat (suc zero) dy p q r = absurd (r (omega arith))
    flat (suc (suc dx)) dy p q r = absurd (omega arith)

pub fours_of_two : (row below : List ℕ) (x dx : ℕ) {dy n m : ℕ} → m ≡ n → dx ≤ 1 → dy ≤ 1 → (dx + dy ≡ 2 → ⊥) → (dy ≡ 0 → below ≡ row)
    → tabulate n (two_of row below x dx) ≡ tabulate m (four_of row below x dx)
fours_of_two row below x dx {dy} {n} l p q r e = rw l (tab_ext n _ _ (λ k h. two_is_four row below x dx dy k p q r e))
