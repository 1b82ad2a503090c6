-- The figure of pictures 0 to 4 cannot be made smaller: the runs that meet it leave no room.
-- Assumes nothing.
use mathlib.Core.Path.{◌≡◌}
use mathlib.Core.List.{List, [], ◌∷◌, ◌++◌}
use Prim.Native.Nat.{ℕ, zero, suc, ◌+◌, ◌*◌, ◌/◌, ◌%◌, ◌^◌, ◌≤◌, ◌<◌}
use native.Mathlib.Nat.{le_refl, le_of_mul-le-mul_right}
use native.Mathlib.Omega.{arith}
use Rattle.laws.specs.All.{All}
use Rattle.inter_reconstruction.specs.Components.{luma}
use Rattle.drift.specs.Steps.{Step}
use Rattle.drift.specs.Drift.{InRange}
use Rattle.worked_runs.specs.Runs.{Tight, TightUpTo, g, each, rows, brighter, MeetsAbove, triangle, hollow, unchanged, MeetsBelow}
use Rattle.worked_runs.proofs.Runs.{meets_above, meets_below, fits}

-- ---- the steps of each picture are in range

all_and_last : {A : Type 0} (P : A → Type 0) (xs : List A) (x : A) → All P xs → P x → All P (xs ++ (x ∷ []))
all_and_last P [] x a p = (p, tt)
all_and_last P (y ∷ ys) x a p = (a.0, all_and_last P ys x a.1 p)

each_in_range : (k : ℕ) (s : ℕ → Step) → ((m : ℕ) → suc m ≤ k → InRange k (s (suc m))) → (n : ℕ) → n ≤ k → All (InRange k) (each s n)
each_in_range k s r zero h = tt
each_in_range k s r (suc n) h = all_and_last (InRange k) (each s n) (s (suc n)) (each_in_range k s r n (omega (arith, h))) (r n h)

brighter_in_range : (k m : ℕ) → suc m ≤ k → InRange k (brighter (suc m))
brighter_in_range k m h = record { first = omega arith; last = h; forward = omega arith; backward = omega arith }

unchanged_in_range : (k m : ℕ) → suc m ≤ k → InRange k (unchanged (suc m))
unchanged_in_range k m h = record { first = omega arith; last = h; forward = omega arith; backward = tt }

-- ---- what is left when a sample has used up the bound

least_above : (n P s u above : ℕ) → 0 < P → 4 * (P * s) ≡ 4 * u + 4 * n * P → 4 * (P * s) ≤ 4 * u + above * P → 4 * n ≤ above
least_above n P s u above p e h = le_of_mul-le-mul_right (omega (arith, e, h)) p

least_below : (n P s u below : ℕ) → 0 < P → 4 * u ≡ 4 * (P * s) + n * P → 4 * u ≤ 4 * (P * s) + below * P → n ≤ below
least_below n P s u below p e h = le_of_mul-le-mul_right (omega (arith, e, h)) p

tight_at : (n : ℕ) → 0 < 8 ^ n → MeetsAbove n → MeetsBelow n → Tight n
tight_at n p a b above below w = (
  least_above n (8 ^ n) _ _ above p a
      (w g n rows (fits (λ (k : ℕ). k / 16) n) (each brighter n) (each_in_range n brighter (brighter_in_range n) n (le_refl n)) (le_refl n) luma 128).high,
  least_below n (8 ^ n) _ _ below p b
      (w g n hollow (fits (λ (k : ℕ). triangle (k % 16) (k / 16)) n) (each unchanged n) (each_in_range n unchanged (unchanged_in_range n) n (le_refl n)) (le_refl n)
      luma 19).low,
)

pub tight : TightUpTo 4
tight zero h = λ above below w. (omega arith, omega arith)
tight (suc zero) h = tight_at 1 (omega arith) meets_above.0 meets_below.0
tight (suc (suc zero)) h = tight_at 2 (omega arith) meets_above.1.0 meets_below.1.0
tight (suc (suc (suc zero))) h = tight_at 3 (omega arith) meets_above.1.1.0 meets_below.1.1.0
tight (suc (suc (suc (suc zero)))) h = tight_at 4 (omega arith) meets_above.1.1.1.0 meets_below.1.1.1.0
tight (suc (suc (suc (suc (suc n))))) h = λ above below w. (omega (arith, h), omega (arith, h))
