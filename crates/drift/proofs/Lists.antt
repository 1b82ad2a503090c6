-- Placing keeps two lists related index by index.
-- Assumes nothing.
use mathlib.Core.List.{List, [], ◌∷◌}
use Prim.Native.Nat.{ℕ, zero, suc}
use native.Mathlib.Omega.{arith}
use Rattle.laws.proofs.Related.{Related, related_set, related_head, related_tail}
use Rattle.inter_reconstruction.specs.Placing.{stored}

module _ (R : ℕ → ℕ → Type 0) where
  -- stores of related samples at the same places
  pub related_stored : (place : ℕ → ℕ) (ss ts : List ℕ) {xs ys : List ℕ} → Related R ss ts → Related R xs ys
      → Related R (stored place ss xs) (stored place ts ys)
  unfolding stored
  related_stored place [] [] p q = q
  related_stored place [] (t ∷ ts) p q = absurd (omega (arith, p.same))
  related_stored place (s ∷ ss) [] p q = absurd (omega (arith, p.same))
  related_stored place (s ∷ ss) (t ∷ ts) p q =
      related_stored (λ (k : ℕ). place (suc k)) ss ts (related_tail R p) (related_set R (place zero) q (related_head R p))
