-- Laws of decimal numbers.
-- Assumes nothing.
use mathlib.Core.Path.{◌≡◌}
use mathlib.Core.List.{List}
use Prim.Native.Nat.{ℕ, ◌+◌, ◌*◌, ◌^◌, ◌≤◌, ◌<◌}
use native.Mathlib.Nat.{pow-suc, pow-le-pow_right}
use native.Mathlib.Numerals.{add-one}
use native.Mathlib.Omega.{arith}
use lib.ListN.{length, get_or, drop, drop_of_length-le}
use lib.Seq.{drop-cons}
use Rattle.lists.specs.Numbers.{digit_of, decimal}

-- one digit more
pub decimal_more : (v : ℕ) (w : List ℕ) (i : ℕ)
    → i < length w → decimal v (drop i w) ≡ decimal (v * 10 + digit_of (get_or w i 0)) (drop (i + 1) w)
unfolding decimal
decimal_more v w i h = rw (add-one i, drop-cons w i 0 h)

pub decimal_end : (v : ℕ) (w : List ℕ) (i : ℕ) → length w ≤ i → decimal v (drop i w) ≡ v
unfolding decimal
decimal_end v w i h = rw (drop_of_length-le w h)

-- a number of i digits stays below 10 to the power i, and with one digit more it fits as long as there are at most 18
pub below_more : (v d i : ℕ) → v < 10 ^ i → d ≤ 9 → v * 10 + d < 10 ^ (i + 1)
below_more v d i h k = rw (add-one i, pow-suc 10 i) (omega arith)

pub below_18 : (v i : ℕ) → v < 10 ^ i → i ≤ 18 → v < 10 ^ 18
below_18 v i h k = omega (arith, pow-le-pow_right {n = 10} (omega arith) k)
