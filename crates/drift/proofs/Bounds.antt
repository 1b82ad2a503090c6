-- The arithmetic of the drift figure. P is 8 to the power m, for picture m + 1: reads stand at the scale P, a direction's sample at 4 P, a predicted one
-- at 8 P.
-- Assumes nothing.
use mathlib.Core.Path.{◌≡◌, sym, ap, ◌∙◌, subst}
use Prim.Native.Nat.{ℕ, suc, ◌+◌, ◌*◌, ◌-◌, ◌^◌, ◌≤◌}
use native.Mathlib.Nat.{mul-add, mul_assoc, mul_comm, mul-le-mul_left, mul-le-mul_right, mul-one, mul_left_comm, pow-succ', mul-zero, suc-mul}
use native.Mathlib.Omega.{arith}
use lib.Pow.{pow-add}
use Rattle.combine_predictions.specs.Averaging.{mean2}
use Rattle.forming_predictions.specs.Means.{mean4, rounded}
use Rattle.drift.specs.Unrounded.{unrounded}
use Rattle.drift.specs.Drift.{Near}
use Rattle.drift.proofs.Keeps.{Keeps}

-- a sample of picture n: at most n above, n / 4 below
pub record Drifted (n s u : ℕ) : Type 0 where
  pub above : 8 ^ n * s ≤ u + n * 8 ^ n
  pub below : 4 * u ≤ 4 * (8 ^ n * s) + n * 8 ^ n

pub drifted_near : (n s u : ℕ) → Drifted n s u → Near n (4 * n) n s u
drifted_near n s u d = record { high = omega (arith, d.above, mul_assoc 4 n (8 ^ n)); low = d.below }

module _ (P m : ℕ) where
  -- m grey steps above, m / 4 below
  pub record Read (s u : ℕ) : Type 0 where
    pub above : P * s ≤ u + m * P
    pub below : 4 * u ≤ 4 * (P * s) + m * P

  -- m + 1/2 above, m / 4 + 1/4 below, u at four times the scale
  pub record Direction (s u : ℕ) : Type 0 where
    pub above : 4 * (P * s) ≤ u + 4 * (m * P) + 2 * P
    pub below : u ≤ 4 * (P * s) + m * P + P

  -- m + 1 above, (m + 1) / 4 below, u at eight times the scale
  pub record Predicted (s u : ℕ) : Type 0 where
    pub above : 8 * (P * s) ≤ u + 8 * (m * P) + 8 * P
    pub below : 4 * u ≤ 32 * (P * s) + 8 * (m * P) + 8 * P

  -- what is linear, times P
  times2 : (a b c : ℕ) → 2 * c ≤ a + b + 1 → 2 * (P * c) ≤ P * a + P * b + P
  times2 a b c h = omega (arith, mul-le-mul_left P h, mul_left_comm 2 P c, mul-add P (a + b) 1, mul-add P a b, mul-one P)

  times2' : (a b c : ℕ) → a + b ≤ 2 * c → P * a + P * b ≤ 2 * (P * c)
  times2' a b c h = omega (arith, mul-le-mul_left P h, mul_left_comm 2 P c, mul-add P a b)

  times4 : (a b c d e : ℕ) → 4 * e ≤ a + b + c + d + 2 → 4 * (P * e) ≤ P * a + P * b + P * c + P * d + 2 * P
  times4 a b c d e h =
      omega
      (arith, mul-le-mul_left P h, mul_left_comm 4 P e, mul-add P (a + b + c + d) 2, mul-add P (a + b + c) d, mul-add P (a + b) c, mul-add P a b, mul_comm P 2)

  times4' : (a b c d e : ℕ) → a + b + c + d ≤ 4 * e + 1 → P * a + P * b + P * c + P * d ≤ 4 * (P * e) + P
  times4' a b c d e h =
      omega
      (arith, mul-le-mul_left P h, mul_left_comm 4 P e, mul-add P (4 * e) 1, mul-one P, mul-add P (a + b + c) d, mul-add P (a + b) c, mul-add P a b)

  -- the rounded means beside the exact ones
  pub keeps : Keeps rounded unrounded Read Direction Predicted
  keeps =
      record {
        one = λ {x} {y} h. record { above = omega (arith, h.above); below = omega (arith, h.below) };
        two =
            λ {x} {y} {x'} {y'} h k.
            record {
              above = omega (arith, times2 x x' (mean2 x x') (omega arith), h.above, k.above);
              below = omega (arith, times2' x x' (mean2 x x') (omega arith), h.below, k.below);
            };
        four =
            λ {x} {y} {x'} {y'} {x''} {y''} {x'''} {y'''} h k l n.
            record {
              above = omega (arith, times4 x x' x'' x''' (mean4 x x' x'' x''') (omega arith), h.above, k.above, l.above, n.above);
              below = omega (arith, times4' x x' x'' x''' (mean4 x x' x'' x''') (omega arith), h.below, k.below, l.below, n.below);
            };
        single = λ {x} {y} h. record { above = omega (arith, h.above); below = omega (arith, h.below) };
        join =
            λ {x} {y} {x'} {y'} h k.
            record {
              above = omega (arith, times2 x x' (mean2 x x') (omega arith), h.above, k.above);
              below = omega (arith, times2' x x' (mean2 x x') (omega arith), h.below, k.below);
            };
      }

pub read_zero : (P m : ℕ) → Read P m 0 0
read_zero P m = record { above = omega (arith, mul-zero P); below = omega arith }

pub predicted_zero : (P m : ℕ) → Predicted P m 0 0
predicted_zero P m = record { above = omega (arith, mul-zero P); below = omega arith }

pub drifted_zero : (n : ℕ) → Drifted n 0 0
drifted_zero n = record { above = omega (arith, mul-zero (8 ^ n)); below = omega arith }

-- a picture at first
pub drifted_first : (n s : ℕ) → Drifted n s (8 ^ n * s)
drifted_first n s = record { above = omega arith; below = omega arith }

-- picture j's sample, times 8 to the power m - j, is a read at the scale of picture m + 1
pub lift : (m j s u : ℕ) → j ≤ m → Drifted j s u → Read (8 ^ m) m s (8 ^ (m - j) * u)
lift m j s u h n =
    let K : ℕ = 8 ^ (m - j) in
    let e : K * 8 ^ j ≡ 8 ^ m = sym (pow-add 8 (m - j) j) ∙ ap (λ (x : ℕ). 8 ^ x) (omega arith) in
    let d : K * (8 ^ j * s) ≡ 8 ^ m * s = sym (mul_assoc K (8 ^ j) s) ∙ ap (λ (x : ℕ). x * s) e in
    let c : K * (j * 8 ^ j) ≡ j * 8 ^ m = mul_left_comm K j (8 ^ j) ∙ ap (λ (x : ℕ). j * x) e in
    let g : j * 8 ^ m ≤ m * 8 ^ m = mul-le-mul_right (8 ^ m) h in
    record {
      above = omega (arith, mul-le-mul_left K n.above, mul-add K u (j * 8 ^ j), d, c, g);
      below =
          omega
          (arith, mul-le-mul_left K n.below, mul_left_comm K 4 u, mul-add K (4 * (8 ^ j * s)) (j * 8 ^ j), mul_left_comm K 4 (8 ^ j * s), d, c, g);
    }

land_suc : (m s u : ℕ) → Predicted (8 ^ m) m s u → Drifted (suc m) s u
land_suc m s u p =
    let e : 8 ^ suc m ≡ 8 * 8 ^ m = pow-succ' 8 m in
    let a : 8 ^ suc m * s ≡ 8 * (8 ^ m * s) = ap (λ (x : ℕ). x * s) e ∙ mul_assoc 8 (8 ^ m) s in
    let b : suc m * 8 ^ suc m ≡ 8 * (m * 8 ^ m) + 8 * 8 ^ m =
    ap (λ (x : ℕ). suc m * x) e ∙ mul_left_comm (suc m) 8 (8 ^ m) ∙ omega (arith, suc-mul m (8 ^ m)) in
    record { above = omega (arith, a, b, p.above); below = omega (arith, a, b, p.below) }

-- what is predicted for picture n
pub land : (n s u : ℕ) → 1 ≤ n → Predicted (8 ^ (n - 1)) (n - 1) s u → Drifted n s u
land n s u h p = subst (λ (x : ℕ). Drifted x s u) (omega arith) (land_suc (n - 1) s u p)
