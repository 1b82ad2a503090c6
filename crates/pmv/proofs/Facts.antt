-- What the definition of a component comes to, for every f: for its reader, and for the crates above.
-- Assumes nothing.
use mathlib.Core.Path.{◌≡◌, refl}
use mathlib.Core.Bool.{Bool, true, false, not, cond}
use Prim.Native.Nat.{ℕ, ◌+◌, ◌*◌, ◌≤◌, ◌<◌}
use native.Mathlib.Omega.{arith}
use lib.IntN.{ℤ, pos, neg_ℤ, ◌+ℤ◌, ◌-ℤ◌, ◌*ℤ◌}
use lib.Signed.{lt_z, le_z}
use Rattle.laws.proofs.Signed.{zp, zn, add_z, sub_z, neg_p, neg_n, mul_p, mul_n, lt_yes, lt_no, le_yes, yes_le}
use Rattle.laws.proofs.Tests.{both}
use Rattle.combine_predictions.specs.Refusals.{cause, or_else}
use Rattle.forming_predictions.proofs.Refusals.{none_first, none_second, no_cause}
use Rattle.std.specs.Prelude.{Some, None}
use Rattle.pmv.specs.declared.component.VectorRefusal.TheVariants.{DeltaOutside, VectorOutside}
use Rattle.pmv.specs.Component.{range_of, in_range, prediction, lowered, wrapped, vector_of, new_predictor, from_delta, from_delta_refusal}

module _ (f : ℕ) where
  -- -16f ≤ v ≤ 16f - 1
  pub record InRange (v : ℤ) : Type 0 where
    pub above : zn v ≤ 16 * f + zp v
    pub below : zp v < 16 * f + zn v

  -- the same of -48f and 48f - 1
  pub record InReach (s : ℤ) : Type 0 where
    pub above : zn s ≤ 48 * f + zp s
    pub below : zp s < 48 * f + zn s

  -- v is s, or s and range, once, where s is outside
  pub data IsWrapped (s v : ℤ) : Type 0 where
    as_it_is : InRange s → v ≡ s → IsWrapped s v
    once_up : zp s + 16 * f < zn s → v ≡ s +ℤ pos (32 * f) → IsWrapped s v
    once_down : 16 * f + zn s ≤ zp s → v ≡ s -ℤ pos (32 * f) → IsWrapped s v

  pub in_range_lem : (v : ℤ) → in_range (range_of f) v ≡ true → InRange v
  unfolding range_of
  in_range_lem v e =
      let n = pos (16 * f) in
      let t = both (le_z (neg_ℤ n) v) (le_z v (n -ℤ pos 1)) e in
      let a = le_yes (neg_ℤ n) v t.0 in
      let b = le_yes v (n -ℤ pos 1) t.1 in
      record { above = omega (arith, neg_p n, neg_n n); below = omega (arith, sub_z n (pos 1)) }

  pub range_in : (v : ℤ) → InRange v → in_range (range_of f) v ≡ true
  unfolding range_of
  range_in v r =
      let n = pos (16 * f) in
      let a = yes_le (neg_ℤ n) v (omega (arith, neg_p n, neg_n n, r.above)) in
      let b = yes_le v (n -ℤ pos 1) (omega (arith, sub_z n (pos 1), r.below)) in
      rw (a, b)

  -- the wrap adds -1, 0 or 1 times range
  pub wrapped_is : (s : ℤ) → IsWrapped s (wrapped (range_of f) s)
  unfolding range_of wrapped
  wrapped_is s = low_test (lt_z s (neg_ℤ (pos (16 * f)))) refl
    where
      up_test : (t : Bool) → lt_z s (neg_ℤ (pos (16 * f))) ≡ true → lt_z (pos (16 * f) -ℤ pos 1) (s +ℤ pos (32 * f)) ≡ t
          → IsWrapped s (cond t (s +ℤ pos (32 * f) -ℤ pos (32 * f)) (s +ℤ pos (32 * f)))
      up_test true e h =
          let n = pos (16 * f) in
          let a = lt_yes s (neg_ℤ n) e in
          let b = lt_yes (n -ℤ pos 1) (s +ℤ pos (32 * f)) h in
          absurd (omega (arith, neg_p n, neg_n n, sub_z n (pos 1), add_z s (pos (32 * f))))
      up_test false e h =
          let n = pos (16 * f) in once_up (omega (arith, lt_yes s (neg_ℤ n) e, neg_p n, neg_n n)) refl

      down_test : (t : Bool) → lt_z s (neg_ℤ (pos (16 * f))) ≡ false → lt_z (pos (16 * f) -ℤ pos 1) s ≡ t
          → IsWrapped s (cond t (s -ℤ pos (32 * f)) s)
      down_test true e h =
          let n = pos (16 * f) in once_down (omega (arith, lt_yes (n -ℤ pos 1) s h, sub_z n (pos 1))) refl
      down_test false e h =
          let n = pos (16 * f) in
          let a = lt_no s (neg_ℤ n) e in
          let b = lt_no (n -ℤ pos 1) s h in
          as_it_is (record { above = omega (arith, neg_p n, neg_n n); below = omega (arith, sub_z n (pos 1)) }) refl

      low_test : (t : Bool) → lt_z s (neg_ℤ (pos (16 * f))) ≡ t → IsWrapped s (lowered (range_of f) (cond t (s +ℤ pos (32 * f)) s))
      low_test true e = up_test (lt_z (pos (16 * f) -ℤ pos 1) (s +ℤ pos (32 * f))) e refl
      low_test false e = down_test (lt_z (pos (16 * f) -ℤ pos 1) s) e refl

  -- in range after the wrap exactly where it was in reach
  pub reach_range : (s v : ℤ) → IsWrapped s v → InReach s → InRange v
  reach_range s v (as_it_is r e) h = rw e r
  reach_range s v (once_up l e) h =
      let a = add_z s (pos (32 * f)) in rw e (record { above = omega (arith, h.above); below = omega (arith, h.below) })
  reach_range s v (once_down l e) h =
      let a = sub_z s (pos (32 * f)) in rw e (record { above = omega (arith, h.above); below = omega (arith, h.below) })

  pub range_reach : (s v : ℤ) → IsWrapped s v → InRange v → InReach s
  range_reach s v (as_it_is r e) h = record { above = omega (arith, r.above); below = omega (arith, r.below) }
  range_reach s v (once_up l e) h =
      let a = add_z s (pos (32 * f)) in
      let k : InRange (s +ℤ pos (32 * f)) = rw (← e) h in
      record { above = omega (arith, k.above); below = omega (arith, k.below) }
  range_reach s v (once_down l e) h =
      let a = sub_z s (pos (32 * f)) in
      let k : InRange (s -ℤ pos (32 * f)) = rw (← e) h in
      record { above = omega (arith, k.above); below = omega (arith, k.below) }

  doubled : (t : Bool) (v : ℤ) → InRange v
      → (zn (new_predictor t v) ≤ 32 * f + zp (new_predictor t v)) × (zp (new_predictor t v) < 32 * f + zn (new_predictor t v))
  doubled true v r = let a = mul_p v 2 in let b = mul_n v 2 in (omega (arith, r.above), omega (arith, r.below))
  doubled false v r = (omega (arith, r.above), omega (arith, r.below))

  -- ---- a component from its delta, where the prior is p, halved or not
  module _ (h : Bool) (p d : ℤ) where
    -- what an accepted one is: delta and vector in range, and the vector is the prediction and delta but for a multiple of range
    pub record Accepted : Type 0 where
      pub delta : InRange d
      pub vector : InRange (vector_of (range_of f) h p d)
      pub wrap : IsWrapped (prediction h p +ℤ d) (vector_of (range_of f) h p d)

    pub accepted_is : from_delta_refusal (range_of f) h p d ≡ None → Accepted
    unfolding from_delta_refusal
    accepted_is e =
        let c5 = cause (not (in_range (range_of f) d)) DeltaOutside in
        let c6 = cause (not (in_range (range_of f) (vector_of (range_of f) h p d))) VectorOutside in
        record {
          delta = in_range_lem d (no_cause (in_range (range_of f) d) DeltaOutside (none_first c5 c6 e));
          vector = in_range_lem _ (no_cause (in_range (range_of f) (vector_of (range_of f) h p d)) VectorOutside (none_second c5 c6 e));
          wrap = wrapped_is (prediction h p +ℤ d);
        }

    -- 6 is given exactly where the prediction and delta are outside -48f .. 48f - 1 and 5 is not
    pub six_if : in_range (range_of f) d ≡ true → (InReach (prediction h p +ℤ d) → ⊥) → from_delta_refusal (range_of f) h p d ≡ Some VectorOutside
    unfolding from_delta_refusal
    six_if e g = rw (e, at (in_range (range_of f) (vector_of (range_of f) h p d)) refl)
      where
        at : (t : Bool) → in_range (range_of f) (vector_of (range_of f) h p d) ≡ t → in_range (range_of f) (vector_of (range_of f) h p d) ≡ false
        at true q = absurd (g (range_reach _ _ (wrapped_is (prediction h p +ℤ d)) (in_range_lem _ q)))
        at false q = q

    pub six_only : from_delta_refusal (range_of f) h p d ≡ Some VectorOutside → InReach (prediction h p +ℤ d) → ⊥
    unfolding from_delta_refusal
    six_only e r =
        let v = range_in _ (reach_range _ _ (wrapped_is (prediction h p +ℤ d)) r) in
        at (in_range (range_of f) d) (rw v at e)
      where
        at : (t : Bool) → or_else (cause (not t) DeltaOutside) None ≡ Some VectorOutside → ⊥
        at true q = cc
        at false q = cc

    -- the Rust's last test, 2 * low ≤ new predictor ≤ 2 * high + 1, never fails, and is left out
    pub last_test : from_delta_refusal (range_of f) h p d ≡ None
        → (le_z ((range_of f).low *ℤ pos 2) (from_delta (range_of f) h p d).new_pmv ≡ true)
        × (le_z (from_delta (range_of f) h p d).new_pmv ((range_of f).high *ℤ pos 2 +ℤ pos 1) ≡ true)
    unfolding range_of from_delta
    last_test e = at h (accepted_is e).vector
      where
        at : {v : ℤ} (t : Bool) → InRange v
            → (le_z (neg_ℤ (pos (16 * f)) *ℤ pos 2) (new_predictor t v) ≡ true)
            × (le_z (new_predictor t v) ((pos (16 * f) -ℤ pos 1) *ℤ pos 2 +ℤ pos 1) ≡ true)
        at {v} t r =
            let n = pos (16 * f) in
            let m = n -ℤ pos 1 in
            let a = mul_p (neg_ℤ n) 2 in
            let b = mul_n (neg_ℤ n) 2 in
            let k = mul_p m 2 in
            let l = mul_n m 2 in
            let j = add_z (m *ℤ pos 2) (pos 1) in
            let q = doubled t v r in (
              yes_le (neg_ℤ n *ℤ pos 2) (new_predictor t v) (omega (arith, neg_p n, neg_n n, q.0)),
              yes_le (new_predictor t v) (m *ℤ pos 2 +ℤ pos 1) (omega (arith, sub_z n (pos 1), q.1)),
            )
