-- The drift figure, for every list of steps.
-- Assumes nothing.
use mathlib.Core.Path.{◌≡◌, refl, sym, subst}
use mathlib.Core.Bool.{Bool, true, false, ◌||◌, cond}
use mathlib.Core.List.{List, [], ◌∷◌, map}
use Rattle.std.specs.Prelude.{Option, Some, None}
use Prim.Native.Nat.{ℕ, zero, suc, ◌*◌, ◌-◌, ◌^◌, ◌≤◌}
use native.Mathlib.Nat.{mul-zero}
use native.Mathlib.Omega.{arith}
use lib.Dec.{T, eqb, eqb→eq}
use lib.IntN.{ℤ}
use lib.ListN.{get_or, length-map}
use Rattle.laws.specs.All.{All}
use Rattle.laws.proofs.Related.{Related, related_map}
use Rattle.combine_predictions.specs.Refusals.{unless_refused}
use Rattle.forming_predictions.specs.Lines.{Lines, place_of, sample_at}
use Rattle.forming_predictions.specs.Means.{rounded}
use Rattle.inter_reconstruction.specs.Components.{ColourComponent}
use Rattle.inter_reconstruction.specs.Frames.{plane_of, read_reference}
use Rattle.inter_reconstruction.specs.declared.frames.FrameGeometry.{FrameGeometry}
use Rattle.drift.specs.Steps.{Step, step_uses, Pictures, replaced, fitting, reference, reference_samples, prediction, placement, after_step, after_steps}
use Rattle.drift.specs.Unrounded.{unrounded, table_refusal, unrounded_reading, unrounded_prediction, unrounded_placement, after_unrounded, after_unrounded_steps, in_units}
use Rattle.drift.specs.Drift.{Fitting, Lower, InRange, DriftFigure}
use Rattle.drift.proofs.Keeps.{Alike, predicted_alike, placed_alike}
use Rattle.drift.proofs.Bounds.{Drifted, drifted_near, Read, Direction, Predicted, keeps, lift, land, read_zero, predicted_zero, drifted_first, drifted_zero}
use Rattle.drift.proofs.Steps.{step_is, step_fits}

-- pictures 0 to k, by the calls and unrounded
abbrev Beside : ℕ → Pictures → Pictures → Type 0
Beside k st xt = (n : ℕ) (c : ColourComponent) → n ≤ k → Related (Drifted n) (st n c) (xt n c)

module _ (g : FrameGeometry) (k : ℕ) (st xt : Pictures) (p : Beside k st xt) where
  -- one sample of a reference: of a plane without samples both read 0
  read_at : (m j : ℕ) → j ≤ m → j ≤ k → (c : ColourComponent) (l : Lines) (x y : ℤ) (b : Bool)
      → (let i = place_of l (plane_of (fitting g) c).width (plane_of (fitting g) c).height x y in
      Read (8 ^ m) m (cond b 0 (get_or (st j c) i 0)) (8 ^ (m - j) * cond b 0 (get_or (xt j c) i 0)))
  read_at m j h t c l x y true = rw (mul-zero (8 ^ (m - j))) (read_zero (8 ^ m) m)
  read_at m j h t c l x y false =
      let i = place_of l (plane_of (fitting g) c).width (plane_of (fitting g) c).height x y in
      lift m j (get_or (st j c) i 0) (get_or (xt j c) i 0) h ((p j c t).at i)

  source : (n : ℕ) → n ≤ k → (r : Option ℕ) → Lower n r → (c : ColourComponent)
      → Alike (Read (8 ^ (n - 1)) (n - 1)) (read_reference (reference g r) (reference_samples st r) c) (unrounded_reading g n xt r c)
  unfolding sample_at
  source n h None t c l x y = read_zero (8 ^ (n - 1)) (n - 1)
  source n h (Some j) t c l x y =
      read_at (n - 1) j (omega (arith, t)) (omega (arith, t)) c l x y (eqb (plane_of (fitting g) c).width 0 || eqb (plane_of (fitting g) c).height 0)

  module _ (s : Step) (r : InRange k s) where
    new_near : (c : ColourComponent) → Related (Drifted s.target) (placement g s st c) (unrounded_placement g s xt c)
    unfolding placement unrounded_placement prediction unrounded_prediction
    new_near c =
        let n : ℕ = s.target in
        let P : ℕ = 8 ^ (n - 1) in
        placed_alike (Drifted n) (drifted_zero n) (fitting g) s.column s.row (st n) (xt n) c
        (related_map (Predicted P (n - 1)) (Drifted n) (λ a b. land n a b r.first)
        (predicted_alike rounded unrounded (Read P (n - 1)) (Direction P (n - 1)) (Predicted P (n - 1)) (keeps P (n - 1)) (predicted_zero P (n - 1)) g.chroma_format
        (read_reference (reference g s.forward) (reference_samples st s.forward)) (unrounded_reading g n xt s.forward)
        (read_reference (reference g s.backward) (reference_samples st s.backward)) (unrounded_reading g n xt s.backward)
        (source n r.last s.forward r.forward) (source n r.last s.backward r.backward) (step_uses s) s.column s.row))
        (p n c r.last)

    near_at : (b : Bool) (m : ℕ) → (T b → m ≡ s.target) → (c : ColourComponent) → m ≤ k
        → Related (Drifted m) (cond b (placement g s st) (st m) c) (cond b (unrounded_placement g s xt) (xt m) c)
    near_at true m e c h = subst (λ (x : ℕ). Related (Drifted x) (placement g s st c) (unrounded_placement g s xt c)) (sym (e tt)) (new_near c)
    near_at false m e c h = p m c h

    by_table : (t : Option ℕ)
        → Beside k (unless_refused t (replaced st s.target (placement g s st)) st) (unless_refused t (replaced xt s.target (unrounded_placement g s xt)) xt)
    by_table None m c h = near_at (eqb m s.target) m (eqb→eq m s.target) c h
    by_table (Some t) m c h = p m c h

step-near : (g : FrameGeometry) (k : ℕ) (st xt : Pictures) → Fitting g k st → Beside k st xt → (s : Step) → InRange k s
    → Beside k (after_step g s st) (after_unrounded g s xt)
step-near g k st xt f p s r =
    subst (λ (x : Pictures). Beside k x (after_unrounded g s xt)) (sym (step_is g k st f s r)) (by_table g k st xt p s r (table_refusal g s))

run_near : (g : FrameGeometry) (k : ℕ) (steps : List Step) → All (InRange k) steps → (st xt : Pictures) → Fitting g k st → Beside k st xt
    → Beside k (after_steps g steps st) (after_unrounded_steps g steps xt)
run_near g k [] e st xt f p = p
run_near g k (s ∷ ss) e st xt f p =
    run_near g k ss e.1 (after_step g s st) (after_unrounded g s xt) (step_fits g k st f s e.0) (step-near g k st xt f p s e.0)

units_at : (n : ℕ) (l : List ℕ) (i : ℕ) → get_or (map (λ (b : ℕ). 8 ^ n * b) l) i 0 ≡ 8 ^ n * get_or l i 0
units_at n [] i = sym (mul-zero (8 ^ n))
units_at n (x ∷ l) zero = refl
units_at n (x ∷ l) (suc i) = units_at n l i

first_near : (k : ℕ) (first : Pictures) → Beside k first (in_units first)
first_near k first n c h =
    record {
      same = sym (length-map (first n c) _);
      at = λ i. subst (λ (u : ℕ). Drifted n (get_or (first n c) i 0) u) (sym (units_at n (first n c) i)) (drifted_first n (get_or (first n c) i 0));
    }

-- demand 3
pub drift : DriftFigure
drift n g k first f steps e h c i =
    drifted_near n _ _ ((run_near g k steps e first (in_units first) f (first_near k first) n c h).at i)
