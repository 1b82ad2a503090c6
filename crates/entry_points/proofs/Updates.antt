-- What an update leaves in its buffers, and the lengths of the buffers of the C entry points for vectors and updates.
-- Assumes nothing.
use mathlib.Core.Path.{◌≡◌, refl, sym, ◌∙◌}
use mathlib.Core.Bool.{true, false, ◌&&◌}
use mathlib.Core.List.{List, [], ◌∷◌}
use Prim.Native.Nat.{ℕ, ◌<◌}
use native.Mathlib.Omega.{arith}
use lib.Dec.{eqb}
use lib.ListN.{length, get_or, set}
use borrow.Author.Tests.{eqb-true}
use Rattle.std.proofs.lemmas.Bool.{false_from_ne_true}
use Rattle.laws.proofs.Tests.{both}
use Rattle.std.specs.Prelude.{◌≢◌, Option, Some, None, Result, is_some}
use Rattle.std.specs.Result.{result_err}
use Rattle.combine_predictions.specs.Refusals.{refusal_number, answered, unless_refused}
use Rattle.pmv.specs.Refusals.{update_number}
use Rattle.pmv.specs.Update.{update_refusal, update_outcome, outcome_number, after, updated}
use Rattle.pmv.specs.Kinds.{flag_from, index_from, direction_from, format_from, structure_from, type_from}
use Rattle.entry_points.specs.Layout.{predictors_of, predictor_bytes}
use Rattle.entry_points.specs.Entries.{presence_known, vector_known, update_known, unless_number}
use Rattle.entry_points.specs.inner.Outcomes.{outcome_byte}
use Rattle.entry_points.proofs.ReadBack.{bytes_read_back}
use Rattle.pmv.specs.declared.predictors.Pmv.{Pmv}
use Rattle.pmv.specs.declared.update.PmvUpdateContext.{PmvUpdateContext}
use Rattle.pmv.specs.declared.update.PredictorUpdate.{PredictorUpdate}
use Rattle.pmv.specs.declared.update.PmvUpdateOutcome.{PmvUpdateOutcome}
use Rattle.pmv.specs.declared.update.UpdateRefusal.{UpdateRefusal}
use Rattle.pmv.specs.declared.update.UpdateRefusal.TheVariants as R

one_set : (l : List ℕ) (k : ℕ) → length l ≡ 1 → set l 0 k ≡ k ∷ []
one_set [] k e = absurd (omega arith)
one_set (x ∷ []) k e = refl
one_set (x ∷ y ∷ l) k e = absurd (omega arith)

one_same : (l : List ℕ) → length l ≡ 1 → set l 0 (get_or l 0 0) ≡ l
one_same [] e = absurd (omega arith)
one_same (x ∷ []) e = refl
one_same (x ∷ y ∷ l) e = absurd (omega arith)

-- no refusal has number 0
kept : {A : Type 0} (r : UpdateRefusal) (q p : A) → unless_number (update_number r) q p ≡ p
kept R.IntraWithMotion q p = refl
kept R.TypeMissing q p = refl
kept R.FrameBasedInField q p = refl
kept R.SixteenByEightInFrame q p = refl
kept R.DualPrimeFlags q p = refl
kept R.NoneRowFlags q p = refl

-- An update's answer and predictors give the number of the refusal and both buffers, which are written either way: a refusal writes what
-- they hold.
module _ (x : PmvUpdateContext) (p o : List ℕ) (np : length p ≡ 32) (bp : (i : ℕ) → get_or p i 0 < 256) (no : length o ≡ 1) where
  abbrev Left : Option UpdateRefusal → Result PmvUpdateOutcome UpdateRefusal → Pmv → Type 0
  Left m a q =
      (result_err a ≡ m)
      × ((predictor_bytes q ≡ unless_number (refusal_number update_number m) (predictor_bytes q) p)
      × (set o 0 (outcome_byte a (get_or o 0 0)) ≡ unless_number (refusal_number update_number m) (outcome_number (update_outcome x) ∷ []) o))

  at : (m : Option UpdateRefusal) → Left m (answered m (update_outcome x)) (unless_refused m (after (update_outcome x) (predictors_of p)) (predictors_of p))
  at None = (refl, (refl, one_set o (outcome_number (update_outcome x)) no))
  at (Some r) = (refl, (bytes_read_back p np bp ∙ sym (kept r _ p), one_same o no ∙ sym (kept r _ o)))

  pub updated_left : (u : PredictorUpdate) → u ≡ updated (predictors_of p) x → Left (update_refusal x) u.answer u.pmv
  unfolding updated
  updated_left u e = rw e (at (update_refusal x))

-- ---- the lengths of the buffers, where all is known
pub vector_lengths : (r s h v f t p n : ℕ) → vector_known r s h v f t p n ≡ true → (p ≡ 32) × (n ≡ 8)
unfolding vector_known
vector_lengths r s h v f t p n e =
    let a = both (is_some (index_from r) && (is_some (direction_from s) && (is_some (flag_from h) && is_some (flag_from v)))) ((is_some (format_from f) && is_some (structure_from t)) && (eqb p 32 && eqb n 8)) e in
    let b = both (is_some (format_from f) && is_some (structure_from t)) (eqb p 32 && eqb n 8) a.1 in
    let c = both (eqb p 32) (eqb n 8) b.1 in
    (eqb-true p 32 c.0, eqb-true n 8 c.1)

pub unless_predictors : (r s h v f t p n : ℕ) → p ≢ 32 → vector_known r s h v f t p n ≡ false
unless_predictors r s h v f t p n ne = false_from_ne_true _ (λ e. ne (vector_lengths r s h v f t p n e).0)

pub unless_components : (r s h v f t p n : ℕ) → n ≢ 8 → vector_known r s h v f t p n ≡ false
unless_components r s h v f t p n ne = false_from_ne_true _ (λ e. ne (vector_lengths r s h v f t p n e).1)

pub update_lengths : (t y k f b i c p n : ℕ) → update_known t y k f b i c p n ≡ true → (p ≡ 32) × (n ≡ 1)
unfolding update_known
update_lengths t y k f b i c p n e =
    let flags = (is_some (flag_from f) && is_some (flag_from b)) && (is_some (flag_from i) && is_some (flag_from c)) in
    let g = both (is_some (structure_from t) && presence_known y (is_some (type_from k))) (flags && (eqb p 32 && eqb n 1)) e in
    let h = both flags (eqb p 32 && eqb n 1) g.1 in
    let l = both (eqb p 32) (eqb n 1) h.1 in
    (eqb-true p 32 l.0, eqb-true n 1 l.1)

pub unless_updated : (t y k f b i c p n : ℕ) → p ≢ 32 → update_known t y k f b i c p n ≡ false
unless_updated t y k f b i c p n ne = false_from_ne_true _ (λ e. ne (update_lengths t y k f b i c p n e).0)

pub unless_outcome : (t y k f b i c p n : ℕ) → n ≢ 1 → update_known t y k f b i c p n ≡ false
unless_outcome t y k f b i c p n ne = false_from_ne_true _ (λ e. ne (update_lengths t y k f b i c p n e).1)
