-- The rows agree with the rule: one test over all keys, those of the table and the two beside it, which is computed.
-- Assumes nothing.
use mathlib.Core.Path.{◌≡◌, refl, sym, ap, ◌∙◌}
use mathlib.Core.Bool.{Bool, true, false, cond}
use mathlib.Core.List.{List, [], ◌∷◌}
use Prim.Native.Nat.{ℕ, ◌+◌}
use lib.Dec.{T, eqb, eqb→eq}
use lib.IntN.{ℤ, pos}
use lib.ListN.{length, get_or}
use Rattle.std.specs.Prelude.{Option, Some, None, Result, Ok, Err}
use Rattle.combine_predictions.specs.Refusals.{answered, unless_refused}
use Rattle.pmv.specs.Refusals.{update_number}
use Rattle.pmv.specs.Update.{decided_refusal, decided_outcome, outcome_number, after}
use Rattle.pmv.specs.inner.Rows.{outcomes, row_for, answers, answer_at, answer_of, has, written, carried_out}
use Rattle.pmv.specs.declared.kinds.PredictionType.{PredictionType}
use Rattle.pmv.specs.declared.kinds.PredictionType.TheVariants.{FieldBased, FrameBased, SixteenByEight, DualPrime}
use Rattle.pmv.specs.declared.predictors.Pmv.{Pmv}
use Rattle.pmv.specs.declared.update.PmvUpdateOutcome.{PmvUpdateOutcome}
use Rattle.pmv.specs.declared.update.PmvUpdateOutcome.TheVariants as O
use Rattle.pmv.specs.declared.update.UpdateRefusal.{UpdateRefusal}
use Rattle.pmv.specs.declared.update.UpdateRefusal.TheVariants as R
use Rattle.pmv.proofs.Lists.{listed_eight}

-- ---- a test that is passed at each flag and at each type, absent or not
abbrev both : Bool → Bool → Bool
both true b = b
both false b = false

left : (a b : Bool) → T (both a b) → T a
left true b t = tt
left false b t = t

right : (a b : Bool) → T (both a b) → T b
right true b t = t
right false b t = absurd t

abbrev flags : (Bool → Bool) → Bool
flags f = both (f false) (f true)

abbrev types : (PredictionType → Bool) → Bool
types f = both (both (f FieldBased) (f FrameBased)) (both (f SixteenByEight) (f DualPrime))

flags_at : (f : Bool → Bool) → T (flags f) → (b : Bool) → T (f b)
flags_at f t false = left (f false) (f true) t
flags_at f t true = right (f false) (f true) t

types_at : (f : PredictionType → Bool) → T (types f) → (p : PredictionType) → T (f p)
types_at f t p = at p
  where
    first : T (both (f FieldBased) (f FrameBased))
    first = left (both (f FieldBased) (f FrameBased)) (both (f SixteenByEight) (f DualPrime)) t

    second : T (both (f SixteenByEight) (f DualPrime))
    second = right (both (f FieldBased) (f FrameBased)) (both (f SixteenByEight) (f DualPrime)) t

    at : (p : PredictionType) → T (f p)
    at FieldBased = left (f FieldBased) (f FrameBased) first
    at FrameBased = right (f FieldBased) (f FrameBased) first
    at SixteenByEight = left (f SixteenByEight) (f DualPrime) second
    at DualPrime = right (f SixteenByEight) (f DualPrime) second

motions : (Option PredictionType → Bool) → Bool
motions f = both (f None) (types (λ t. f (Some t)))

motions_at : (f : Option PredictionType → Bool) → T (motions f) → (m : Option PredictionType) → T (f m)
unfolding motions
motions_at f t None = left (f None) (types (λ t. f (Some t))) t
motions_at f t (Some p) = types_at (λ t. f (Some t)) (right (f None) (types (λ t. f (Some t))) t) p

-- ---- answers as numbers, so that a test can compare them
abbrev Answer : Type 0
Answer = Result PmvUpdateOutcome UpdateRefusal

abbrev code_of : Answer → ℕ
code_of (Ok o) = outcome_number o
code_of (Err r) = 1 + update_number r

code_back : (u : Answer) → answer_at (code_of u) ≡ u
unfolding answers
code_back (Ok O.IntraConcealmentCopyForwardFirst) = refl
code_back (Ok O.IntraResetAll) = refl
code_back (Ok O.NonIntraCopyBoth) = refl
code_back (Ok O.NonIntraCopyForward) = refl
code_back (Ok O.NonIntraCopyBackward) = refl
code_back (Ok O.NonIntraZeroMotionReset) = refl
code_back (Ok O.NoUpdate) = refl
code_back (Ok O.DualPrimeCopyForward) = refl
code_back (Err R.IntraWithMotion) = refl
code_back (Err R.TypeMissing) = refl
code_back (Err R.FrameBasedInField) = refl
code_back (Err R.SixteenByEightInFrame) = refl
code_back (Err R.DualPrimeFlags) = refl
code_back (Err R.NoneRowFlags) = refl

same_code : (a b : Answer) → code_of a ≡ code_of b → a ≡ b
same_code a b e = sym (code_back a) ∙ ap answer_at e ∙ code_back b

-- ---- what an answer does to the predictors
abbrev zeroes : Answer → Bool
zeroes (Ok O.IntraConcealmentCopyForwardFirst) = false
zeroes (Ok O.IntraResetAll) = true
zeroes (Ok O.NonIntraCopyBoth) = false
zeroes (Ok O.NonIntraCopyForward) = false
zeroes (Ok O.NonIntraCopyBackward) = false
zeroes (Ok O.NonIntraZeroMotionReset) = true
zeroes (Ok O.NoUpdate) = false
zeroes (Ok O.DualPrimeCopyForward) = false
zeroes (Err r) = false

abbrev copies_forward : Answer → Bool
copies_forward (Ok O.IntraConcealmentCopyForwardFirst) = true
copies_forward (Ok O.IntraResetAll) = false
copies_forward (Ok O.NonIntraCopyBoth) = true
copies_forward (Ok O.NonIntraCopyForward) = true
copies_forward (Ok O.NonIntraCopyBackward) = false
copies_forward (Ok O.NonIntraZeroMotionReset) = false
copies_forward (Ok O.NoUpdate) = false
copies_forward (Ok O.DualPrimeCopyForward) = true
copies_forward (Err r) = false

abbrev copies_backward : Answer → Bool
copies_backward (Ok O.IntraConcealmentCopyForwardFirst) = false
copies_backward (Ok O.IntraResetAll) = false
copies_backward (Ok O.NonIntraCopyBoth) = true
copies_backward (Ok O.NonIntraCopyForward) = false
copies_backward (Ok O.NonIntraCopyBackward) = true
copies_backward (Ok O.NonIntraZeroMotionReset) = false
copies_backward (Ok O.NoUpdate) = false
copies_backward (Ok O.DualPrimeCopyForward) = false
copies_backward (Err r) = false

-- the eight, as the code writes them
pub eight_written : (z f b : Bool) (l : List ℤ) {x0 x1 x2 x3 x4 x5 x6 x7 : ℤ}
    → x0 ≡ cond z (pos 0) (get_or l 0 (pos 0))
    → x1 ≡ cond z (pos 0) (get_or l 1 (pos 0))
    → x2 ≡ cond z (pos 0) (get_or l 2 (pos 0))
    → x3 ≡ cond z (pos 0) (get_or l 3 (pos 0))
    → x4 ≡ cond z (pos 0) (cond f (get_or l 0 (pos 0)) (get_or l 4 (pos 0)))
    → x5 ≡ cond z (pos 0) (cond f (get_or l 1 (pos 0)) (get_or l 5 (pos 0)))
    → x6 ≡ cond z (pos 0) (cond b (get_or l 2 (pos 0)) (get_or l 6 (pos 0)))
    → x7 ≡ cond z (pos 0) (cond b (get_or l 3 (pos 0)) (get_or l 7 (pos 0)))
    → x0 ∷ x1 ∷ x2 ∷ x3 ∷ x4 ∷ x5 ∷ x6 ∷ x7 ∷ [] ≡ written z f b l
unfolding written
eight_written z f b l p q r s t u w x = rw (p, q, r, s, t, u, w, x)

-- they are those of the definition
eight_after : (o : PmvUpdateOutcome) (x0 x1 x2 x3 x4 x5 x6 x7 : ℤ)
    → let l = x0 ∷ x1 ∷ x2 ∷ x3 ∷ x4 ∷ x5 ∷ x6 ∷ x7 ∷ [] in
    written (zeroes (Ok o)) (copies_forward (Ok o)) (copies_backward (Ok o)) l ≡ (after o (record { values = l })).values
unfolding written
eight_after O.IntraConcealmentCopyForwardFirst x0 x1 x2 x3 x4 x5 x6 x7 = refl
eight_after O.IntraResetAll x0 x1 x2 x3 x4 x5 x6 x7 = refl
eight_after O.NonIntraCopyBoth x0 x1 x2 x3 x4 x5 x6 x7 = refl
eight_after O.NonIntraCopyForward x0 x1 x2 x3 x4 x5 x6 x7 = refl
eight_after O.NonIntraCopyBackward x0 x1 x2 x3 x4 x5 x6 x7 = refl
eight_after O.NonIntraZeroMotionReset x0 x1 x2 x3 x4 x5 x6 x7 = refl
eight_after O.NoUpdate x0 x1 x2 x3 x4 x5 x6 x7 = refl
eight_after O.DualPrimeCopyForward x0 x1 x2 x3 x4 x5 x6 x7 = refl

written_after : (m : Option UpdateRefusal) (o : PmvUpdateOutcome) (l : List ℤ) → length l ≡ 8
    → let u : Answer = answered m o in
    written (zeroes u) (copies_forward u) (copies_backward u) l ≡ (unless_refused m (after o (record { values = l })) (record { values = l })).values
unfolding written
written_after None o l n =
    rw (listed_eight l n)
    at (eight_after o (get_or l 0 (pos 0)) (get_or l 1 (pos 0)) (get_or l 2 (pos 0)) (get_or l 3 (pos 0)) (get_or l 4 (pos 0)) (get_or l 5 (pos 0)) (get_or l 6 (pos 0)) (get_or l 7 (pos 0)))
written_after (Some r) o l n = listed_eight l n

-- ---- the test
same : Bool → Bool → Bool
same true true = true
same true false = false
same false true = false
same false false = true

same_eq : (a b : Bool) → T (same a b) → a ≡ b
unfolding same
same_eq true true t = refl
same_eq true false t = absurd t
same_eq false true t = absurd t
same_eq false false t = refl

abbrev ruled : Bool → Option PredictionType → Bool → Bool → Bool → Bool → Answer
ruled frame m f b i c = answered (decided_refusal frame m f b i) (decided_outcome frame m f b i c)

-- a row stands for the rule's answer, and does what that does
abbrev stands : ℕ → Answer → Bool
stands row u =
    both (eqb (code_of (answer_of row)) (code_of u))
    (both (same (has row 64) (zeroes u)) (both (same (has row 16) (copies_forward u)) (same (has row 32) (copies_backward u))))

right_row : Bool → Option PredictionType → Bool → Bool → Bool → Bool → Bool
right_row frame m f b i c = stands (row_for frame m f b i c) (ruled frame m f b i c)

all_right : T (flags (λ p. motions (λ m. flags (λ f. flags (λ b. flags (λ i. flags (λ c. right_row p m f b i c)))))))
unfolding outcomes row_for answers motions same right_row decided_refusal decided_outcome
all_right = tt

agrees : (p : Bool) (m : Option PredictionType) (f b i c : Bool) → T (stands (row_for p m f b i c) (ruled p m f b i c))
unfolding right_row
agrees p m f b i c =
    flags_at (λ c. right_row p m f b i c)
    (flags_at (λ i. flags (λ c. right_row p m f b i c))
    (flags_at (λ b. flags (λ i. flags (λ c. right_row p m f b i c)))
    (flags_at (λ f. flags (λ b. flags (λ i. flags (λ c. right_row p m f b i c))))
    (motions_at (λ m. flags (λ f. flags (λ b. flags (λ i. flags (λ c. right_row p m f b i c)))))
    (flags_at (λ p. motions (λ m. flags (λ f. flags (λ b. flags (λ i. flags (λ c. right_row p m f b i c)))))) all_right p) m) f) b) i) c

-- ---- what it says of a row
module _ (p : Bool) (m : Option PredictionType) (f b i c : Bool) where
  abbrev row : ℕ
  row = row_for p m f b i c

  abbrev u : Answer
  u = ruled p m f b i c

  abbrev number : Bool
  number = eqb (code_of (answer_of row)) (code_of u)

  abbrev zero_bit : Bool
  zero_bit = same (has row 64) (zeroes u)

  abbrev forward_bit : Bool
  forward_bit = same (has row 16) (copies_forward u)

  abbrev backward_bit : Bool
  backward_bit = same (has row 32) (copies_backward u)

  pub answer_right : answer_of row ≡ u
  answer_right =
      same_code (answer_of row) u
      (eqb→eq (code_of (answer_of row)) (code_of u) (left number (both zero_bit (both forward_bit backward_bit)) (agrees p m f b i c)))

  pub does : (pmv : Pmv) → length pmv.values ≡ 8
      → carried_out row pmv ≡ unless_refused (decided_refusal p m f b i) (after (decided_outcome p m f b i c) pmv) pmv
  does pmv n =
      let bits = right number (both zero_bit (both forward_bit backward_bit)) (agrees p m f b i c) in
      let copies = right zero_bit (both forward_bit backward_bit) bits in
      let z = same_eq (has row 64) (zeroes u) (left zero_bit (both forward_bit backward_bit) bits) in
      let x = same_eq (has row 16) (copies_forward u) (left forward_bit backward_bit copies) in
      let y = same_eq (has row 32) (copies_backward u) (right forward_bit backward_bit copies) in
      rw (z, x, y)
      (ap (λ (l : List ℤ). record { values = l })
      (written_after (decided_refusal p m f b i) (decided_outcome p m f b i c) pmv.values n))
