-- ISO/IEC 13818-2, 7.6.7.1 and 7.6.7.2: the mean of the forward and the backward prediction, of frames and of fields alike.
-- The scope (docs/SCOPE.md): refusal 19, then 18, by the three lengths. The standard refuses nothing.
use Rattle.std.specs.Prelude.{not, List, ℕ, ◌+◌, eqb, length, get_or, Option, Result}
use Rattle.laws.specs.Tabulate.{tabulate}
use Rattle.combine_predictions.specs.Rounding.{◌//◌}
use Rattle.combine_predictions.specs.Refusals.{cause, or_else, answered}
use Rattle.combine_predictions.specs.declared.AveragingRefusal.{AveragingRefusal}
use Rattle.combine_predictions.specs.declared.AveragingRefusal.TheVariants.{WrongLength, LengthsDiffer}

-- one sample: (pel_pred_forward + pel_pred_backward) // 2
abbrev pub mean2 : ℕ → ℕ → ℕ
mean2 a b = (a + b) // 2

-- every sample of two predictions of one length
abbrev pub averaged : List ℕ → List ℕ → List ℕ
averaged forward backward = tabulate (length forward) (λ (k : ℕ). mean2 (get_or forward k 0) (get_or backward k 0))

-- the refusal for inputs of f and b bytes and an output of o: 19, then 18
abbrev pub average_refusal : ℕ → ℕ → ℕ → Option AveragingRefusal
average_refusal f b o = or_else (cause (not (eqb f b)) LengthsDiffer) (cause (not (eqb o f)) WrongLength)

abbrev pub average_answer : ℕ → ℕ → ℕ → Result Unit AveragingRefusal
average_answer f b o = answered (average_refusal f b o) tt
