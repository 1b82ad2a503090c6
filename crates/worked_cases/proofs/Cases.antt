-- Every row of the table holds, by computing both sides.
-- Assumes nothing.
use mathlib.Core.Path.{◌≡◌, refl}
use native.Mathlib.Omega.{arith}
use lib.IntN.{ℤ}
use Rattle.forming_predictions.specs.Splitting.{floor_half, half_flag}
use Rattle.forming_predictions.specs.Lines.{field_lines, clamp_to, row_of, sample_at}
use Rattle.forming_predictions.specs.Forming.{combined, formed}
use Rattle.forming_predictions.proofs.Lines.{clamp_lt}
use Rattle.pmv.specs.Delta.{scale, is_plain, delta, f_code_fits, code_fits, code_refusal, delta_refusal}
use Rattle.pmv.specs.Component.{range_of, halves, wrapped, from_delta, from_delta_refusal}
use Rattle.pmv.specs.Chroma.{trunc_half}
use Rattle.worked_cases.specs.Cases.{CasesHold}

infixr 60 ◌◂◌
-- a row, and those below it
◌◂◌ : {A B : Type 0} → A → B → A × B
a ◂ b = (a, b)

-- a side of 1 has one place
only : (z : ℤ) → clamp_to 1 z ≡ 0
only z = omega (arith, clamp_lt 1 z (omega arith))

pub cases_hold : CasesHold
unfolding floor_half half_flag field_lines clamp_to row_of sample_at combined formed scale is_plain delta f_code_fits code_fits code_refusal delta_refusal range_of halves wrapped from_delta from_delta_refusal trunc_half
cases_hold =
    refl
    ◂ refl
    -- src/forming_predictions.rs
    ◂ (refl, refl)
    ◂ (refl, refl)
    ◂ refl
    ◂ refl
    ◂ refl
    ◂ refl
    ◂ (refl, λ x y. rw (only x))
    -- src/pmv.rs
    ◂ (λ p. refl)
    ◂ (refl, refl)
    ◂ (refl, refl)
    ◂ (refl, refl, refl)
    ◂ (refl, refl)
    ◂ (refl, refl)
    ◂ refl
    ◂ (refl, refl, refl)
    ◂ (refl, refl)
    ◂ (refl, refl)
    ◂ (refl, refl)
    ◂ tt
