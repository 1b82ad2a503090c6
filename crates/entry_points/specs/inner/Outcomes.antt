-- The byte that an update's answer leaves for the outcome, which a refusal leaves as it was (docs/SCOPE.md).
use Rattle.std.specs.Prelude.{ℕ, Result, Ok, Err}
use Rattle.pmv.specs.Update.{outcome_number}
use Rattle.pmv.specs.declared.update.PmvUpdateOutcome.{PmvUpdateOutcome}
use Rattle.pmv.specs.declared.update.UpdateRefusal.{UpdateRefusal}

abbrev pub outcome_byte : Result PmvUpdateOutcome UpdateRefusal → ℕ → ℕ
outcome_byte (Ok row) before = outcome_number row
outcome_byte (Err r) before = before
