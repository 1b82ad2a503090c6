-- What a number's reading says of its meaning.
-- Assumes nothing.
use mathlib.Core.Path.{◌≡◌, refl}
use mathlib.Core.Bool.{Bool, true, false, ◌&&◌}
use Rattle.std.specs.Prelude.{ℕ, Option, Some, None, Result, Ok, Err, MatchResult, is_some, is_ok, ok_or, unwrap_or}
use Rattle.std.specs.Result.{result_err, result_unwrap_or}
use Rattle.combine_predictions.specs.Refusals.{refusal_number, answered}
use Rattle.forming_predictions.specs.Parities.{no_meaning}
use Rattle.forming_predictions.specs.declared.parity.NoMeaning.{NoMeaning}
use Rattle.entry_points.specs.inner.Reading.{read_where}

pub known_ok : {A : Type 0} (o : Option A) → is_ok (ok_or o no_meaning) ≡ is_some o
known_ok None = refl
known_ok (Some x) = refl

pub with_true : (b : Bool) → (b && true) ≡ b
with_true true = refl
with_true false = refl

pub read_value : {A : Type 0} (o : Option A) (d : A) {r : Result A NoMeaning} {x : A}
    → x ≡ result_unwrap_or r d → r ≡ ok_or o no_meaning → x ≡ unwrap_or o d
read_value None d p q = rw q at p
read_value (Some y) d p q = rw q at p

-- where all numbers of a call were read, they are known, and what was read is what they mean
pub was_read : {A : Type 0} (known : Bool) (meant : A) {read : A} → Ok read ≡ read_where known meant → (known ≡ true) × (read ≡ meant)
was_read true meant e = (refl, cc)
was_read false meant e = absurd cc

-- where one was not, not all are known
pub not_read : {A : Type 0} (known : Bool) (meant : A) {reason : NoMeaning} → Err reason ≡ read_where known meant → known ≡ false
not_read true meant e = absurd cc
not_read false meant e = refl

-- the number that an answer is told as
pub code_is : {T R : Type 0} (number : R → ℕ) (a : Result T R) {n : ℕ} → MatchResult a (λ _. n ≡ 0) (λ r. n ≡ number r) → n ≡ refusal_number number (result_err a)
code_is number (Ok x) e = e
code_is number (Err r) e = e

pub answered_code : {T R : Type 0} (number : R → ℕ) (a : Result T R) (m : Option R) (v : T) {n : ℕ}
    → a ≡ answered m v → MatchResult a (λ _. n ≡ 0) (λ r. n ≡ number r) → n ≡ refusal_number number m
answered_code number a None v p e = rw p at e
answered_code number a (Some r) v p e = rw p at e
