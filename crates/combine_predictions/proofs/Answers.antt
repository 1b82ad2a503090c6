-- What a call's answer says of its refusal and of its value.
-- Assumes nothing.
use mathlib.Core.Path.{◌≡◌, refl, sym, ap, ◌∙◌}
use Rattle.std.specs.Prelude.{Option, Some, None, Result, Ok, Err}
use Rattle.std.specs.Result.{result_ok, result_err}
use Rattle.combine_predictions.specs.Refusals.{answered, value_unless, unless_refused}

answered_err : {R A : Type 0} (n : Option R) (v : A) → result_err (answered n v) ≡ n
answered_err None v = refl
answered_err (Some r) v = refl

answered_ok : {R A : Type 0} (n : Option R) (v : A) → result_ok (answered n v) ≡ value_unless n v
answered_ok None v = refl
answered_ok (Some r) v = refl

-- the promises of a call in terms of each case, from the one about its answer
pub refusal_of : {R A : Type 0} {a : Result A R} (n : Option R) (v : A) → a ≡ answered n v → result_err a ≡ n
refusal_of n v e = ap result_err e ∙ answered_err n v

pub value_of : {R A : Type 0} {a : Result A R} (n : Option R) (v : A) → a ≡ answered n v → result_ok a ≡ value_unless (result_err a) v
value_of {R} n v e = ap result_ok e ∙ answered_ok n v ∙ ap (λ (m : Option R). value_unless m v) (sym (refusal_of n v e))

-- a buffer that was written by the refusal is written by the answer
pub by_answer : {R A B : Type 0} {a : Result A R} (n : Option R) (v : A) (o new old : B)
    → a ≡ answered n v → o ≡ unless_refused n new old → o ≡ unless_refused (result_err a) new old
by_answer n v o new old e w = rw (refusal_of n v e) w

-- what an answer's case says of the refusal
pub is_refused : {R A : Type 0} (n : Option R) (v : A) {r : R} → Err r ≡ answered n v → n ≡ Some r
is_refused None v e = absurd cc
is_refused (Some r) v e = ap result_err (sym e)

pub is_accepted : {R A : Type 0} (n : Option R) (v : A) {w : A} → Ok w ≡ answered n v → n ≡ None
is_accepted None v e = refl
is_accepted (Some r) v e = absurd cc

-- a value that is given, where nothing is refused
pub given : {R A : Type 0} {n : Option R} {v w : A} → n ≡ None → w ≡ v → Ok w ≡ answered n v
given e f = rw (e, f)
