-- The scope (docs/SCOPE.md, "When a call refuses"): a call either gives what it is asked for or says why it refuses, and each reason has a
-- number. Nothing here is the standard's.
use Rattle.std.specs.Prelude.{Bool, true, false, ℕ, Option, Some, None, Result, Ok, Err}
use Rattle.combine_predictions.specs.declared.AveragingRefusal.{AveragingRefusal}
use Rattle.combine_predictions.specs.declared.AveragingRefusal.TheVariants.{WrongLength, LengthsDiffer}

-- the numbers of this layer's reasons
abbrev pub averaging_number : AveragingRefusal → ℕ
averaging_number WrongLength = 18
averaging_number LengthsDiffer = 19

-- ---- for every layer: a refusal is one of its reasons, or none

-- the reason where its cause is there
abbrev pub cause : {R : Type 0} → Bool → R → Option R
cause true r = Some r
cause false r = None

-- the first refusal, or else the second: the scope's order is the order of such a chain
abbrev pub or_else : {R : Type 0} → Option R → Option R → Option R
or_else None m = m
or_else (Some r) m = Some r

-- what a call answers: the refusal, or else the value
abbrev pub answered : {R A : Type 0} → Option R → A → Result A R
answered None v = Ok v
answered (Some r) v = Err r

-- the value of an answer, unless there is a refusal
abbrev pub value_unless : {R A : Type 0} → Option R → A → Option A
value_unless None v = Some v
value_unless (Some r) v = None

-- what a lent buffer holds at exit: what was written, or, refused, what it held at entry
abbrev pub unless_refused : {R A : Type 0} → Option R → A → A → A
unless_refused None written kept = written
unless_refused (Some r) written kept = kept

-- the number of a refusal, and 0 for none: what C is told
abbrev pub refusal_number : {R : Type 0} → (R → ℕ) → Option R → ℕ
refusal_number number None = 0
refusal_number number (Some r) = number r
