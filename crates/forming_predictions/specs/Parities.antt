-- The numbers of a field's parity where it comes from C (docs/SCOPE.md): any other has no meaning. `parity_row` (Lines.antt) is the number of
-- a parity.
use Rattle.std.specs.Prelude.{cond, ℕ, eqb, Option, Some, None}
use Rattle.forming_predictions.specs.declared.FieldParity.{FieldParity}
use Rattle.forming_predictions.specs.declared.FieldParity.TheVariants.{Top, Bottom}
use Rattle.forming_predictions.specs.declared.parity.NoMeaning.{NoMeaning}

abbrev pub parity_from : ℕ → Option FieldParity
parity_from n =
    cond (eqb n 0) (Some Top)
    (cond (eqb n 1) (Some Bottom)
    None)

-- what is answered to a number without a meaning
abbrev pub no_meaning : NoMeaning
no_meaning = record {}
