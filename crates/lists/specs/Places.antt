-- Where a reading leaves a cursor.
use Rattle.std.specs.Prelude.{◌≡◌, ℕ}
use Rattle.lists.specs.declared.cursor.Cursor.{Cursor}

-- the cursor goes to a place of the same text
pub record MovesTo (old new : Cursor) (to : ℕ) : Type 0 where
  pub text : new.text.now ≡ old.text.now
  pub place : new.at ≡ to
