-- What is lent to a call, and what the call leaves there.
use Rattle.std.specs.Prelude.{◌≡◌, true, cond, List, ◌++◌, ℕ, ◌+◌, ◌-◌, ◌≤◌, ◌<◌, pos, length, take, drop, eqb, Ok}
use Rattle.std.specs.Borrow.{Lends, MutBor, Fml, Array, u8}
use Rattle.std.specs.Vec.{with_items_from}
use Rattle.laws.specs.Tabulate.{tabulate}
use Rattle.lists.specs.Text.{word_at, word_end}
use Rattle.lists.specs.Numbers.{number_at}
use Rattle.lists.specs.ByteStrings.{is_bytes, bytes_of, ramp}
use Rattle.tally.specs.declared.lent.Lent.{Lent}
use Rattle.tally.specs.contracts.lent.Lent.{the_row}

-- all but the last 16 bytes are lent
abbrev pub lent_of : List ℕ → List ℕ
lent_of room = take (length room - 16) room

abbrev pub behind_of : List ℕ → List ℕ
behind_of room = drop (length room - 16) room

abbrev pub with_front : Lent → List ℕ → Lent
with_front l front = record l { room = with_items_from l.room 0 front }

-- l ends with what was written through r in front
abbrev pub LendsFront : MutBor Lent → MutBor (List ℕ) → Fml
LendsFront l r = Lends the_row (Array u8 0) l r (with_front l.now)

-- nothing was called yet
pub record IsNew (bytes : List ℕ) (l : Lent) : Type 0 where
  pub room : l.room.items ≡ bytes
  pub kept : l.kept.items ≡ bytes

-- FILL LENGTH: a byte, and how many bytes are lent
pub record FillAt (s : List ℕ) (at first count : ℕ) : Type 0 where
  pub first_at : number_at s at ≡ Ok (pos first)
  pub byte : first < 256
  pub count_at : number_at s (word_end s at) ≡ Ok (pos count)
  pub few : count ≤ 1024

-- so many bytes are lent, and all are a ramp
pub record FilledAt (s : List ℕ) (at : ℕ) (l : Lent) : Type 0 where
  pub first : ℕ
  pub count : ℕ
  pub fill : FillAt s at first count
  pub new : IsNew (tabulate (count + 16) (ramp first)) l

-- BEFORE: these bytes are lent
pub record HoldingAt (s : List ℕ) (at : ℕ) (l : Lent) : Type 0 where
  pub behind : List ℕ
  pub bytes : is_bytes (word_at s at) 1024 ≡ true
  pub new : IsNew (bytes_of (word_at s at) ++ behind) l
  pub sixteen : length behind ≡ 16

-- these bytes were left in what was lent, and nothing else was touched
pub record Holds (l : Lent) (after : List ℕ) : Type 0 where
  pub lent : lent_of l.room.items ≡ after
  pub behind : behind_of l.room.items ≡ behind_of l.kept.items

-- the empty string stands for what the bytes were
abbrev pub IsAsListed : Lent → List ℕ → Type 0
IsAsListed l after = Holds l (cond (eqb (length after) 0) (lent_of l.kept.items) after)
