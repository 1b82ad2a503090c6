-- Laws of rows that are written eight by eight.
-- Assumes nothing.
use mathlib.Core.Path.{◌≡◌, sym, ap, ◌∙◌}
use mathlib.Core.Logic.{◌⊎◌, inl, inr}
use mathlib.Core.Bool.{true, ◌||◌}
use mathlib.Core.List.{List}
use Prim.Native.Nat.{ℕ, ◌+◌, ◌-◌, ◌≤◌, ◌<◌}
use native.Mathlib.Nat.{zero-add}
use native.Mathlib.Omega.{arith}
use lib.Dec.{eqb}
use lib.ListN.{length, take, drop}
use borrow.Author.Tests.{eqb-true}
use borrow.Rule.Slice.PartMut.{put_mid}
use Rattle.laws.specs.Tabulate.{tabulate}
use Rattle.laws.proofs.Parts.{part_length, part_at}
use Rattle.laws.proofs.Tests.{either}
use Rattle.laws.proofs.Filled.{Filled, filled_none, filled_length, filled_part, filled_again, filled_all}
use Rattle.forming_predictions.specs.inner.Views.{four_of, Eights, ColumnsFit}

-- what the test of a width says
eights_of : (n : ℕ) → (eqb n 8 ≡ true) ⊎ (eqb n 16 ≡ true) → Eights n
eights_of n (inl p) =
    let e = eqb-true n 8 p in
    record { some = omega arith; wide = omega arith; even = omega arith }
eights_of n (inr p) =
    let e = eqb-true n 16 p in
    record { some = omega arith; wide = omega arith; even = omega arith }

pub eights_yes : (n : ℕ) → (eqb n 8 || eqb n 16) ≡ true → Eights n
eights_yes n e = eights_of n (either (eqb n 8) (eqb n 16) e)

-- eight of a block's columns
pub part_columns : {columns : List ℕ} {w : ℕ} (a : ℕ) → ColumnsFit columns w → a + 8 ≤ length columns → ColumnsFit (take (a + 8 - a) (drop a columns)) w
part_columns {columns} {w} a f h =
    let long : length (take (a + 8 - a) (drop a columns)) ≡ 8 = part_length columns a (a + 8) h ∙ omega arith in
    record { inside = λ k l. rw (part_at columns a (a + 8) k (omega arith)) (f.inside (a + k) (omega arith)) }

-- the first eight of a buffer, and the next eight
pub eight : {f g : ℕ → ℕ} {d ys : List ℕ} → 8 ≤ length d → ys ≡ tabulate 8 g → ((i : ℕ) → i < 8 → g i ≡ f i) → Filled f d 8 (put_mid 0 8 d ys)
eight {f} {g} {d} {ys} p e q = filled_part 8 (filled_none f d) p e (λ i h. q i h ∙ ap f (sym (zero-add i)))

-- the last eight of at most sixteen, of which the first eight are in place
pub overlapped : {f g : ℕ → ℕ} {d o ys : List ℕ} → Filled f d 8 o → length d ≤ 16 → ys ≡ tabulate 8 g
    → ((i : ℕ) → i < 8 → g i ≡ f (length d - 8 + i))
    → put_mid (length d - 8) (length d - (length d - 8)) o ys ≡ tabulate (length d) f
overlapped {f} {g} {d} {o} {ys} h p e q =
    let end : length d - 8 + 8 ≡ length d = omega arith in
    let last = filled_part 8 (filled_again (length d - 8) h (omega arith)) (omega arith) e q in
    filled_all (rw end at last) (omega (arith, filled_length (rw end at last), filled_length h)) (filled_length h)

-- m columns further
pub four_next : (row below : List ℕ) (x dx m i : ℕ) → four_of row below (x + m) dx i ≡ four_of row below x dx (m + i)
unfolding four_of
four_next row below x dx m i =
    let p : x + m + i ≡ x + (m + i) = omega arith in
    let q : x + m + dx + i ≡ x + dx + (m + i) = omega arith in
    rw (p, q)
