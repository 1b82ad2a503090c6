-- ISO/IEC 13818-2, 7.6.4: a predicted sample is formed of one, two or four samples that a motion vector points to. `read` is asked for
-- coordinates, inside the plane or not.
-- The scope (docs/SCOPE.md): a block's samples stand row after row.
use Rattle.std.specs.Prelude.{Bool, true, false, List, ℕ, ◌*◌, ◌/◌, ◌%◌, ℤ, pos, ◌+ℤ◌}
use Rattle.laws.specs.Tabulate.{tabulate}
use Rattle.forming_predictions.specs.Splitting.{floor_half, half_flag}
use Rattle.forming_predictions.specs.Means.{Means}

-- the four cases, by half_flag[0], the horizontal one, and half_flag[1]; (x, y) is where the whole parts lead
unfoldable pub combined : Means → (ℤ → ℤ → ℕ) → ℤ → ℤ → Bool → Bool → ℕ
combined m read x y false false = m.one (read x y)
combined m read x y false true = m.two (read x y) (read x (y +ℤ pos 1))
combined m read x y true false = m.two (read x y) (read (x +ℤ pos 1) y)
combined m read x y true true =
    m.four (read x y) (read (x +ℤ pos 1) y) (read x (y +ℤ pos 1)) (read (x +ℤ pos 1) (y +ℤ pos 1))

-- pel_pred[y][x], by the vector (horizontal, vertical)
unfoldable pub formed : Means → (ℤ → ℤ → ℕ) → ℤ → ℤ → ℤ → ℤ → ℕ
formed m read x y horizontal vertical =
    combined m read (x +ℤ floor_half horizontal) (y +ℤ floor_half vertical) (half_flag horizontal) (half_flag vertical)

-- a block of w columns and h rows by a rule for each sample, row after row; its first sample is at (x, y)
unfoldable pub block_of : ℕ → ℕ → (ℤ → ℤ → ℕ) → ℤ → ℤ → List ℕ
block_of w h rule x y = tabulate (w * h) (λ (k : ℕ). rule (x +ℤ pos (k % w)) (y +ℤ pos (k / w)))

-- a block of predicted samples, by the vector (horizontal, vertical)
abbrev pub predicted_block : Means → (ℤ → ℤ → ℕ) → ℕ → ℕ → ℤ → ℤ → ℤ → ℤ → List ℕ
predicted_block m read w h x y horizontal vertical =
    block_of w h (λ (a b : ℤ). formed m read a b horizontal vertical) x y
