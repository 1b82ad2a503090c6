-- Laws of blocks at positions that are not negative, as a macroblock's are.
-- Assumes nothing.
use mathlib.Core.Path.{◌≡◌, refl, sym, ap, ◌∙◌}
use mathlib.Core.Bool.{true}
use mathlib.Core.List.{List, ◌++◌}
use Prim.Native.Nat.{ℕ, zero, suc, ◌+◌, ◌*◌, ◌/◌, ◌%◌, ◌≤◌, ◌<◌}
use native.Mathlib.Nat.{zero-add, zero-mul, one-mul, mul_comm, mul-add, add-mul, mod-lt}
use native.Mathlib.Omega.{arith}
use lib.Arith.{digits_lt, digits_div, digits_mod}
use lib.IntN.{pos, negsuc}
use lib.ListN.{length, length-append, get_or, get_or-append}
use lib.Seq.{get_or-append-add}
use borrow.Author.Tests.{le-leb, eq-eqb}
use Rattle.laws.specs.Tabulate.{tabulate}
use Rattle.laws.proofs.Signed.{yes_le}
use Rattle.laws.proofs.Tabulated.{length_tab, get_or_tab, tab_ext}
use Rattle.std.specs.Prelude.{Option, None, Result}
use Rattle.std.specs.Result.{result_err}
use Rattle.combine_predictions.specs.Refusals.{answered, unless_refused}
use Rattle.combine_predictions.specs.Averaging.{mean2, averaged, average_answer}
use Rattle.combine_predictions.specs.declared.AveragingRefusal.{AveragingRefusal}
use Rattle.combine_predictions.specs.declared.PredictionDirection.{PredictionDirection}
use Rattle.combine_predictions.specs.declared.PredictionDirection.TheVariants.{Forward, Backward, Skipped}
use Rattle.forming_predictions.specs.Lines.{frame, field, sample_at}
use Rattle.forming_predictions.specs.Means.{rounded}
use Rattle.forming_predictions.specs.Forming.{block_of, predicted_block}
use Rattle.forming_predictions.specs.Refusals.{position_fits, block_side_fits, block_refusal, last_block}
use Rattle.forming_predictions.proofs.Blocks.{block_row}
use Rattle.forming_predictions.specs.declared.FormingRefusal.{FormingRefusal}
use Rattle.forming_predictions.specs.declared.PlaneSides.{PlaneSides}
use Rattle.inter_reconstruction.specs.declared.motion.MotionVectorPel.{MotionVectorPel}
use Rattle.inter_reconstruction.specs.declared.motion.FieldVector.{FieldVector}
use Rattle.inter_reconstruction.specs.declared.motion.DirectionMotion.TheVariants.{Frame, Field}
use Rattle.inter_reconstruction.specs.declared.motion.FieldVectorPair.{FieldVectorPair}
use Rattle.inter_reconstruction.specs.Motion.{field_vector_of}
use Rattle.inter_reconstruction.specs.Frames.{PlaneReading, read_plane}
use Rattle.inter_reconstruction.specs.Macroblock.{field_sample, direction_sample, rectangle}
use Rattle.inter_reconstruction.specs.inner.Blocks.{PlaneFits, AreaFits, FieldRows, field_row, interleaved_cell, field_halves, forward_bytes}

-- its length
pub rectangle_length : (w h : ℕ) (rule : ℕ → ℕ → ℕ) (x y : ℕ) → length (rectangle w h rule x y) ≡ w * h
unfolding rectangle
rectangle_length w h rule x y = length_tab (w * h) _

-- two rules that agree give one block
pub rectangle_ext : (w h : ℕ) (f g : ℕ → ℕ → ℕ) (x y : ℕ) → ((a b : ℕ) → f a b ≡ g a b) → rectangle w h f x y ≡ rectangle w h g x y
unfolding rectangle
rectangle_ext w h f g x y e = tab_ext (w * h) _ _ (λ k p. e _ _)

-- ---- the block calls accept such a block

side_yes : (n : ℕ) → 0 < n → n ≤ 16 → block_side_fits n ≡ true
unfolding block_side_fits
side_yes n p q = rw (le-leb 1 n p, le-leb n 16 q)

position_yes : (n : ℕ) → n ≤ 16368 → position_fits last_block (pos n) ≡ true
unfolding position_fits
position_yes n p = rw (yes_le (negsuc 32767) (pos n) (omega arith), yes_le (pos n) (pos 32767) (omega arith))

pub block_accepted : (p : PlaneSides) (d : List ℕ) (x y w h n : ℕ)
    → PlaneFits p d
    → AreaFits x y w h
    → n ≡ w * h
    → block_refusal p.width p.height (length d) (pos x) (pos y) w h n ≡ None
unfolding block_refusal
block_accepted p d x y w h n f b e =
    rw (
      f,
      side_yes w b.some b.wide,
      side_yes h b.tall b.high,
      position_yes x b.left,
      position_yes y b.top,
      eq-eqb n (w * h) e,
    )

pub block_written : {A : Type 0} (r : Result Unit FormingRefusal) (n : Option FormingRefusal) (o new old : A)
    → r ≡ answered n tt → n ≡ None → o ≡ unless_refused (result_err r) new old → o ≡ new
block_written r n o new old e z w = w ∙ rw (e, z)

-- ---- which are the rows of the frame, or the lines of a field
pub rows_are : (p : PlaneSides) (d : List ℕ) (v : MotionVectorPel) (w h x y : ℕ)
    → predicted_block rounded (sample_at frame p.width p.height d) w h (pos x) (pos y) v.horizontal v.vertical
    ≡ rectangle w h (direction_sample rounded (read_plane p d) (Frame v)) x y
unfolding block_of rectangle direction_sample
rows_are p d v w h x y = refl

pub lines_are : (p : PlaneSides) (d : List ℕ) (u : FieldVector) (w h x y : ℕ)
    → predicted_block rounded (sample_at (field u.reference_field) p.width p.height d) w h (pos x) (pos y) u.vector.horizontal u.vector.vertical
    ≡ rectangle w h (field_sample rounded (read_plane p d) u) x y
unfolding block_of rectangle field_sample
lines_are p d u w h x y = refl

-- ---- interleaved fields

-- a frame's row is one of the two blocks' rows
pub field_row_in : (h r : ℕ) → r < h + h → field_row h r < h + h
field_row_in h r l = go (r % 2) refl
  where
    go : (m : ℕ) → r % 2 ≡ m → m * h + r / 2 < h + h
    go zero e = omega (arith, l)
    go (suc zero) e = omega (arith, l)
    go (suc (suc m)) e = absurd (omega arith)

pub twice_half : (w h : ℕ) → h % 2 ≡ 0 → w * h ≡ w * (h / 2 + h / 2)
twice_half w h e = ap (λ (k : ℕ). w * k) (omega arith)

pub halves_count : (w h : ℕ) → h % 2 ≡ 0 → w * h ≡ w * (h / 2) + w * (h / 2)
halves_count w h e = twice_half w h e ∙ mul-add w (h / 2) (h / 2)

-- one sample of both fields' blocks
rectangle_at : (w h : ℕ) (rule : ℕ → ℕ → ℕ) (x y r c : ℕ) → c < w → r < h → get_or (rectangle w h rule x y) (r * w + c) 0 ≡ rule (x + c) (y + r)
unfolding rectangle
rectangle_at w h rule x y r c p q =
    get_or_tab (w * h) _ (r * w + c) 0 (omega (arith, digits_lt q p, mul_comm w h)) ∙ rw (digits_div r p, digits_mod r p)

-- ---- the two field blocks, interleaved, are the rows of the frame: row y + r is line y / 2 + r / 2 of its field
module _ (read : PlaneReading) (pair : FieldVectorPair) (w h x y : ℕ) (f : FieldRows y h) where
  abbrev half : ℕ
  half = h / 2

  abbrev one : FieldVector → List ℕ
  one u = rectangle w half (field_sample rounded read u) x (y / 2)

  one_length : (u : FieldVector) → length (one u) ≡ w * half
  one_length u = rectangle_length w half _ x (y / 2)

  pub halves_length : length (field_halves read pair w half x (y / 2)) ≡ w * h
  unfolding field_halves
  halves_length =
      length-append (one pair.top) (one pair.bottom)
      ∙ rw (one_length pair.top, one_length pair.bottom) (sym (halves_count w h f.even))

  halves_at : (r c m : ℕ) → r % 2 ≡ m → c < w → r < h
      → get_or (one pair.top ++ one pair.bottom) ((m * half + r / 2) * w + c) 0 ≡ field_sample rounded read (field_vector_of pair m) (x + c) (y / 2 + r / 2)
  halves_at r c zero e p q =
      let l : r / 2 < half = omega (arith, f.even) in
      rw (zero-mul half, zero-add (r / 2))
      (get_or-append (one pair.top) (one pair.bottom) 0 (r / 2 * w + c) (omega (arith, digits_lt l p, mul_comm w half, one_length pair.top))
      ∙ rectangle_at w half _ x (y / 2) (r / 2) c p l)
  halves_at r c (suc zero) e p q =
      let l : r / 2 < half = omega (arith, f.even) in
      let i : (1 * half + r / 2) * w + c ≡ length (one pair.top) + (r / 2 * w + c)
      = omega (arith, add-mul (1 * half) (r / 2) w, ap (λ (k : ℕ). k * w) (one-mul half), mul_comm w half, one_length pair.top) in
      ap (λ (k : ℕ). get_or (one pair.top ++ one pair.bottom) k 0) i
      ∙ get_or-append-add (one pair.top) (one pair.bottom) (r / 2 * w + c) 0
      ∙ rectangle_at w half _ x (y / 2) (r / 2) c p l
  halves_at r c (suc (suc m)) e p q = absurd (omega arith)

  -- for sample k of the block
  cell_is : (k : ℕ) → 0 < w → k < w * h
      → interleaved_cell (field_halves read pair w half x (y / 2)) w half k ≡ direction_sample rounded read (Field pair) (x + k % w) (y + k / w)
  unfolding interleaved_cell field_halves direction_sample
  cell_is k p q =
      let r : k / w < h = block_row w h k p q in
      let even : k / w % 2 ≡ (y + k / w) % 2 = omega (arith, f.first) in
      let line : (y + k / w) / 2 ≡ y / 2 + k / w / 2 = omega (arith, f.first) in
      halves_at (k / w) (k % w) (k / w % 2) refl (mod-lt k p) r ∙ rw (even, line)

  pub interleaved_is : 0 < w
      → tabulate (w * (half + half)) (interleaved_cell (field_halves read pair w half x (y / 2)) w half)
      ≡ rectangle w h (direction_sample rounded read (Field pair)) x y
  unfolding rectangle
  interleaved_is p = rw (← twice_half w h f.even) (tab_ext (w * h) _ _ (λ k q. cell_is k p q))

-- ---- two blocks, averaged
pub averaged_is : (w h : ℕ) (f g : ℕ → ℕ → ℕ) (x y : ℕ) (a b o old : List ℕ) (r : Result Unit AveragingRefusal)
    → a ≡ rectangle w h f x y
    → b ≡ rectangle w h g x y
    → length old ≡ w * h
    → r ≡ average_answer (length a) (length b) (length old)
    → o ≡ unless_refused (result_err r) (averaged a b) old
    → o ≡ rectangle w h (λ (i j : ℕ). mean2 (f i j) (g i j)) x y
unfolding rectangle
averaged_is w h f g x y a b o old r ea eb eo er e =
    let la : length a ≡ w * h = ap length ea ∙ length_tab (w * h) _ in
    let lb : length b ≡ w * h = ap length eb ∙ length_tab (w * h) _ in
    let at : (f : ℕ → ℕ → ℕ) (k : ℕ) → k < w * h → get_or (tabulate (w * h) (λ (k : ℕ). f (x + k % w) (y + k / w))) k 0 ≡ f (x + k % w) (y + k / w)
    = λ f k q. get_or_tab (w * h) _ k 0 q in
    e
    ∙ rw (er, la, lb, eo, eq-eqb (w * h) (w * h) refl, ea, eb)
    (tab_ext (w * h) _ _ (λ k q. rw (at f k q, at g k q)))

-- ---- the direction that there is
pub forward_most : (d : PredictionDirection) (n : ℕ) → forward_bytes d n ≤ n
forward_most Forward n = omega arith
forward_most Backward n = omega arith
forward_most Skipped n = omega arith
