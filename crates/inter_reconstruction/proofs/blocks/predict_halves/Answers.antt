-- A turn writes the lines of one field, which are the next half of the output.
-- Assumes nothing.
use Rattle.std.proofs.Common.{ℕ, zero, suc, List, [], ◌∷◌, ◌++◌, ◌≡◌, ◌∙◌, sym, length, get_or, ◌+◌, ◌*◌, ◌<◌, arith, length-append}
use native.Mathlib.Nat.{zero-mul, one-mul, zero-add}
use lib.ListN.{get_or-append}
use lib.Seq.{get_or-append-add}
use Rattle.laws.specs.Tabulate.{tabulate}
use Rattle.laws.proofs.Rows.{rows_none, rows_part, rows_step, rows_all}
use Rattle.laws.proofs.Tabulated.{get_or_tab, tab_self}
use Rattle.forming_predictions.specs.Means.{rounded}
use Rattle.inter_reconstruction.specs.Macroblock.{column_at, row_at, field_sample, rectangle}
use Rattle.inter_reconstruction.specs.declared.motion.FieldVector.{FieldVector}
use Rattle.inter_reconstruction.specs.declared.motion.FieldVectorPair.{FieldVectorPair}
use Rattle.inter_reconstruction.specs.Frames.{PlaneReading, read_plane}
use Rattle.inter_reconstruction.specs.inner.Blocks.{field_halves}
use Rattle.inter_reconstruction.proofs.Rectangles.{rectangle_length}
use Rattle.inter_reconstruction.proofs.blocks.predict_halves.Goals as goal

-- both blocks, cell by cell
module _ (read : PlaneReading) (pair : FieldVectorPair) (w h x line : ℕ) where
  abbrev block : FieldVector → List ℕ
  block u = rectangle w h (field_sample rounded read u) x line

  in_block : (u : FieldVector) (k : ℕ) → k < w * h → field_sample rounded read u (column_at w x k) (row_at w line k) ≡ get_or (block u) k 0
  unfolding rectangle
  in_block u k l = sym (get_or_tab (w * h) _ k 0 l)

  in_halves : (d : FieldVector) (f k : ℕ) → f < 2 → k < w * h
      → field_sample rounded read (get_or (pair.top ∷ pair.bottom ∷ []) f d) (column_at w x k) (row_at w line k) ≡ get_or (field_halves read pair w h x line) (f * (w * h) + k) 0
  unfolding field_halves
  in_halves d zero k p l =
      rw (zero-mul (w * h), zero-add k)
      (in_block pair.top k l ∙ sym (get_or-append (block pair.top) (block pair.bottom) 0 k (omega (arith, rectangle_length w h (field_sample rounded read pair.top) x line))))
  in_halves d (suc zero) k p l =
      rw (one-mul (w * h), ← rectangle_length w h (field_sample rounded read pair.top) x line)
      (in_block pair.bottom k l ∙ sym (get_or-append-add (block pair.top) (block pair.bottom) k 0))
  in_halves d (suc (suc f)) k p l = absurd (omega arith)

  -- one block, as a part of m bytes
  as-part : (u : FieldVector) (m : ℕ) (ys : List ℕ) → m ≡ w * h → ys ≡ block u
      → ys ≡ tabulate m (λ (k : ℕ). field_sample rounded read u (column_at w x k) (row_at w line k))
  unfolding rectangle
  as-part u m ys e p = rw e p

  whole : tabulate (w * h * 2) (λ (k : ℕ). get_or (field_halves read pair w h x line) k 0) ≡ field_halves read pair w h x line
  unfolding field_halves
  whole =
      let n : length (block pair.top ++ block pair.bottom) ≡ w * h * 2
      = length-append (block pair.top) (block pair.bottom)
      ∙ omega (arith, rectangle_length w h (field_sample rounded read pair.top) x line, rectangle_length w h (field_sample rounded read pair.bottom) x line) in
      rw (← n) (tab_self (block pair.top ++ block pair.bottom))

pub loop-f-init : goal.loop-f-init
loop-f-init c = rows_none _ _ _ _ (omega (arith, c.requires.1, c.bytes-n.ensures))

pub loop-f-preserved : goal.loop-f-preserved
loop-f-preserved c =
    let a = c.args in
    let e = c.bytes-n.ensures in
    let less : c.loop-f.f < 2 = omega (arith, c.loop-f-test.true) in
    let read = read_plane a.plane.sides a.plane.samples.now in
    rows_step c.loop-f.invariant less
    (as-part read a.pair a.at.width a.at.height a.at.x a.at.y _ _ _ (rows_part c.loop-f.invariant less ∙ e) c.predict_lines.ensures)
    (λ k h. rw e (in_halves read a.pair a.at.width a.at.height a.at.x a.at.y _ c.loop-f.f k less (rw e at h)))

pub returns : goal.returns
returns c =
    let a = c.args in
    rows_all c.loop-f.invariant (omega (arith, c.loop-f-test.false))
    ∙ rw c.bytes-n.ensures (whole (read_plane a.plane.sides a.plane.samples.now) a.pair a.at.width a.at.height a.at.x a.at.y)
