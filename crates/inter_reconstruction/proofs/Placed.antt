-- Placing by columns and rows: a sample of a rectangle goes to the column and the row that its rule was asked for, and nothing else changes.
-- Assumes nothing.
use mathlib.Core.Path.{◌≡◌, refl, sym, ap, ◌∙◌}
use mathlib.Core.Bool.{Bool, true, false}
use mathlib.Core.List.{List, ◌++◌}
use Prim.Native.Nat.{ℕ, zero, suc, ◌+◌, ◌*◌, ◌/◌, ◌%◌, ◌≤◌, ◌<◌}
use native.Mathlib.Nat.{mod-lt, div-add-mod', zero-mul, suc-mul, mul_comm, mul-le-mul_right}
use native.Mathlib.Omega.{arith}
use lib.Arith.{digits_lt, digits_div, digits_mod}
use lib.Dec.{ltb}
use lib.ListN.{length, get_or, take, drop}
use lib.Seq.{take_at, drop_at, drop-drop, take_all}
use borrow.Author.Tests.{ltb-true, ltb-false}
use Rattle.laws.proofs.Tabulated.{get_or_tab}
use Rattle.forming_predictions.proofs.Blocks.{block_row}
use Rattle.pmv.specs.declared.kinds.ChromaFormat.{ChromaFormat}
use Rattle.inter_reconstruction.specs.declared.frames.FrameSides.{FrameSides}
use Rattle.inter_reconstruction.specs.Components.{ColourComponent, luma, cb, cr, block_width, block_height, block_bytes}
use Rattle.inter_reconstruction.specs.Frames.{Samples, lengths_of, plane_of}
use Rattle.inter_reconstruction.specs.Macroblock.{column_at, row_at, first_column, first_row, rectangle, part, macroblock}
use Rattle.inter_reconstruction.specs.Placing.{stored, place_at, part_of, placed}
use Rattle.inter_reconstruction.specs.inner.Placing.{Room, Placeable}
use Rattle.inter_reconstruction.proofs.Rectangles.{rectangle_length}
use Rattle.inter_reconstruction.proofs.Stored.{stored_on, stored_off}
use Rattle.inter_reconstruction.proofs.Places.{part_room}

-- where there is a sample, there is a column
positive : (w h k : ℕ) → k < w * h → 0 < w
positive zero h k l = absurd (omega (arith, l, zero-mul h))
positive (suc w) h k l = omega arith

rectangle_at : (w h : ℕ) (rule : ℕ → ℕ → ℕ) (x y k : ℕ) → k < w * h → get_or (rectangle w h rule x y) k 0 ≡ rule (column_at w x k) (row_at w y k)
unfolding rectangle
rectangle_at w h rule x y k l = get_or_tab (w * h) _ k 0 l

-- a later sample of a rectangle has a later place
place_lt : (width w x y k j : ℕ) → 0 < w → x + w ≤ width → k < j → place_at width w x y k < place_at width w x y j
place_lt width w x y k j some fit h = go (ltb (k / w) (j / w)) refl
  where
    kd : k / w * w + k % w ≡ k
    kd = div-add-mod' k w

    jd : j / w * w + j % w ≡ j
    jd = div-add-mod' j w

    kr : k % w < w
    kr = mod-lt k some

    jr : j % w < w
    jr = mod-lt j some

    go : (t : Bool) → ltb (k / w) (j / w) ≡ t → place_at width w x y k < place_at width w x y j
    go true e =
        let l = ltb-true (k / w) (j / w) e in
        let u : suc (y + k / w) ≤ y + j / w = omega (arith, l) in
        omega (arith, mul-le-mul_right width u, suc-mul (y + k / w) width, kr, fit)
    go false e =
        let l = ltb-false (k / w) (j / w) e in
        let same : k / w ≡ j / w = level (ltb (j / w) (k / w)) refl l in
        let rest : k % w < j % w = omega (arith, kd, jd, ap (λ (q : ℕ). q * w) same, h) in
        omega (arith, rest, ap (λ (q : ℕ). (y + q) * width) same)
      where
        level : (t : Bool) → ltb (j / w) (k / w) ≡ t → j / w ≤ k / w → k / w ≡ j / w
        level true e l =
            let u = ltb-true (j / w) (k / w) e in
            absurd (omega (arith, mul-le-mul_right w u, suc-mul (j / w) w, kd, jd, jr, h))
        level false e l = omega (arith, ltb-false (j / w) (k / w) e, l)

module _ {x y w h width p n : ℕ} (m : Room x y w h width p n) (rule : ℕ → ℕ → ℕ) (old : List ℕ) (long : length old ≡ p) where
  -- inside, each column and row has its own sample
  pub placed_inside : (a b : ℕ) → a < w → b < h
      → get_or (stored (place_at width w x y) (rectangle w h rule x y) old) ((y + b) * width + (x + a)) 0 ≡ rule (x + a) (y + b)
  placed_inside a b la lb =
      ap (λ (i : ℕ). get_or (stored (place_at width w x y) (rectangle w h rule x y) old) i 0) (sym place)
      ∙ stored_on (place_at width w x y) (rectangle w h rule x y) old (b * w + a) (omega (arith, few, rectangle_length w h rule x y)) (omega (arith, place, room))
      (λ j l t e. omega (arith, place_lt width w x y (b * w + a) j (omega arith) m.right l))
      ∙ sample
    where
      place : place_at width w x y (b * w + a) ≡ (y + b) * width + (x + a)
      place = rw (digits_div b la, digits_mod b la) refl

      few : b * w + a < w * h
      few = omega (arith, digits_lt lb la, mul_comm h w)

      room : (y + b) * width + (x + a) < length old
      room =
          let u : suc (y + b) ≤ y + h = omega arith in
          omega (arith, mul-le-mul_right width u, suc-mul (y + b) width, m.right, m.rows, long)

      sample : get_or (rectangle w h rule x y) (b * w + a) 0 ≡ rule (x + a) (y + b)
      sample = rectangle_at w h rule x y (b * w + a) few ∙ rw (digits_div b la, digits_mod b la) refl

  -- outside, nothing changes
  pub placed_outside : (i : ℕ) → ((a b : ℕ) → a < w → b < h → (y + b) * width + (x + a) ≡ i → ⊥)
      → get_or (stored (place_at width w x y) (rectangle w h rule x y) old) i 0 ≡ get_or old i 0
  placed_outside i off =
      stored_off (place_at width w x y) (rectangle w h rule x y) old i
      (λ k l e.
      let few : k < w * h = omega (arith, l, rectangle_length w h rule x y) in
      let some = positive w h k few in
      off (k % w) (k / w) (mod-lt k some) (block_row w h k some few) e)

-- ---- a macroblock in the planes of a picture

-- a component's part of a macroblock's bytes is what the component's rule gave
pub part_is : (f : ChromaFormat) (rule : ColourComponent → ℕ → ℕ → ℕ) (col row : ℕ) (c : ColourComponent)
    → part_of f c (macroblock f rule col row) ≡ part f c (rule c) col row
unfolding macroblock
part_is f rule col row luma =
    take_at (part f luma (rule luma) col row) (part f cb (rule cb) col row ++ part f cr (rule cr) col row) (block_bytes f luma) (rectangle_length _ _ _ _ _)
part_is f rule col row cb =
    ap (take (block_bytes f cb))
    (drop_at (part f luma (rule luma) col row) (part f cb (rule cb) col row ++ part f cr (rule cr) col row) (block_bytes f luma) (rectangle_length _ _ _ _ _))
    ∙ take_at (part f cb (rule cb) col row) (part f cr (rule cr) col row) (block_bytes f cb) (rectangle_length _ _ _ _ _)
part_is f rule col row cr =
    let all = part f luma (rule luma) col row ++ (part f cb (rule cb) col row ++ part f cr (rule cr) col row) in
    ap (take (block_bytes f cr))
    (sym (drop-drop (block_bytes f cb) (block_bytes f luma) all)
    ∙ ap (drop (block_bytes f cb))
    (drop_at (part f luma (rule luma) col row) (part f cb (rule cb) col row ++ part f cr (rule cr) col row) (block_bytes f luma) (rectangle_length _ _ _ _ _))
    ∙ drop_at (part f cb (rule cb) col row) (part f cr (rule cr) col row) (block_bytes f cb) (rectangle_length _ _ _ _ _))
    ∙ take_all (block_bytes f cr) (part f cr (rule cr) col row) (omega (arith, rectangle_length (block_width f cr) (block_height f cr) (rule cr) (first_column f cr col) (first_row f cr row)))

-- what was formed for a column and a row of a plane stands there afterwards
pub placed_where_formed : (p : FrameSides) (planes : Samples) (bytes col row : ℕ) → Placeable p (lengths_of planes) bytes col row
    → (rule : ColourComponent → ℕ → ℕ → ℕ) (c : ColourComponent) (a b : ℕ)
    → (let f = p.geometry.chroma_format in
    a < block_width f c
    → b < block_height f c
    → get_or (placed p col row (macroblock f rule col row) planes c) ((first_row f c row + b) * (plane_of p c).width + (first_column f c col + a)) 0
    ≡ rule c (first_column f c col + a) (first_row f c row + b))
placed_where_formed p planes bytes col row r rule c a b la lb =
    let f = p.geometry.chroma_format in
    rw (part_is f rule col row c) (placed_inside (part_room p (lengths_of planes) bytes col row r c) (rule c) (planes c) refl a b la lb)

-- and nothing else changes
pub placed_elsewhere : (p : FrameSides) (planes : Samples) (bytes col row : ℕ) → Placeable p (lengths_of planes) bytes col row
    → (rule : ColourComponent → ℕ → ℕ → ℕ) (c : ColourComponent) (i : ℕ)
    → (let f = p.geometry.chroma_format in
    ((a b : ℕ) → a < block_width f c → b < block_height f c → (first_row f c row + b) * (plane_of p c).width + (first_column f c col + a) ≡ i → ⊥)
    → get_or (placed p col row (macroblock f rule col row) planes c) i 0 ≡ get_or (planes c) i 0)
placed_elsewhere p planes bytes col row r rule c i off =
    let f = p.geometry.chroma_format in
    rw (part_is f rule col row c) (placed_outside (part_room p (lengths_of planes) bytes col row r c) (rule c) (planes c) refl i off)
