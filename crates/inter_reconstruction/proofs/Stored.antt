-- Laws of placing: samples stored at their places, and where a block's rows stand in a plane.
-- Assumes nothing.
use mathlib.Core.Path.{◌≡◌, refl, sym, ap, ◌∙◌}
use mathlib.Core.List.{List, [], ◌∷◌, ◌++◌, append_assoc}
use Prim.Native.Nat.{ℕ, zero, suc, ◌+◌, ◌-◌, ◌*◌, ◌≤◌, ◌<◌}
use native.Mathlib.Nat.{zero-add, suc-add, zero-mul, suc-mul, add_assoc, mul-le-mul_right}
use native.Mathlib.Numerals.{add-one}
use native.Mathlib.Omega.{arith}
use lib.Arith.{digits_div, digits_mod}
use lib.ListN.{length, get_or, set, take, drop, length-set}
use lib.Seq.{sets, sets-eq, drop-drop, take-add, length-take-le, get_or-set_same, get_or-set_other}
use borrow.Rule.Slice.PartMut.{put_mid}
use Rattle.laws.proofs.Parts.{part_length}
use Rattle.laws.proofs.Rows.{row_in}
use Rattle.inter_reconstruction.specs.Placing.{stored, place_at}
use Rattle.inter_reconstruction.specs.inner.Placing.{Room}

-- ---- any places

pub stored_length : (place : ℕ → ℕ) (ss l : List ℕ) → length (stored place ss l) ≡ length l
unfolding stored
stored_length place [] l = refl
stored_length place (s ∷ ss) l =
    stored_length (λ (k : ℕ). place (suc k)) ss (set l (place zero) s) ∙ length-set l (place zero) s

-- places that agree
pub stored_ext : (p q : ℕ → ℕ) (ss l : List ℕ) → ((k : ℕ) → k < length ss → p k ≡ q k) → stored p ss l ≡ stored q ss l
unfolding stored
stored_ext p q [] l e = refl
stored_ext p q (s ∷ ss) l e =
    ap (λ (n : ℕ). stored (λ (k : ℕ). p (suc k)) ss (set l n s)) (e zero (omega arith))
    ∙ stored_ext (λ (k : ℕ). p (suc k)) (λ (k : ℕ). q (suc k)) ss (set l (q zero) s) (λ k h. e (suc k) (omega arith))

-- one list after another
pub stored_append : (p : ℕ → ℕ) (ss ts l : List ℕ) → stored p (ss ++ ts) l ≡ stored (λ (k : ℕ). p (length ss + k)) ts (stored p ss l)
unfolding stored
stored_append p [] ts l = stored_ext p (λ (k : ℕ). p (zero + k)) ts l (λ k h. ap p (sym (zero-add k)))
stored_append p (s ∷ ss) ts l =
    stored_append (λ (k : ℕ). p (suc k)) ss ts (set l (p zero) s)
    ∙ stored_ext (λ (k : ℕ). p (suc (length ss + k))) (λ (k : ℕ). p (suc (length ss) + k)) ts
    (stored (λ (k : ℕ). p (suc k)) ss (set l (p zero) s)) (λ k h. ap p (sym (suc-add (length ss) k)))

-- places in a row, from a on
stored_run : (p : ℕ → ℕ) (a : ℕ) (ss l : List ℕ) → ((k : ℕ) → k < length ss → p k ≡ a + k) → stored p ss l ≡ sets l a ss
unfolding stored
stored_run p a [] l e = refl
stored_run p a (s ∷ ss) l e =
    let first : p zero ≡ a = omega (arith, e zero (omega arith)) in
    ap (λ (n : ℕ). stored (λ (k : ℕ). p (suc k)) ss (set l n s)) first
    ∙ stored_run (λ (k : ℕ). p (suc k)) (suc a) ss (set l a s) (λ k h. omega (arith, e (suc k) (omega arith)))

-- and what a call leaves that wrote the part &mut l[a..a + n]
pub stored_part : (p : ℕ → ℕ) (a n : ℕ) (ss l : List ℕ) → length ss ≡ n → a + n ≤ length l → ((k : ℕ) → k < length ss → p k ≡ a + k)
    → put_mid a (a + n - a) l ss ≡ stored p ss l
stored_part p a n ss l e h w =
    let k : a + n - a ≡ n = omega arith in
    rw (k, drop-drop n a l)
    (sym (stored_run p a ss l w
    ∙ sets-eq ss l a (omega arith)
    ∙ rw e (append_assoc (take a l) ss (drop (a + n) l))))

-- ---- what is read afterwards

-- a place that is none of them
pub stored_off : (p : ℕ → ℕ) (ss l : List ℕ) (i : ℕ) → ((k : ℕ) → k < length ss → p k ≡ i → ⊥) → get_or (stored p ss l) i 0 ≡ get_or l i 0
unfolding stored
stored_off p [] l i h = refl
stored_off p (s ∷ ss) l i h =
    stored_off (λ (k : ℕ). p (suc k)) ss (set l (p zero) s) i (λ k q e. h (suc k) (omega arith) e)
    ∙ get_or-set_other l (p zero) i s 0 (λ e. h zero (omega arith) (sym e))

-- place k, where none of the later ones is the same
pub stored_on : (p : ℕ → ℕ) (ss l : List ℕ) (k : ℕ) → k < length ss → p k < length l
    → ((j : ℕ) → k < j → j < length ss → p j ≡ p k → ⊥) → get_or (stored p ss l) (p k) 0 ≡ get_or ss k 0
unfolding stored
stored_on p [] l k h r d = absurd (omega arith)
stored_on p (s ∷ ss) l zero h r d =
    stored_off (λ (j : ℕ). p (suc j)) ss (set l (p zero) s) (p zero) (λ j q e. d (suc j) (omega arith) (omega arith) e)
    ∙ get_or-set_same l (p zero) s 0 r
stored_on p (s ∷ ss) l (suc k) h r d =
    stored_on (λ (j : ℕ). p (suc j)) ss (set l (p zero) s) k (omega arith) (omega (arith, length-set l (p zero) s))
    (λ j q t e. d (suc j) (omega arith) (omega arith) e)

-- ---- the rows of a block

-- row r of a block of w columns stands in a row of the plane
row_place : (width w x y r k : ℕ) → k < w → place_at width w x y (r * w + k) ≡ (y + r) * width + x + k
row_place width w x y r k h = rw (digits_div r h, digits_mod r h) (sym (add_assoc ((y + r) * width) x k))

-- the turn's bounds
module _ {x y w h width p n : ℕ} (m : Room x y w h width p n) (r : ℕ) (t : r < h) where
  pub row_inside : (y + r) * width + x + w ≤ p
  row_inside =
      let u : suc (y + r) ≤ y + h = omega arith in
      omega (arith, mul-le-mul_right width u, suc-mul (y + r) width, m.right, m.rows)

  pub row_source : r * w + w ≤ n
  row_source = omega (arith, row_in r h w t, m.count)

-- after r turns the first r rows of the block are in their places
pub record RowsPlaced (x y w width r : ℕ) (block d o : List ℕ) : Type 0 where
  pub long : length o ≡ length d
  pub is : o ≡ stored (place_at width w x y) (take (r * w) block) d

pub placed_none : (x y w width : ℕ) (block d : List ℕ) → RowsPlaced x y w width 0 block d d
unfolding stored
placed_none x y w width block d = record { long = refl; is = rw (zero-mul w) }

pub placed_row : {x y w h width r : ℕ} {block d o ys : List ℕ}
    → RowsPlaced x y w width r block d o
    → Room x y w h width (length d) (length block)
    → r < h
    → ys ≡ take (r * w + w - r * w) (drop (r * w) block)
    → RowsPlaced x y w width (r + 1) block d (put_mid ((y + r) * width + x) ((y + r) * width + x + w - ((y + r) * width + x)) o ys)
placed_row {x} {y} {w} {h} {width} {r} {block} {d} {o} {ys} i m t e =
    record { long = ap length is ∙ stored_length (place_at width w x y) (take ((r + 1) * w) block) d; is = is }
  where
    room : r * w + w ≤ length block
    room = row_source m r t

    next : (r + 1) * w ≡ r * w + w
    next = rw (add-one r) (suc-mul r w)

    part : ys ≡ take w (drop (r * w) block)
    part = let k : r * w + w - r * w ≡ w = omega arith in rw k at e

    count : length ys ≡ w
    count = ap length e ∙ part_length block (r * w) (r * w + w) room ∙ omega arith

    front : length (take (r * w) block) ≡ r * w
    front = length-take-le (r * w) block (omega (arith, room))

    written : put_mid ((y + r) * width + x) ((y + r) * width + x + w - ((y + r) * width + x)) o ys
        ≡ stored (λ (k : ℕ). place_at width w x y (r * w + k)) ys o
    written =
        stored_part (λ (k : ℕ). place_at width w x y (r * w + k)) ((y + r) * width + x) w ys o count (omega (arith, row_inside m r t, i.long))
        (λ k q. row_place width w x y r k (omega (arith, count)))

    is : put_mid ((y + r) * width + x) ((y + r) * width + x + w - ((y + r) * width + x)) o ys
        ≡ stored (place_at width w x y) (take ((r + 1) * w) block) d
    is =
        written
        ∙ ap (λ (l : List ℕ). stored (λ (k : ℕ). place_at width w x y (r * w + k)) ys l) i.is
        ∙ ap (λ (l : List ℕ). stored (λ (k : ℕ). place_at width w x y (r * w + k)) l (stored (place_at width w x y) (take (r * w) block) d)) part
        ∙ sym
        (ap (λ (c : ℕ). stored (place_at width w x y) (take c block) d) next
        ∙ ap (λ (l : List ℕ). stored (place_at width w x y) l d) (take-add (r * w) w block)
        ∙ stored_append (place_at width w x y) (take (r * w) block) (take w (drop (r * w) block)) d
        ∙ ap (λ (c : ℕ). stored (λ (k : ℕ). place_at width w x y (c + k)) (take w (drop (r * w) block)) (stored (place_at width w x y) (take (r * w) block) d)) front)
