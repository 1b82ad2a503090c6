-- Laws of views: what lies in a plane, and that the view of a frame or field reads as docs/SCOPE.md says.
-- Assumes nothing.
use mathlib.Core.Path.{◌≡◌, refl, sym, ◌∙◌}
use mathlib.Core.List.{List, [], ◌∷◌}
use Prim.Native.Nat.{ℕ, zero, suc, ◌+◌, ◌*◌, ◌<◌}
use native.Mathlib.Nat.{zero-mul, mul-zero, mul_comm, mul-le-mul_right, suc-mul}
use native.Mathlib.Omega.{arith}
use lib.IntN.{ℤ, pos}
use lib.ListN.{length, get_or}
use borrow.Author.Tests.{ne_eqb}
use Rattle.forming_predictions.specs.Lines.{Lines, frame, field, parity_row, field_lines, clamp_to, row_of, sample_at}
use Rattle.forming_predictions.specs.inner.Views.{line_start, view_read, ViewFits, ReadsAs}
use Rattle.forming_predictions.specs.declared.FieldParity.{FieldParity}
use Rattle.forming_predictions.specs.declared.FieldParity.TheVariants.{Top, Bottom}
use Rattle.forming_predictions.proofs.Refusals.{PlaneRight}
use Rattle.forming_predictions.proofs.Lines.{clamp_is, clamp_lt, top_lines, bottom_lines, frame_row, field_row, empty_field}

-- sides of a plane that has samples
pub sides_some : (w h : ℕ) → 0 < w * h → (0 < w) × (0 < h)
sides_some zero h p = absurd (omega (arith, zero-mul h))
sides_some (suc w) zero p = absurd (omega (arith, mul-zero (suc w)))
sides_some (suc w) (suc h) p = (omega arith, omega arith)

-- the place that is read lies in the samples
pub place_lt : {s : List ℕ} {w first step count : ℕ} (x y : ℤ) → ViewFits s w first step count
    → line_start first step w (clamp_to count y) + clamp_to w x < length s
place_lt {s} {w} {first} {step} {count} x y f =
    omega (arith, f.room (clamp_to count y) (clamp_lt count y f.lines), clamp_lt w x f.some)

-- a view without samples reads 0
nothing : (s : List ℕ) (k : ℕ) → length s ≡ 0 → get_or s k 0 ≡ 0
nothing [] k e = refl
nothing (a ∷ s) k e = absurd (omega arith)

pub empty_read : (s : List ℕ) (w first step count : ℕ) (x y : ℤ) → length s ≡ 0 → view_read s w first step count x y ≡ 0
unfolding view_read
empty_read s w first step count x y e = nothing s _ e

-- a plane that has columns and rows is read through a view of its lines
pub sides_read : {l : Lines} {h first step count : ℕ} → ReadsAs l h first step count → (w : ℕ) (s : List ℕ) → 0 < w → 0 < h → (x y : ℤ)
    → view_read s w first step count x y ≡ sample_at l w h s x y
unfolding view_read sample_at
sides_read {l} {h} f w s p q x y = rw (ne_eqb w 0 (λ e. omega (arith, p)), ne_eqb h 0 (λ e. omega (arith, q)), f.same y)

-- the rows of a plane that has samples are a view
module _ {l : Lines} {h first step count : ℕ} (f : ReadsAs l h first step count) {w : ℕ} (s : List ℕ) (p : PlaneRight w h (length s)) (e : 0 < length s) where
  pub rows_view : ViewFits s w first step count
  rows_view =
      let sides = sides_some w h (omega (arith, p.count)) in
      record {
        some = sides.0;
        wide = p.wide;
        low = f.low;
        apart = f.apart;
        lines = f.some sides.1;
        high = omega (arith, f.few, p.high);
        room =
            λ j i.
            omega
            (arith, mul-le-mul_right w (f.inside j i), suc-mul (first + step * j) w, mul_comm w h, p.count);
      }

  -- and it reads what the lines read
  pub rows_read : (x y : ℤ) → view_read s w first step count x y ≡ sample_at l w h s x y
  rows_read x y =
      let sides = sides_some w h (omega (arith, p.count)) in
      sides_read f w s sides.0 sides.1 x y

-- a plane without samples samples 0
pub no_sample : (l : Lines) (w h : ℕ) (s : List ℕ) (x y : ℤ) → w * h ≡ 0 → sample_at l w h s x y ≡ 0
unfolding sample_at
no_sample l zero h s x y e = refl
no_sample l (suc w) zero s x y e = rw (ne_eqb (suc w) 0 (λ e. omega arith))
no_sample l (suc w) (suc h) s x y e = absurd (omega (arith, e, mul_comm (suc w) (suc h)))

-- so that a plane of as many samples as its sides say, none among them, is read through a view of its lines
pub plane_read : {l : Lines} {first step count : ℕ} (w h : ℕ) → ReadsAs l h first step count → (s : List ℕ) → length s ≡ w * h → (x y : ℤ)
    → view_read s w first step count x y ≡ sample_at l w h s x y
plane_read {l} {first} {step} {count} zero h f s e x y =
    empty_read s zero first step count x y (e ∙ zero-mul h) ∙ sym (no_sample l zero h s x y (zero-mul h))
plane_read {l} {first} {step} {count} (suc w) zero f s e x y =
    empty_read s (suc w) first step count x y (e ∙ mul-zero (suc w)) ∙ sym (no_sample l (suc w) zero s x y (mul-zero (suc w)))
plane_read (suc w) (suc h) f s e x y = sides_read f (suc w) s (omega arith) (omega arith) x y

-- ---- the three views of a plane of h rows
pub frame_reads : (h : ℕ) → ReadsAs frame h 0 1 h
frame_reads h =
    record {
      low = omega arith;
      apart = omega arith;
      few = omega arith;
      some = λ p. p;
      inside = λ j i. omega arith;
      same = λ y. omega (arith, frame_row h y);
    }

pub top_reads : (h n : ℕ) → n ≡ field_lines Top h → ReadsAs (field Top) h 0 2 n
top_reads h n e =
    let lines = top_lines h in
    record {
      low = omega arith;
      apart = omega arith;
      few = omega arith;
      some = λ q. omega arith;
      inside = λ j i. omega arith;
      same = λ y. row h n y e;
    }
  where
    row : (h n : ℕ) (y : ℤ) → n ≡ field_lines Top h → 0 + 2 * clamp_to n y ≡ row_of (field Top) h y
    row h zero y e =
        omega (arith, top_lines h, empty_field Top h y (sym e), clamp_is h (pos 0), clamp_is 0 y)
    row h (suc n) y e = rw e (omega (arith, field_row Top h y (omega arith)))

-- a field without lines is one of a plane of at most one row: that row is read, if there is one
pub no_field_reads : (p : FieldParity) (h n : ℕ) → n ≡ field_lines p h → n ≡ 0 → ReadsAs (field p) h 0 1 h
no_field_reads p h n e z =
    record {
      low = omega arith;
      apart = omega arith;
      few = omega arith;
      some = λ q. q;
      inside = λ j i. omega arith;
      same = same p e;
    }
  where
    same : (p : FieldParity) → n ≡ field_lines p h → (y : ℤ) → 0 + 1 * clamp_to h y ≡ row_of (field p) h y
    same Top e y = omega (arith, top_lines h, empty_field Top h y (sym e ∙ z), clamp_is h (pos 0), clamp_is h y)
    same Bottom e y = omega (arith, bottom_lines h, empty_field Bottom h y (sym e ∙ z), clamp_is h (pos 1), clamp_is h y)

pub bottom_reads : (h n : ℕ) → n ≡ field_lines Bottom h → (n ≡ 0 → ⊥) → ReadsAs (field Bottom) h 1 2 n
bottom_reads h n e p =
    let lines = bottom_lines h in
    let some : 0 < n = omega (arith, p) in
    record {
      low = omega arith;
      apart = omega arith;
      few = omega arith;
      some = λ q. omega arith;
      inside = λ j i. omega arith;
      same = λ y. rw e (omega (arith, field_row Bottom h y (omega arith)));
    }

pub field_reads : (p : FieldParity) (h n : ℕ) → n ≡ field_lines p h → (n ≡ 0 → ⊥) → ReadsAs (field p) h (parity_row p) 2 n
field_reads Top h n e q = top_reads h n e
field_reads Bottom h n e q = bottom_reads h n e q
