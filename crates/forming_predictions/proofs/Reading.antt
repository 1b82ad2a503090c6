-- A signed argument stands in a goal as `to_z w32 (of_z w32 z)`. These laws take that off what calls ensure of lines and places.
-- Assumes nothing.
use Rattle.std.proofs.Common.{arith, ap, ◌≡◌, sym, ◌∙◌, Bool, true, ℕ, ◌+◌, ◌≤◌, ◌<◌, ℤ, pos, ◌+ℤ◌}
use lib.IntN.{+ℤ_assoc}
use lib.Signed.{mag}
use mir.Syntax.{w32}
use mir.Val.{SFits, of_z, to_z}
use mir.Facts.{to_z-of_z}
use Rattle.laws.proofs.Bits.{back}
use Rattle.laws.proofs.Signed.{zp, zn}
use Rattle.std.specs.Prelude.{None, Result, Ok}
use Rattle.combine_predictions.specs.Refusals.{answered}
use Rattle.combine_predictions.proofs.Answers.{is_accepted}
use Rattle.forming_predictions.specs.declared.FormingRefusal.{FormingRefusal}
use Rattle.forming_predictions.specs.declared.ReferencePlane.{ReferencePlane}
use Rattle.forming_predictions.specs.Splitting.{floor_half, half_flag}
use Rattle.forming_predictions.specs.Lines.{clamp_to}
use Rattle.forming_predictions.specs.Planes.{count_of, sample_refused, block_refused}
use Rattle.forming_predictions.specs.inner.Views.{bit_of, inside_of}
use Rattle.forming_predictions.proofs.Lines.{clamp_lt}
use Rattle.forming_predictions.proofs.Blocks.{inside_yes}
use Rattle.forming_predictions.proofs.Refusals.{BlockRight, block_right}

-- a clamped coordinate
pub at_line : (count : ℕ) {r : ℕ} {y : ℤ} → SFits w32 y → r ≡ clamp_to count (to_z w32 (of_z w32 y)) → r ≡ clamp_to count y
at_line count f e = rw (to_z-of_z f) at e

-- and that it is inside
pub line_lt : {count r : ℕ} {y : ℤ} → 0 < count → SFits w32 y → r ≡ clamp_to count (to_z w32 (of_z w32 y)) → r < count
line_lt {count} {r} {y} p f e = omega (arith, at_line count f e, clamp_lt count y p)

-- a coordinate that was moved on, and once more
pub at_further : {s z : ℤ} → mag s < 2147483648 → s ≡ z → to_z w32 (of_z w32 s) ≡ z
at_further {s} m e = back w32 s m ∙ e

pub at_twice : (k n : ℕ) {s : ℤ} (z : ℤ) → mag s < 2147483648 → s ≡ z +ℤ pos (k + n) → to_z w32 (of_z w32 s) ≡ z +ℤ pos k +ℤ pos n
at_twice k n z m e = at_further m e ∙ sym (+ℤ_assoc z (pos k) (pos n))

-- a position that a vector moved, and the step that its half asks for
pub at_moved : {m x v : ℤ} → SFits w32 x → SFits w32 v → m ≡ to_z w32 (of_z w32 x) +ℤ floor_half (to_z w32 (of_z w32 v)) → m ≡ x +ℤ floor_half v
at_moved f g e = rw (to_z-of_z f, to_z-of_z g) at e

pub at_half : {b : ℕ} {v : ℤ} → SFits w32 v → b ≡ bit_of (half_flag (to_z w32 (of_z w32 v))) → b ≡ bit_of (half_flag v)
at_half f e = rw (to_z-of_z f) at e

-- what a test that a block lies inside says of a position
pub inside_at : (n limit : ℕ) {b : Bool} {z : ℤ} → SFits w32 z → b ≡ inside_of (to_z w32 (of_z w32 z)) n limit → b ≡ true → (zn z ≡ 0) × (zp z + n ≤ limit)
inside_at n limit {z = z} f e t = inside_yes z n limit (sym (rw (to_z-of_z f) at e) ∙ t)

-- ---- what the tests of a call say, where they refuse nothing
module _ {p q : ReferencePlane} (e : p ≡ q) where
  pub same_count : count_of p ≡ count_of q
  same_count = ap (λ (r : ReferencePlane). count_of r) e

  module _ {x y : ℤ} (f : SFits w32 x) (g : SFits w32 y) where
    pub sample_accepted : {v : Unit {0}}
        → ◌≡◌ {A = Result Unit FormingRefusal} (Ok v) (answered (sample_refused p (to_z w32 (of_z w32 x)) (to_z w32 (of_z w32 y))) tt)
        → sample_refused q x y ≡ None
    sample_accepted d = is_accepted _ _ (rw (e, to_z-of_z f, to_z-of_z g) at d)

    pub block_accepted : {bw bh o : ℕ} {v : Unit {0}}
        → ◌≡◌ {A = Result Unit FormingRefusal} (Ok v) (answered (block_refused p (to_z w32 (of_z w32 x)) (to_z w32 (of_z w32 y)) bw bh o) tt)
        → BlockRight q.sides.width q.sides.height (count_of q) x y bw bh o
    block_accepted {bw} {bh} {o} d = block_right q.sides.width q.sides.height (count_of q) x y bw bh o (is_accepted _ _ (rw (e, to_z-of_z f, to_z-of_z g) at d))
