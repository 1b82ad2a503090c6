-- What an accepted call's numbers are, and when each number is given.
-- Assumes nothing.
use mathlib.Core.Path.{◌≡◌, refl, sym, ◌∙◌}
use mathlib.Core.Bool.{Bool, true, false, not, ◌&&◌}
use Prim.Native.Nat.{ℕ, ◌*◌, ◌≤◌}
use native.Mathlib.Omega.{arith}
use lib.Dec.{leb, eqb}
use lib.IntN.{ℤ, pos, negsuc}
use lib.Signed.{le_z}
use borrow.Author.Tests.{leb-true, eqb-true, le-leb, eq-eqb, ne_eqb}
use Rattle.laws.proofs.Signed.{le_yes}
use Rattle.laws.proofs.Bounded.{Within}
use Rattle.laws.proofs.Tests.{both, range}
use Rattle.std.specs.Prelude.{Option, Some, None}
use Rattle.combine_predictions.specs.Refusals.{cause, or_else}
use Rattle.forming_predictions.specs.declared.FormingRefusal.{FormingRefusal}
use Rattle.forming_predictions.specs.declared.FormingRefusal.TheVariants.{OutsideDomain, WrongLength}
use Rattle.forming_predictions.specs.inner.Views.{SidesFit}
use Rattle.forming_predictions.specs.Refusals.{forming_number, plane_fits, position_fits, block_side_fits, last_sample, last_block, plane_refusal, position_refusal, sample_refusal, block_refusal}

-- no refusal has number 0, which is acceptance's
pub never_refused_0 : (r : FormingRefusal) → forming_number r ≡ 0 → ⊥
never_refused_0 OutsideDomain e = omega arith
never_refused_0 WrongLength e = omega arith

-- ---- chains: what it says that nothing is refused
pub none_first : {R : Type 0} (m n : Option R) → or_else m n ≡ None → m ≡ None
none_first None n e = refl
none_first (Some r) n e = e

pub none_second : {R : Type 0} (m n : Option R) → or_else m n ≡ None → n ≡ None
none_second None n e = e
none_second (Some r) n e = absurd cc

pub no_cause : {R : Type 0} (b : Bool) (r : R) → cause (not b) r ≡ None → b ≡ true
no_cause true r e = refl
no_cause false r e = absurd cc

-- ---- what is accepted
pub record PlaneRight (w h n : ℕ) : Type 0 where
  pub wide : w ≤ 16384
  pub high : h ≤ 16384
  pub count : n ≡ w * h

fitting_plane_lem : (w h n : ℕ) → plane_fits w h n ≡ true → PlaneRight w h n
unfolding plane_fits
fitting_plane_lem w h n e =
    let a = both (leb w 16384) (leb h 16384 && eqb n (w * h)) e in
    let b = both (leb h 16384) (eqb n (w * h)) a.1 in
    record { wide = leb-true w 16384 a.0; high = leb-true h 16384 b.0; count = eqb-true n (w * h) b.1 }

pub plane_right : (w h n : ℕ) → plane_refusal w h n ≡ None → PlaneRight w h n
plane_right w h n e = fitting_plane_lem w h n (no_cause (plane_fits w h n) OutsideDomain e)

pub plane_none : {w h n : ℕ} → PlaneRight w h n → plane_refusal w h n ≡ None
unfolding plane_fits
plane_none {w} {h} {n} p = rw (le-leb w 16384 p.wide, le-leb h 16384 p.high, eq-eqb n (w * h) p.count)

-- a position that fits is at most 32,782 from 0
position_within : (last : ℕ) (p : ℤ) → last ≤ 32782 → position_fits (pos last) p ≡ true → Within 32782 p
unfolding position_fits
position_within last p l e =
    let t = both (le_z (negsuc 32767) p) (le_z p (pos last)) e in
    let a = le_yes (negsuc 32767) p t.0 in
    let b = le_yes p (pos last) t.1 in
    record { above = omega arith; below = omega arith }

positions_within : (last : ℕ) (x y : ℤ) → last ≤ 32782 → position_refusal (pos last) x y ≡ None → Within 32782 x × Within 32782 y
positions_within last x y l e =
    let t = both (position_fits (pos last) x) (position_fits (pos last) y) (no_cause (position_fits (pos last) x && position_fits (pos last) y) OutsideDomain e) in
    (position_within last x l t.0, position_within last y l t.1)

pub record SampleRight (w h n : ℕ) (x y : ℤ) : Type 0 where
  pub plane : PlaneRight w h n
  pub at_x : Within 32782 x
  pub at_y : Within 32782 y

pub sample_right : (w h n : ℕ) (x y : ℤ) → sample_refusal w h n x y ≡ None → SampleRight w h n x y
unfolding sample_refusal
sample_right w h n x y e =
    let p = positions_within 32782 x y (omega arith) (none_second (plane_refusal w h n) (position_refusal last_sample x y) e) in
    record { plane = plane_right w h n (none_first (plane_refusal w h n) (position_refusal last_sample x y) e); at_x = p.0; at_y = p.1 }

pub side_range : (n : ℕ) → block_side_fits n ≡ true → (1 ≤ n) × (n ≤ 16)
unfolding block_side_fits
side_range n e = range 1 16 n e

pub record BlockRight (w h n : ℕ) (x y : ℤ) (bw bh o : ℕ) : Type 0 where
  pub plane : PlaneRight w h n
  pub at_x : Within 32782 x
  pub at_y : Within 32782 y
  pub sides : SidesFit bw bh
  pub room : o ≡ bw * bh

pub block_right : (w h n : ℕ) (x y : ℤ) (bw bh o : ℕ) → block_refusal w h n x y bw bh o ≡ None → BlockRight w h n x y bw bh o
unfolding block_refusal
block_right w h n x y bw bh o e =
    let c1 = plane_refusal w h n in
    let c2 = cause (not (block_side_fits bw && block_side_fits bh)) OutsideDomain in
    let c3 = position_refusal last_block x y in
    let c4 = cause (not (eqb o (bw * bh))) WrongLength in
    let t1 = none_second c1 (or_else c2 (or_else c3 c4)) e in
    let t2 = none_second c2 (or_else c3 c4) t1 in
    let p = positions_within 32767 x y (omega arith) (none_first c3 c4 t2) in
    let s = both (block_side_fits bw) (block_side_fits bh) (no_cause (block_side_fits bw && block_side_fits bh) OutsideDomain (none_first c2 (or_else c3 c4) t1)) in
    record {
      plane = plane_right w h n (none_first c1 (or_else c2 (or_else c3 c4)) e);
      at_x = p.0;
      at_y = p.1;
      sides =
          record {
            some = (side_range bw s.0).0;
            wide = (side_range bw s.0).1;
            tall = (side_range bh s.1).0;
            high = (side_range bh s.1).1;
          };
      room = eqb-true o (bw * bh) (no_cause (eqb o (bw * bh)) WrongLength (none_second c3 c4 t2));
    }

-- ---- several tests for one reason
-- a block's 14, and what follows it
domain_then : {R : Type 0} (a b c : Bool) (r : R) (n : Option R)
    → or_else (cause (not (a && (b && c))) r) n ≡ or_else (cause (not a) r) (or_else (cause (not b) r) (or_else (cause (not c) r) n))
domain_then true true true r n = refl
domain_then true true false r n = refl
domain_then true false c r n = refl
domain_then false b c r n = refl

pub block_cause : (w h n : ℕ) (x y : ℤ) (bw bh o : ℕ)
    → or_else (cause (not (plane_fits w h n && ((block_side_fits bw && block_side_fits bh) && (position_fits last_block x && position_fits last_block y)))) OutsideDomain)
    (cause (not (eqb o (bw * bh))) WrongLength)
    ≡ block_refusal w h n x y bw bh o
unfolding block_refusal
block_cause w h n x y bw bh o =
    domain_then (plane_fits w h n) (block_side_fits bw && block_side_fits bh) (position_fits last_block x && position_fits last_block y) OutsideDomain (cause (not (eqb o (bw * bh))) WrongLength)

one_cause : {R : Type 0} (a b : Bool) (r : R) → cause (not (a && b)) r ≡ or_else (cause (not a) r) (cause (not b) r)
one_cause true b r = refl
one_cause false b r = refl

pub sample_cause : (w h n : ℕ) (x y : ℤ)
    → cause (not (plane_fits w h n && (position_fits last_sample x && position_fits last_sample y))) OutsideDomain ≡ sample_refusal w h n x y
unfolding sample_refusal
sample_cause w h n x y = one_cause (plane_fits w h n) (position_fits last_sample x && position_fits last_sample y) OutsideDomain

-- the sides of a block that fits
pub sides_fit : (p r : Bool) (bw bh : ℕ) → cause (not (p && ((block_side_fits bw && block_side_fits bh) && r))) OutsideDomain ≡ None → (bw ≤ 16) × (bh ≤ 16)
sides_fit p r bw bh e =
    let a = both p ((block_side_fits bw && block_side_fits bh) && r) (no_cause (p && ((block_side_fits bw && block_side_fits bh) && r)) OutsideDomain e) in
    let b = both (block_side_fits bw && block_side_fits bh) r a.1 in
    let c = both (block_side_fits bw) (block_side_fits bh) b.0 in
    ((side_range bw c.0).1, (side_range bh c.1).1)

-- ---- a block: when each number is given
module _ (w h n : ℕ) (x y : ℤ) (bw bh o : ℕ) where
  abbrev in_domain : Bool
  in_domain = plane_fits w h n && ((block_side_fits bw && block_side_fits bh) && (position_fits last_block x && position_fits last_block y))

  pub refused_14 : in_domain ≡ false → block_refusal w h n x y bw bh o ≡ Some OutsideDomain
  refused_14 e = sym (block_cause w h n x y bw bh o) ∙ rw e

  pub refused_18 : in_domain ≡ true → (o ≡ bw * bh → ⊥) → block_refusal w h n x y bw bh o ≡ Some WrongLength
  refused_18 e f = sym (block_cause w h n x y bw bh o) ∙ rw (e, ne_eqb o (bw * bh) f)

  pub accepted : in_domain ≡ true → o ≡ bw * bh → block_refusal w h n x y bw bh o ≡ None
  accepted e f = sym (block_cause w h n x y bw bh o) ∙ rw (e, eq-eqb o (bw * bh) f)
