-- Laws of forming: that one formula serves the four cases, and that a block may be formed from where its vector leads.
-- Assumes nothing.
use mathlib.Core.Path.{◌≡◌, refl, sym, ap, ◌∙◌}
use mathlib.Core.Bool.{Bool, true, false}
use mathlib.Core.List.{List}
use Prim.Native.Nat.{ℕ, zero, suc, ◌*◌, ◌/◌, ◌%◌}
use native.Mathlib.Omega.{arith}
use lib.IntN.{ℤ, pos, ◌+ℤ◌}
use lib.ListN.{replicate}
use mir.Syntax.{w32}
use mir.Val.{SFits}
use Rattle.laws.proofs.Signed.{eq_z, add_z}
use Rattle.laws.proofs.Bounded.{Within, within_add, within_fits, fits_within}
use Rattle.laws.specs.Tabulate.{tabulate}
use Rattle.laws.proofs.Tabulated.{tab_ext}
use Rattle.forming_predictions.specs.Splitting.{floor_half, half_flag}
use Rattle.forming_predictions.specs.Lines.{Lines, sample_at}
use Rattle.forming_predictions.specs.Means.{Means, rounded}
use Rattle.forming_predictions.specs.Forming.{combined, formed, block_of}
use Rattle.forming_predictions.specs.inner.Views.{spread, bit_of, Reach}
use Rattle.forming_predictions.proofs.Splitting.{floor_within}
use Rattle.forming_predictions.proofs.Views.{no_sample}
use Rattle.forming_predictions.proofs.RowMeans.{mean4_same, mean4_pair, mean4_twice}
use Rattle.forming_predictions.proofs.Blocks.{plus_none, block_ext}

-- ---- two readings that agree form the same, in every arithmetic
combined_ext : (m : Means) (f g : ℤ → ℤ → ℕ) (x y : ℤ) (p q : Bool) → ((a b : ℤ) → f a b ≡ g a b) → combined m f x y p q ≡ combined m g x y p q
unfolding combined
combined_ext m f g x y false false e = ap m.one (e x y)
combined_ext m f g x y false true e = rw (e x y, e x (y +ℤ pos 1), combined)
combined_ext m f g x y true false e = rw (e x y, e (x +ℤ pos 1) y, combined)
combined_ext m f g x y true true e = rw (e x y, e (x +ℤ pos 1) y, e x (y +ℤ pos 1), e (x +ℤ pos 1) (y +ℤ pos 1), combined)

pub formed_ext : (m : Means) (f g : ℤ → ℤ → ℕ) (x y h v : ℤ) → ((a b : ℤ) → f a b ≡ g a b) → formed m f x y h v ≡ formed m g x y h v
unfolding formed
formed_ext m f g x y h v e = combined_ext m f g (x +ℤ floor_half h) (y +ℤ floor_half v) (half_flag h) (half_flag v) e

-- ---- the four cases as one formula
combined_spread : (read : ℤ → ℤ → ℕ) (x y : ℤ) (p q : Bool) → combined rounded read x y p q ≡ spread read x y (bit_of p) (bit_of q)
unfolding combined spread
combined_spread read x y false false = rw (plus_none x, plus_none y) (sym (mean4_same (read x y)))
combined_spread read x y false true = rw (plus_none x) (sym (mean4_twice (read x y) (read x (y +ℤ pos 1))))
combined_spread read x y true false = rw (plus_none y) (sym (mean4_pair (read x y) (read (x +ℤ pos 1) y)))
combined_spread read x y true true = refl

pub formed_spread : (read : ℤ → ℤ → ℕ) (x y h v : ℤ)
    → formed rounded read x y h v ≡ spread read (x +ℤ floor_half h) (y +ℤ floor_half v) (bit_of (half_flag h)) (bit_of (half_flag v))
unfolding formed
formed_spread read x y h v = combined_spread read (x +ℤ floor_half h) (y +ℤ floor_half v) (half_flag h) (half_flag v)

-- a step and a move change places
swap : (x f : ℤ) (c : ℕ) → x +ℤ f +ℤ pos c ≡ x +ℤ pos c +ℤ f
swap x f c =
    eq_z (x +ℤ f +ℤ pos c) (x +ℤ pos c +ℤ f)
    (omega (arith, add_z x (pos c), add_z (x +ℤ pos c) f, add_z x f, add_z (x +ℤ f) (pos c)))

-- so that a block is formed from where its vector leads
pub moved_block : (read : ℤ → ℤ → ℕ) (bw bh : ℕ) (x y h v : ℤ)
    → block_of bw bh (λ (a b : ℤ). spread read a b (bit_of (half_flag h)) (bit_of (half_flag v))) (x +ℤ floor_half h) (y +ℤ floor_half v)
    ≡ block_of bw bh (λ (a b : ℤ). formed rounded read a b h v) x y
unfolding block_of
moved_block read bw bh x y h v =
    tab_ext (bw * bh) _ _
    (λ k p. rw (swap x (floor_half h) (k % bw), swap y (floor_half v) (k / bw))
    (sym (formed_spread read (x +ℤ pos (k % bw)) (y +ℤ pos (k / bw)) h v)))

-- ---- from a view to the lines that it reads
module _ (read sample : ℤ → ℤ → ℕ) (e : (a b : ℤ) → read a b ≡ sample a b) where
  pub view_formed : (x y h v : ℤ)
      → spread read (x +ℤ floor_half h) (y +ℤ floor_half v) (bit_of (half_flag h)) (bit_of (half_flag v)) ≡ formed rounded sample x y h v
  view_formed x y h v = sym (formed_spread read x y h v) ∙ formed_ext rounded read sample x y h v e

  pub view_block : (bw bh : ℕ) (x y h v : ℤ)
      → block_of bw bh (λ (a b : ℤ). spread read a b (bit_of (half_flag h)) (bit_of (half_flag v))) (x +ℤ floor_half h) (y +ℤ floor_half v)
      ≡ block_of bw bh (λ (a b : ℤ). formed rounded sample a b h v) x y
  view_block bw bh x y h v =
      moved_block read bw bh x y h v ∙ block_ext bw bh _ _ x y (λ a b. formed_ext rounded read sample a b h v e)

-- a plane without: every mean of zeros is 0
zero_combined : (x y : ℤ) (p q : Bool) → combined rounded (λ (a b : ℤ). 0) x y p q ≡ 0
unfolding combined
zero_combined x y false false = refl
zero_combined x y false true = refl
zero_combined x y true false = refl
zero_combined x y true true = refl

zero_formed : (x y h v : ℤ) → formed rounded (λ (a b : ℤ). 0) x y h v ≡ 0
unfolding formed
zero_formed x y h v = zero_combined (x +ℤ floor_half h) (y +ℤ floor_half v) (half_flag h) (half_flag v)

pub empty_formed : (l : Lines) (w height : ℕ) (s : List ℕ) (x y h v : ℤ) → w * height ≡ 0
    → formed rounded (sample_at l w height s) x y h v ≡ 0
empty_formed l w height s x y h v e =
    formed_ext rounded _ (λ (a b : ℤ). 0) x y h v (λ a b. no_sample l w height s a b e) ∙ zero_formed x y h v

zeros : (n : ℕ) (f : ℕ → ℕ) → ((k : ℕ) → f k ≡ 0) → replicate n 0 ≡ tabulate n f
unfolding tabulate
zeros zero f e = refl
zeros (suc n) f e = rw (e 0, zeros n (λ (k : ℕ). f (suc k)) (λ k. e (suc k)))

pub empty_block : (l : Lines) (w height : ℕ) (s : List ℕ) (n bw bh : ℕ) (x y h v : ℤ) → w * height ≡ 0 → n ≡ bw * bh
    → replicate n 0 ≡ block_of bw bh (λ (a b : ℤ). formed rounded (sample_at l w height s) a b h v) x y
unfolding block_of
empty_block l w height s n bw bh x y h v e m =
    rw m (zeros (bw * bh) _ (λ k. empty_formed l w height s (x +ℤ pos (k % bw)) (y +ℤ pos (k / bw)) h v e))

-- ---- a position moved by a vector's whole part can be stepped on from
pub moved_reach : {x v : ℤ} → Within 32782 x → SFits w32 v → Reach (x +ℤ floor_half v)
moved_reach p f =
    let m = within_add p (floor_within (fits_within f)) in
    let seventeen : Within 17 (pos 17) = record { above = omega arith; below = omega arith } in
    record {
      here = within_fits m (omega arith);
      last = within_fits (within_add m seventeen) (omega arith);
    }
