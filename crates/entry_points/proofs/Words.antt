-- Two's complement in 32 bits: a word and its bytes can be read back. And buffers that are written part by part.
-- Assumes nothing.
use mathlib.Core.Path.{◌≡◌, refl, sym, ap, ◌∙◌}
use mathlib.Core.List.{List, [], ◌∷◌, ◌++◌}
use Rattle.std.specs.List.{flat_map}
use Prim.Native.Nat.{ℕ, suc, ◌+◌, ◌-◌, ◌*◌, ◌/◌, ◌%◌, ◌<◌}
use native.Mathlib.Nat.{div-add-mod', mod-eq_of_lt}
use native.Mathlib.Omega.{arith}
use lib.IntN.{ℤ, pos, negsuc}
use lib.ListN.{length, get_or, set, take, drop}
use lib.Seq.{drop-drop}
use lib.Pow.{shr-shr}
use mir.Syntax.{w32}
use mir.Val.{SFits, of_z}
use mir.Facts.{to_z-of_z, Fits-of_z}
use borrow.Rule.Slice.PartMut.{put_mid}
use Rattle.entry_points.specs.Layout.{word_of, signed_of, bytes_of, number_at, predictors_of, numbers_bytes}
use Rattle.pmv.specs.Predictors.{pmv_index, pair_of}
use Rattle.pmv.specs.declared.kinds.Component.TheVariants.{Horizontal}
use Rattle.pmv.specs.declared.kinds.VectorIndex.{VectorIndex}
use Rattle.pmv.specs.declared.kinds.VectorIndex.TheVariants.{First, Second}
use Rattle.pmv.specs.declared.kinds.Direction.{Direction}
use Rattle.pmv.specs.declared.kinds.Direction.TheVariants.{Forward, Backward}
use Rattle.pmv.specs.declared.predictors.PredictorPair.{PredictorPair}

-- the definitions are the machine's
pub word_is : (z : ℤ) → of_z w32 z ≡ word_of z
word_is (pos n) = refl
word_is (negsuc n) = refl

pub word_fits : (z : ℤ) → SFits w32 z → word_of z < 4294967296
word_fits z f = rw (← word_is z) (Fits-of_z f).fits

pub number_back : (z : ℤ) → SFits w32 z → signed_of (word_of z) ≡ z
number_back z f = rw (← word_is z) (to_z-of_z f)

-- ---- bytes

-- a word out of its bytes
pub word_back : (n : ℕ) → n < 4294967296
    → n % 256 + n / 256 % 256 * 256 + n / 65536 % 256 * 65536 + n / 16777216 % 256 * 16777216 ≡ n
word_back n h =
    let q1 = div-add-mod' n 256 in
    let q2 : n / 65536 * 256 + n / 256 % 256 ≡ n / 256 = ap (λ (q : ℕ). q * 256 + n / 256 % 256) (sym (shr-shr n 8 8)) ∙ div-add-mod' (n / 256) 256 in
    let q3 : n / 16777216 * 256 + n / 65536 % 256 ≡ n / 65536 = ap (λ (q : ℕ). q * 256 + n / 65536 % 256) (sym (shr-shr n 16 8)) ∙ div-add-mod' (n / 65536) 256 in
    let t : n / 16777216 < 256 = omega arith in
    let q4 = mod-eq_of_lt t in
    omega arith

-- four stores into four bytes
pub four_set : (l : List ℕ) (a b c d : ℕ) → length l ≡ 4 → set (set (set (set l 0 a) 1 b) 2 c) 3 d ≡ a ∷ b ∷ c ∷ d ∷ []
four_set [] a b c d e = absurd (omega arith)
four_set (x ∷ []) a b c d e = absurd (omega arith)
four_set (x ∷ y ∷ []) a b c d e = absurd (omega arith)
four_set (x ∷ y ∷ z ∷ []) a b c d e = absurd (omega arith)
four_set (x ∷ y ∷ z ∷ w ∷ []) a b c d e = refl
four_set (x ∷ y ∷ z ∷ w ∷ v ∷ l) a b c d e = absurd (omega arith)

-- ---- the two predictors of a vector
pub pair_at : (l : List ℕ) (r : VectorIndex) (s : Direction) (k : ℕ) (h v : ℤ)
    → k ≡ pmv_index r s Horizontal
    → h ≡ number_at l (4 * k)
    → v ≡ number_at l (4 * k + 4)
    → ◌≡◌ {A = PredictorPair} (record { horizontal = h; vertical = v }) (pair_of (predictors_of l) r s)
unfolding predictors_of
pair_at l First Forward k h v e p q = λ i. record { horizontal = (p ∙ ap (λ (j : ℕ). number_at l (4 * j)) e) i; vertical = (q ∙ ap (λ (j : ℕ). number_at l (4 * j + 4)) e) i }
pair_at l First Backward k h v e p q = λ i. record { horizontal = (p ∙ ap (λ (j : ℕ). number_at l (4 * j)) e) i; vertical = (q ∙ ap (λ (j : ℕ). number_at l (4 * j + 4)) e) i }
pair_at l Second Forward k h v e p q = λ i. record { horizontal = (p ∙ ap (λ (j : ℕ). number_at l (4 * j)) e) i; vertical = (q ∙ ap (λ (j : ℕ). number_at l (4 * j + 4)) e) i }
pair_at l Second Backward k h v e p q = λ i. record { horizontal = (p ∙ ap (λ (j : ℕ). number_at l (4 * j)) e) i; vertical = (q ∙ ap (λ (j : ℕ). number_at l (4 * j + 4)) e) i }

-- eight bytes written to &mut l[k..k + 8]
pub replaced_is : (k : ℕ) (l ys : List ℕ) → put_mid k (k + 8 - k) l ys ≡ take k l ++ (ys ++ drop (k + 8) l)
replaced_is k l ys = let e : k + 8 - k ≡ 8 = omega arith in rw (e, drop-drop 8 k l)

-- ---- eight numbers

pub data Eight : List ℤ → Type 0 where
  eight : (a b c d e f g h : ℤ) → Eight (a ∷ b ∷ c ∷ d ∷ e ∷ f ∷ g ∷ h ∷ [])

pub eight_of : (l : List ℤ) → length l ≡ 8 → Eight l
eight_of (a ∷ b ∷ c ∷ d ∷ e ∷ f ∷ g ∷ h ∷ []) n = eight a b c d e f g h
eight_of (a ∷ b ∷ c ∷ d ∷ e ∷ f ∷ g ∷ h ∷ i ∷ l) n = absurd (omega arith)
eight_of [] n = absurd (omega arith)
eight_of (a ∷ []) n = absurd (omega arith)
eight_of (a ∷ b ∷ []) n = absurd (omega arith)
eight_of (a ∷ b ∷ c ∷ []) n = absurd (omega arith)
eight_of (a ∷ b ∷ c ∷ d ∷ []) n = absurd (omega arith)
eight_of (a ∷ b ∷ c ∷ d ∷ e ∷ []) n = absurd (omega arith)
eight_of (a ∷ b ∷ c ∷ d ∷ e ∷ f ∷ []) n = absurd (omega arith)
eight_of (a ∷ b ∷ c ∷ d ∷ e ∷ f ∷ g ∷ []) n = absurd (omega arith)

-- the bytes of each, one after the other
pub words_bytes : (l : List ℤ) (ws : List (List ℕ)) → length ws ≡ length l → ((i : ℕ) → i < length l → get_or ws i [] ≡ bytes_of (get_or l i (pos 0))) → flat_map (λ w. w) ws ≡ numbers_bytes l
unfolding numbers_bytes
words_bytes [] [] n f = refl
words_bytes (z ∷ l) (w ∷ ws) n f = λ i. f 0 (omega arith) i ++ words_bytes l ws (omega arith) (λ k b. f (suc k) (omega arith)) i
words_bytes [] (w ∷ ws) n f = absurd (omega arith)
words_bytes (z ∷ l) [] n f = absurd (omega arith)
