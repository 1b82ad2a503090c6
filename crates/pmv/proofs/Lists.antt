-- Lists of whole numbers, element by element: for a record of predictors that is written out.
-- Assumes nothing.
use mathlib.Core.Path.{◌≡◌, refl, sym, ap, ◌∙◌}
use mathlib.Core.Bool.{Bool, true, false, cond}
use mathlib.Core.List.{List, [], ◌∷◌}
use Prim.Native.Nat.{ℕ, zero, suc}
use native.Mathlib.Omega.{arith}
use borrow.Author.Tests.{eqb-true, eqb-false, eq-eqb, ne_eqb}
use lib.Dec.{eqb}
use lib.IntN.{ℤ, pos}
use lib.ListN.{length, get_or, set}

-- f 0, f 1, .., f (n - 1)
abbrev pub listed : ℕ → (ℕ → ℤ) → List ℤ
listed zero f = []
listed (suc n) f = f zero ∷ listed n (λ (k : ℕ). f (suc k))

listed_ext : (n : ℕ) (f g : ℕ → ℤ) → ((i : ℕ) → f i ≡ g i) → listed n f ≡ listed n g
listed_ext zero f g h = refl
listed_ext (suc n) f g h = rw (h zero, listed_ext n (λ (k : ℕ). f (suc k)) (λ (k : ℕ). g (suc k)) (λ i. h (suc i)))

listed_self : (l : List ℤ) → listed (length l) (λ (k : ℕ). get_or l k (pos 0)) ≡ l
listed_self [] = refl
listed_self (x ∷ l) = ap (λ (t : List ℤ). x ∷ t) (listed_self l)

same_test : (k i : ℕ) → eqb (suc k) (suc i) ≡ eqb k i
same_test k i = at (eqb k i) refl
  where
    at : (t : Bool) → eqb k i ≡ t → eqb (suc k) (suc i) ≡ t
    at true e = eq-eqb (suc k) (suc i) (ap suc (eqb-true k i e))
    at false e = ne_eqb (suc k) (suc i) (λ q. eqb-false k i e (omega arith))

-- an element that is set is chosen by its place
pub set_is : (l : List ℤ) (k : ℕ) (v : ℤ) → listed (length l) (λ (i : ℕ). cond (eqb k i) v (get_or l i (pos 0))) ≡ set l k v
set_is [] k v = refl
set_is (x ∷ l) zero v =
    ap (λ (t : List ℤ). v ∷ t)
    (listed_ext (length l) _ _ (λ i. rw (ne_eqb 0 (suc i) (λ q. absurd (omega arith)))) ∙ listed_self l)
set_is (x ∷ l) (suc k) v =
    rw (ne_eqb (suc k) 0 (λ q. absurd (omega arith)))
    (ap (λ (t : List ℤ). x ∷ t) (listed_ext (length l) _ _ (λ i. rw (same_test k i)) ∙ set_is l k v))

pub listed_eight : (l : List ℤ) → length l ≡ 8 → listed 8 (λ (k : ℕ). get_or l k (pos 0)) ≡ l
listed_eight l n = ap (λ (m : ℕ). listed m (λ (k : ℕ). get_or l k (pos 0))) (sym n) ∙ listed_self l

-- eight that are written out
pub eight_set : (l : List ℤ) (k : ℕ) (v : ℤ) {a b c d e f g h : ℤ} → length l ≡ 8
    → a ≡ cond (eqb k 0) v (get_or l 0 (pos 0))
    → b ≡ cond (eqb k 1) v (get_or l 1 (pos 0))
    → c ≡ cond (eqb k 2) v (get_or l 2 (pos 0))
    → d ≡ cond (eqb k 3) v (get_or l 3 (pos 0))
    → e ≡ cond (eqb k 4) v (get_or l 4 (pos 0))
    → f ≡ cond (eqb k 5) v (get_or l 5 (pos 0))
    → g ≡ cond (eqb k 6) v (get_or l 6 (pos 0))
    → h ≡ cond (eqb k 7) v (get_or l 7 (pos 0))
    → a ∷ b ∷ c ∷ d ∷ e ∷ f ∷ g ∷ h ∷ [] ≡ set l k v
eight_set l k v n p q r s t u w x =
    rw (p, q, r, s, t, u, w, x)
    (ap (λ (m : ℕ). listed m (λ (i : ℕ). cond (eqb k i) v (get_or l i (pos 0)))) (sym n) ∙ set_is l k v)
