-- The laws of `tabulate`.
-- Assumes nothing.
use mathlib.Core.Path.{◌≡◌, refl, ap, ◌∙◌}
use mathlib.Core.List.{List, [], ◌∷◌, ◌++◌}
use Prim.Native.Nat.{ℕ, zero, suc, ◌+◌, ◌<◌}
use native.Mathlib.Nat.{not-suc-le-zero, le_of_suc-le-suc, zero-add, suc-add}
use native.Mathlib.Omega.{arith}
use lib.ListN.{length, get_or}
use Rattle.laws.specs.Tabulate.{tabulate}

-- its length, for a buffer's length and for omega
pub length_tab : (n : ℕ) (f : ℕ → ℕ) → length (tabulate n f) ≡ n
unfolding tabulate
length_tab zero f = refl
length_tab (suc n) f = ap suc (length_tab n (λ (k : ℕ). f (suc k)))

-- what a read at an index below the length gives
pub get_or_tab : (n : ℕ) (f : ℕ → ℕ) (i d : ℕ) → i < n → get_or (tabulate n f) i d ≡ f i
unfolding tabulate
get_or_tab zero f i d h = absurd (not-suc-le-zero h)
get_or_tab (suc n) f zero d h = refl
get_or_tab (suc n) f (suc i) d h = get_or_tab n (λ (k : ℕ). f (suc k)) i d (le_of_suc-le-suc h)

-- two rules that agree below the length give one list: a fast form's rule is put for the plain one
pub tab_ext : (n : ℕ) (f g : ℕ → ℕ) → ((i : ℕ) → i < n → f i ≡ g i) → tabulate n f ≡ tabulate n g
unfolding tabulate
tab_ext zero f g h = refl
tab_ext (suc n) f g h =
    rw (h zero (omega arith), tab_ext n (λ (k : ℕ). f (suc k)) (λ (k : ℕ). g (suc k)) (λ i p. h (suc i) (omega arith)))

-- one list after another: a buffer that is written part after part
pub tab_append : (n m : ℕ) (f : ℕ → ℕ) → tabulate n f ++ tabulate m (λ (k : ℕ). f (n + k)) ≡ tabulate (n + m) f
unfolding tabulate
tab_append zero m f = rw (zero-add m) (tab_ext m (λ (k : ℕ). f (zero + k)) f (λ i p. ap f (zero-add i)))
tab_append (suc n) m f =
    rw (suc-add n m)
    (ap (λ (t : List ℕ). f zero ∷ t)
    (ap (λ (t : List ℕ). tabulate n (λ (k : ℕ). f (suc k)) ++ t)
    (tab_ext m (λ (k : ℕ). f (suc n + k)) (λ (k : ℕ). f (suc (n + k))) (λ i p. ap f (suc-add n i)))
    ∙ tab_append n m (λ (k : ℕ). f (suc k))))

-- a list is what its own reads tabulate: for a loop that copies
pub tab_self : (l : List ℕ) → tabulate (length l) (λ (k : ℕ). get_or l k 0) ≡ l
unfolding tabulate
tab_self [] = refl
tab_self (x ∷ l) = ap (λ (t : List ℕ). x ∷ t) (tab_self l)
