-- Two lists of one length whose elements are related index by index.
-- Assumes nothing.
use mathlib.Core.Path.{◌≡◌, refl, sym, ap, ◌∙◌}
use mathlib.Core.List.{List, [], ◌∷◌, ◌++◌}
use Prim.Native.Nat.{ℕ, zero, suc, ◌<◌}
use native.Mathlib.Omega.{arith}
use lib.ListN.{length, get_or, set, take, drop, length-append, length-set}
use Rattle.laws.specs.Tabulate.{tabulate}
use Rattle.laws.proofs.Tabulated.{length_tab}

-- one length, and R at every index; past the end both read 0, so that R 0 0 is asked too
pub record Related (R : ℕ → ℕ → Type 0) (xs ys : List ℕ) : Type 0 where
  pub same : length xs ≡ length ys
  pub at : (i : ℕ) → R (get_or xs i 0) (get_or ys i 0)

module _ (R : ℕ → ℕ → Type 0) (z : R 0 0) where
  tab_at : (n : ℕ) (f g : ℕ → ℕ)
      → ((k : ℕ) → k < n → R (f k) (g k)) → (i : ℕ) → R (get_or (tabulate n f) i 0) (get_or (tabulate n g) i 0)
  unfolding tabulate
  tab_at zero f g h i = z
  tab_at (suc n) f g h zero = h zero (omega arith)
  tab_at (suc n) f g h (suc i) = tab_at n (λ k. f (suc k)) (λ k. g (suc k)) (λ k l. h (suc k) (omega arith)) i

  -- related rules give related lists: one rule in two arithmetics
  pub related_tab : (n : ℕ) (f g : ℕ → ℕ) → ((k : ℕ) → k < n → R (f k) (g k)) → Related R (tabulate n f) (tabulate n g)
  related_tab n f g h = record { same = length_tab n f ∙ sym (length_tab n g); at = tab_at n f g h }

module _ (R : ℕ → ℕ → Type 0) where
  append_at : (xs ys us vs : List ℕ)
      → length xs ≡ length ys
      → ((i : ℕ) → R (get_or xs i 0) (get_or ys i 0))
      → ((i : ℕ) → R (get_or us i 0) (get_or vs i 0))
      → (i : ℕ)
      → R (get_or (xs ++ us) i 0) (get_or (ys ++ vs) i 0)
  append_at [] [] us vs e h k i = k i
  append_at [] (y ∷ ys) us vs e h k i = absurd (omega arith)
  append_at (x ∷ xs) [] us vs e h k i = absurd (omega arith)
  append_at (x ∷ xs) (y ∷ ys) us vs e h k zero = h zero
  append_at (x ∷ xs) (y ∷ ys) us vs e h k (suc i) = append_at xs ys us vs (omega arith) (λ j. h (suc j)) k i

  -- one list after another
  pub related_append : {xs ys us vs : List ℕ} → Related R xs ys → Related R us vs → Related R (xs ++ us) (ys ++ vs)
  related_append {xs} {ys} {us} {vs} a b =
      record {
        same = omega (arith, length-append xs us, length-append ys vs, a.same, b.same);
        at = append_at xs ys us vs a.same a.at b.at;
      }

-- a weaker relation
pub related_map : (R S : ℕ → ℕ → Type 0) {xs ys : List ℕ}
    → ((a b : ℕ) → R a b → S a b) → Related R xs ys → Related S xs ys
related_map R S {xs} {ys} f a = record { same = a.same; at = λ i. f (get_or xs i 0) (get_or ys i 0) (a.at i) }

-- ---- what keeps two lists related: a store at one place, and a part

module _ (R : ℕ → ℕ → Type 0) where
  set_at : (xs ys : List ℕ) (i a b : ℕ) → length xs ≡ length ys → ((k : ℕ) → R (get_or xs k 0) (get_or ys k 0)) → R a b
      → (k : ℕ) → R (get_or (set xs i a) k 0) (get_or (set ys i b) k 0)
  set_at [] [] i a b e h r k = h k
  set_at [] (y ∷ ys) i a b e h r k = absurd (omega arith)
  set_at (x ∷ xs) [] i a b e h r k = absurd (omega arith)
  set_at (x ∷ xs) (y ∷ ys) zero a b e h r zero = r
  set_at (x ∷ xs) (y ∷ ys) zero a b e h r (suc k) = h (suc k)
  set_at (x ∷ xs) (y ∷ ys) (suc i) a b e h r zero = h zero
  set_at (x ∷ xs) (y ∷ ys) (suc i) a b e h r (suc k) = set_at xs ys i a b (omega arith) (λ j. h (suc j)) r k

  -- one store
  pub related_set : {xs ys : List ℕ} (i : ℕ) {a b : ℕ} → Related R xs ys → R a b → Related R (set xs i a) (set ys i b)
  related_set {xs} {ys} i {a} {b} p r =
      record { same = length-set xs i a ∙ p.same ∙ sym (length-set ys i b); at = set_at xs ys i a b p.same p.at r }

  -- the heads, and what is behind them
  pub related_head : {x y : ℕ} {xs ys : List ℕ} → Related R (x ∷ xs) (y ∷ ys) → R x y
  related_head p = p.at zero

  pub related_tail : {x y : ℕ} {xs ys : List ℕ} → Related R (x ∷ xs) (y ∷ ys) → Related R xs ys
  related_tail p = record { same = omega (arith, p.same); at = λ i. p.at (suc i) }

  pub related_drop : (n : ℕ) (xs ys : List ℕ) → Related R xs ys → Related R (drop n xs) (drop n ys)
  related_drop zero xs ys p = p
  related_drop (suc n) [] [] p = p
  related_drop (suc n) [] (y ∷ ys) p = absurd (omega (arith, p.same))
  related_drop (suc n) (x ∷ xs) [] p = absurd (omega (arith, p.same))
  related_drop (suc n) (x ∷ xs) (y ∷ ys) p = related_drop n xs ys (related_tail p)

module _ (R : ℕ → ℕ → Type 0) (z : R 0 0) where
  cons : {x y : ℕ} {xs ys : List ℕ} → R x y → Related R xs ys → Related R (x ∷ xs) (y ∷ ys)
  cons {x} {y} {xs} {ys} r p = record { same = ap suc p.same; at = go }
    where
      go : (i : ℕ) → R (get_or (x ∷ xs) i 0) (get_or (y ∷ ys) i 0)
      go zero = r
      go (suc i) = p.at i

  pub related_take : (n : ℕ) (xs ys : List ℕ) → Related R xs ys → Related R (take n xs) (take n ys)
  related_take zero xs ys p = record { same = refl; at = λ i. z }
  related_take (suc n) [] [] p = p
  related_take (suc n) [] (y ∷ ys) p = absurd (omega (arith, p.same))
  related_take (suc n) (x ∷ xs) [] p = absurd (omega (arith, p.same))
  related_take (suc n) (x ∷ xs) (y ∷ ys) p = cons (related_head R p) (related_take n xs ys (related_tail R p))
