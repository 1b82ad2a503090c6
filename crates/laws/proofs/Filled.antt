-- The invariant of a loop that writes `tabulate n f` into a buffer from its front.
-- Assumes nothing.
use mathlib.Core.Path.{◌≡◌, refl, sym, ap, ◌∙◌}
use mathlib.Core.List.{List, [], ◌∷◌, ◌++◌, append_assoc, append-nil}
use Prim.Native.Nat.{ℕ, zero, suc, ◌+◌, ◌-◌, ◌≤◌, ◌<◌}
use native.Mathlib.Nat.{not-suc-le-zero, le_of_suc-le-suc}
use native.Mathlib.Numerals.{add-one}
use native.Mathlib.Omega.{arith}
use lib.ListN.{length, set, drop, length-append, length-drop}
use lib.Seq.{drop-length, take_at, drop_at, drop-drop}
use borrow.Rule.Slice.PartMut.{put_mid}
use Rattle.laws.specs.Tabulate.{tabulate}
use Rattle.laws.proofs.Tabulated.{length_tab, tab_ext, tab_append}

-- the buffer o, which was d, has f 0 .. f (n - 1) at its front and is as it was behind them
pub record Filled (f : ℕ → ℕ) (d : List ℕ) (n : ℕ) (o : List ℕ) : Type 0 where
  pub within : n ≤ length d
  pub long : length o ≡ length d
  pub is : o ≡ tabulate n f ++ drop n d

-- its length follows; it is a field, so that omega finds it
filled_of : {f : ℕ → ℕ} {d : List ℕ} {n : ℕ} {o : List ℕ} → n ≤ length d → o ≡ tabulate n f ++ drop n d → Filled f d n o
filled_of {f} {d} {n} h e =
    record {
      within = h;
      long = ap length e ∙ omega (arith, length-append (tabulate n f) (drop n d), length_tab n f, length-drop n d);
      is = e;
    }

-- where the loop begins
pub filled_none : (f : ℕ → ℕ) (d : List ℕ) → Filled f d 0 d
unfolding tabulate
filled_none f d = filled_of (omega arith) refl

-- the buffer's length does not change: for `same_length`, and for omega's list
pub filled_length : {f : ℕ → ℕ} {d : List ℕ} {n : ℕ} {o : List ℕ} → Filled f d n o → length o ≡ length d
filled_length h = h.long

store : (n : ℕ) (f : ℕ → ℕ) (d : List ℕ)
    → n < length d → set (tabulate n f ++ drop n d) n (f n) ≡ tabulate (suc n) f ++ drop (suc n) d
unfolding tabulate
store n f [] l = absurd (not-suc-le-zero l)
store zero f (x ∷ d) l = refl
store (suc n) f (x ∷ d) l = ap (λ (t : List ℕ). f zero ∷ t) (store n (λ (k : ℕ). f (suc k)) d (le_of_suc-le-suc l))

-- after a turn that stores o[n] = v
pub filled_step : {f : ℕ → ℕ} {d : List ℕ} {n : ℕ} {o : List ℕ} {v : ℕ}
    → Filled f d n o → n < length o → v ≡ f n → Filled f d (n + 1) (set o n v)
filled_step {f} {d} {n} {o} {v} h l e =
    let k : n < length d = omega arith in
    filled_of (omega arith) (rw (e, h.is, add-one n) (store n f d k))

-- after a turn of `for n in 0..d.len()`, likewise
pub filled_turn : {f : ℕ → ℕ} {d : List ℕ} {n : ℕ} {o : List ℕ} {v : ℕ}
    → Filled f d n o → n < length d → v ≡ f n → Filled f d (n + 1) (set o n v)
filled_turn h l e = filled_step h (omega (arith, h.long)) e

-- after a turn in which a call wrote the part &mut o[n..n + m] and left `tabulate m g` there
pub filled_part : {f g : ℕ → ℕ} {d : List ℕ} {n : ℕ} {o ys : List ℕ} (m : ℕ)
    → Filled f d n o
    → n + m ≤ length o
    → ys ≡ tabulate m g
    → ((i : ℕ) → i < m → g i ≡ f (n + i))
    → Filled f d (n + m) (put_mid n (n + m - n) o ys)
filled_part {f} {g} {d} {n} {o} {ys} m h l e p =
    let k : n + m - n ≡ m = omega arith in
    filled_of (omega arith)
    (rw (
      k,
      h.is,
      take_at (tabulate n f) (drop n d) n (length_tab n f),
      drop_at (tabulate n f) (drop n d) n (length_tab n f),
      drop-drop m n d,
      e,
      tab_ext m g (λ (i : ℕ). f (n + i)) p,
      ← append_assoc (tabulate n f) (tabulate m (λ (i : ℕ). f (n + i))) (drop (n + m) d),
      tab_append n m f,
    ))

-- a buffer is filled as far as before of itself too, so that a part may be written again
pub filled_again : {f : ℕ → ℕ} {d : List ℕ} {n : ℕ} {o : List ℕ} (m : ℕ) → Filled f d n o → m ≤ n → Filled f o m o
filled_again {f} {d} {n} {o} m h l =
    let all : m + (n - m) ≡ n = omega arith in
    let more = tabulate (n - m) (λ (k : ℕ). f (m + k)) in
    let front : tabulate m f ++ more ≡ tabulate n f = tab_append m (n - m) f ∙ ap (λ (k : ℕ). tabulate k f) all in
    let e : o ≡ tabulate m f ++ (more ++ drop n d) =
    h.is ∙ ap (λ (t : List ℕ). t ++ drop n d) (sym front) ∙ append_assoc (tabulate m f) more (drop n d) in
    let rest : drop m o ≡ more ++ drop n d = ap (drop m) e ∙ drop_at (tabulate m f) (more ++ drop n d) m (length_tab m f) in
    filled_of (omega arith) (e ∙ ap (λ (t : List ℕ). tabulate m f ++ t) (sym rest))

-- where the loop has ended: the whole buffer, of m elements, is the tabulated list
pub filled_all : {f : ℕ → ℕ} {d : List ℕ} {n m : ℕ} {o : List ℕ}
    → Filled f d n o → length o ≤ n → length d ≡ m → o ≡ tabulate m f
filled_all {f} {d} {n} {m} {o} h l e =
    let k : n ≡ length d = omega arith in
    h.is ∙ rw (k, drop-length d, e) (append-nil (tabulate m f))
