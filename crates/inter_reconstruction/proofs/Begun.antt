-- A buffer that is written from its front, part after part, and the front of a local array.
-- Assumes nothing.
use mathlib.Core.Path.{◌≡◌, refl, sym, ap, ◌∙◌}
use mathlib.Core.List.{List, ◌++◌, append_assoc, append-nil}
use Prim.Native.Nat.{ℕ, ◌+◌, ◌-◌, ◌≤◌}
use native.Mathlib.Omega.{arith}
use lib.ListN.{length, take, drop, length-append, length-drop, replicate, get_or}
use lib.Seq.{take_at, drop_at, drop-drop, drop-length}
use borrow.Rule.Slice.PartMut.{put_mid}
use Rattle.laws.specs.Tabulate.{tabulate}
use Rattle.laws.proofs.Tabulated.{tab_ext, tab_self}
use Rattle.laws.proofs.Parts.{part_length, part_at}

-- the buffer o, which was d, has `front` at its front and is as it was behind it
pub record Begun (front d o : List ℕ) : Type 0 where
  pub within : length front ≤ length d
  pub is : o ≡ front ++ drop (length front) d

-- after a call wrote ys to &mut d[0..m]
pub begun_first : (m : ℕ) (ys d : List ℕ) → length ys ≡ m → m ≤ length d → Begun ys d (put_mid 0 (m - 0) d ys)
begun_first m ys d f l = let k : m - 0 ≡ m = omega arith in record { within = omega arith; is = rw (k, f) }

-- after a call wrote ys to &mut o[n..n + m]
pub begun_part : {front d o : List ℕ} (n m : ℕ) (ys : List ℕ)
    → Begun front d o → length front ≡ n → length ys ≡ m → n + m ≤ length d
    → Begun (front ++ ys) d (put_mid n (n + m - n) o ys)
begun_part {front} {d} {o} n m ys h e f l =
    let k : n + m - n ≡ m = omega arith in
    let g : length (front ++ ys) ≡ n + m = omega (arith, length-append front ys) in
    record {
      within = omega arith;
      is =
          rw (
            k,
            h.is,
            take_at front (drop (length front) d) n e,
            drop_at front (drop (length front) d) n e,
            e,
            drop-drop m n d,
            g,
            append_assoc front ys (drop (n + m) d),
          );
    }

-- its length
pub begun_length : {front d o : List ℕ} → Begun front d o → length o ≡ length d
begun_length {front} {d} h = ap length h.is ∙ length-append front (drop (length front) d) ∙ omega (arith, h.within, length-drop (length front) d)

-- the whole buffer
pub begun_all : {front d o : List ℕ} → Begun front d o → length front ≡ length d → o ≡ front
begun_all {front} {d} {o} h e = h.is ∙ rw (e, drop-length d) (append-nil front)

-- the length of two parts
pub append_count : (a b : List ℕ) (n m k : ℕ) → length a ≡ n → length b ≡ m → k ≡ n + m → length (a ++ b) ≡ k
append_count a b n m k e f g = omega (arith, length-append a b)

-- after a call wrote ys to &mut o[n..], which is all that was left
pub begun_rest : {front d o : List ℕ} (n : ℕ) (ys : List ℕ)
    → Begun front d o → length front ≡ n → n + length ys ≡ length d
    → put_mid n (length d - n) o ys ≡ front ++ ys
begun_rest {front} {d} {o} n ys h e f =
    rw (← f) (begun_all (begun_part n (length ys) ys h e refl (omega arith)) (append_count front ys n (length ys) (length d) e refl (sym f)))

-- ---- the front of a local array, lent as `&mut block[..n]` and then as `&block[..n]`
abbrev pub blank : ℕ → List ℕ
blank n = replicate n 0

pub front_is : (n : ℕ) (ys rest : List ℕ) → length ys ≡ n → take n (ys ++ rest) ≡ ys
front_is n ys rest e = take_at ys rest n e

-- ---- a part of a slice, as what its reads tabulate
pub part_tab : (s : List ℕ) (a n : ℕ) → a + n ≤ length s → take (a + n - a) (drop a s) ≡ tabulate n (λ (k : ℕ). get_or s (a + k) 0)
part_tab s a n h =
    let long : length (take (a + n - a) (drop a s)) ≡ n = part_length s a (a + n) h ∙ omega arith in
    sym (tab_self (take (a + n - a) (drop a s))) ∙ rw long (tab_ext n _ _ (λ k l. part_at s a (a + n) k (omega arith)))
