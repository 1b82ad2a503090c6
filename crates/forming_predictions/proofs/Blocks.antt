-- Laws of blocks, and of their rows.
-- Assumes nothing.
use mathlib.Core.Path.{◌≡◌, refl, sym, ap, ◌∙◌}
use mathlib.Core.Bool.{true}
use mathlib.Core.List.{List, [], ◌∷◌}
use Prim.Native.Nat.{ℕ, ◌+◌, ◌-◌, ◌*◌, ◌/◌, ◌%◌, ◌≤◌, ◌<◌}
use native.Mathlib.Nat.{zero-add, zero-mul, add_assoc, one-mul, mul_comm, mul_assoc, mul-add, add-mul, mod-lt, div-lt_iff_lt-mul}
use native.Mathlib.Omega.{arith}
use lib.Arith.{digits_lt, digits_div, digits_mod}
use lib.IntN.{ℤ, pos, negsuc, ◌+ℤ◌, +ℤ_assoc}
use lib.ListN.{length, get_or, take, drop}
use lib.Seq.{length-take-le}
use borrow.Author.Tests.{leb-true}
use Rattle.laws.specs.Tabulate.{tabulate}
use Rattle.laws.proofs.Signed.{zp, zn, eq_z, add_z}
use Rattle.laws.proofs.Rows.{row_in}
use Rattle.laws.proofs.Tabulated.{tab_ext, length_tab, get_or_tab}
use Rattle.laws.proofs.Parts.{part_length, part_at}
use Rattle.forming_predictions.specs.Lines.{clamp_to}
use Rattle.forming_predictions.specs.Means.{mean4}
use Rattle.forming_predictions.specs.Forming.{block_of}
use Rattle.forming_predictions.specs.inner.Views.{line_start, view_read, spread, two_of, four_of, clamped_of, line_cell, picked, column_at, inside_of, ViewFits, SidesFit, Inside, ColumnsFit}
use Rattle.forming_predictions.proofs.Lines.{clamp_in, clamp_lt}
use Rattle.forming_predictions.proofs.RowMeans.{mean4_same, two_is_four}
use Rattle.forming_predictions.proofs.Views.{empty_read}

-- sample c of row r
pub row_of_block : (rule : ℤ → ℤ → ℕ) (x y : ℤ) (w r c : ℕ) → c < w
    → rule (x +ℤ pos c) (y +ℤ pos r) ≡ rule (x +ℤ pos ((r * w + c) % w)) (y +ℤ pos ((r * w + c) / w))
row_of_block rule x y w r c p = rw (digits_div r p, digits_mod r p)

-- its length, and its sample k
pub block_length : (w h : ℕ) (rule : ℤ → ℤ → ℕ) (x y : ℤ) → length (block_of w h rule x y) ≡ w * h
unfolding block_of
block_length w h rule x y = length_tab (w * h) _

pub block_at : (w h : ℕ) (rule : ℤ → ℤ → ℕ) (x y : ℤ) (k : ℕ) → k < w * h → get_or (block_of w h rule x y) k 0 ≡ rule (x +ℤ pos (k % w)) (y +ℤ pos (k / w))
unfolding block_of
block_at w h rule x y k p = get_or_tab (w * h) _ k 0 p

-- two rules that agree give one block
pub block_ext : (w h : ℕ) (f g : ℤ → ℤ → ℕ) (x y : ℤ) → ((a b : ℤ) → f a b ≡ g a b) → block_of w h f x y ≡ block_of w h g x y
unfolding block_of
block_ext w h f g x y e = tab_ext (w * h) _ _ (λ k p. e _ _)

-- ---- a line that is read without clamping
clamp_sum : (n a b : ℕ) → a + b < n → clamp_to n (pos a +ℤ pos b) ≡ a + b
clamp_sum n a b h = clamp_in n (a + b) h

clamp_sums : (n a b c : ℕ) → a + b + c < n → clamp_to n (pos a +ℤ pos b +ℤ pos c) ≡ a + b + c
clamp_sums n a b c h = clamp_in n (a + b + c) h

module _ {s : List ℕ} {w first step count x y dx dy n : ℕ} (f : ViewFits s w first step count) (i : Inside w count x y dx dy n 1) where
  -- its first sample, and that of the line below
  abbrev here : ℕ
  here = line_start first step w y

  abbrev below : ℕ
  below = line_start first step w (y + dy)

  pub same_rows : {a b : ℕ} → a ≡ here → b ≡ below → dy ≡ 0 → take (b + w - b) (drop b s) ≡ take (a + w - a) (drop a s)
  same_rows {a} {b} p q e =
      let same : y + dy ≡ y = omega arith in
      let t : b ≡ a = q ∙ ap (line_start first step w) same ∙ sym p in
      ap (λ (j : ℕ). take (j + w - j) (drop j s)) t

  pub line_cells : {a b : ℕ} → a ≡ here → b ≡ below → (k : ℕ) → k < n
      → four_of (take (a + w - a) (drop a s)) (take (b + w - b) (drop b s)) x dx k ≡ line_cell s w first step count (pos x) (pos y) dx dy k
  unfolding four_of line_cell spread view_read
  line_cells {a} {b} p q k h =
      let comm : x + dx + k ≡ x + k + dx = omega arith in
      rw (
        comm,
        part_at s a (a + w) (x + k) (omega (arith, i.right)),
        part_at s a (a + w) (x + k + dx) (omega (arith, i.right)),
        part_at s b (b + w) (x + k) (omega (arith, i.right)),
        part_at s b (b + w) (x + k + dx) (omega (arith, i.right)),
        p,
        q,
        clamp_in count y (omega (arith, i.below)),
        clamp_sum count y dy (omega (arith, i.below)),
        clamp_sum w x k (omega (arith, i.right)),
        clamp_sums w x k dx (omega (arith, i.right)),
      )

-- ---- a row r rows further starts r strides further
pub line_further : (first step w y r : ℕ) → line_start first step w (y + r) ≡ line_start first step w y + r * (step * w)
line_further first step w y r =
    rw (mul-add step y r, ← add_assoc first (step * y) (step * r), add-mul (first + step * y) (step * r) w, mul_comm step r, mul_assoc r step w)

-- ---- a block of 8 × 8 by the places of its rows
pub no_gap : (dx dy stride : ℕ) → dx + dy ≡ 0 → 0 ≡ dy * stride
no_gap dx dy stride e = let z : dy ≡ 0 = omega arith in rw z (omega (arith, zero-mul stride))

-- the row below starts `gap` places further, and the right neighbour is `side` columns further
module _ {s : List ℕ} {w first step count x y dx dy gap side : ℕ} (f : ViewFits s w first step count) (i : Inside w count x y dx dy 8 8)
    (e : gap ≡ dy * (step * w)) (d : side ≡ dx) where
  pub square_room : line_start first step w y + 7 * (step * w) + gap + w ≤ length s
  square_room =
      omega (
        arith,
        f.room (y + (dy + 7)) (omega (arith, i.below)),
        line_further first step w y (dy + 7),
        add-mul dy 7 (step * w),
      )

  square_cell : dx + dy ≤ 1 → (r c : ℕ) → r < 8 → c < 8
      → two_of s s (line_start first step w y + r * (step * w) + x) (gap + side) c ≡ line_cell s w first step count (pos x) (pos (y + r)) dx dy c
  unfolding two_of
  square_cell n r c p q =
      let here = line_start first step w (y + r) in
      let below = line_start first step w (y + r + dy) in
      let line : Inside w count x (y + r) dx dy 8 1 = record { right = i.right; below = omega (arith, i.below) } in
      let one : line_start first step w y + r * (step * w) + x + c ≡ here + (x + c) = omega (arith, line_further first step w y r) in
      let two : line_start first step w y + r * (step * w) + x + (gap + side) + c ≡ below + (x + dx + c) =
      omega (arith, line_further first step w y r, line_further first step w (y + r) dy) in
      rw (
        one,
        two,
        ← part_at s here (here + w) (x + c) (omega (arith, i.right)),
        ← part_at s below (below + w) (x + dx + c) (omega (arith, i.right)),
      )
      (two_is_four _ _ x dx dy c (omega arith) (omega arith) (λ b. omega arith) (same_rows f line refl refl) ∙ line_cells f line refl refl c q)

  pub square_block : dx + dy ≤ 1
      → tabulate 64 (λ (k : ℕ). two_of s s (line_start first step w y + k / 8 * (step * w) + x) (gap + side) (k % 8))
      ≡ block_of 8 8 (λ (a b : ℤ). spread (view_read s w first step count) a b dx dy) (pos x) (pos y)
  unfolding block_of line_cell
  square_block n =
      tab_ext 64 _ _ (λ k p. square_cell n (k / 8) (k % 8) (omega arith) (mod-lt k (omega arith)))

-- ---- lines that are clamped
module _ {s : List ℕ} {w first step count : ℕ} (f : ViewFits s w first step count) (y : ℤ) {a : ℕ} (p : a ≡ line_start first step w (clamp_to count y))
  where
    -- the row lies in the samples, and is handed on with all its columns
    pub clamped_room : a + w ≤ length s
    clamped_room = rw p (f.room (clamp_to count y) (clamp_lt count y f.lines))

    pub clamped_length : length (take (a + w - a) (drop a s)) ≡ w
    clamped_length = part_length s a (a + w) clamped_room ∙ omega arith

    -- the row below likewise: what is read in both, in clamped columns, is what the view reads
    pub clamped_cells : (dy : ℕ) {b : ℕ} → b ≡ line_start first step w (clamp_to count (y +ℤ pos dy)) → (x : ℤ) (dx k : ℕ)
        → clamped_of (take (a + w - a) (drop a s)) (take (b + w - b) (drop b s)) (x +ℤ pos k) dx ≡ line_cell s w first step count x y dx dy k
    unfolding clamped_of line_cell spread view_read
    clamped_cells dy {b} q x dx k =
        let here = clamp_lt w (x +ℤ pos k) f.some in
        let right = clamp_lt w (x +ℤ pos k +ℤ pos dx) f.some in
        rw (
          clamped_length,
          part_at s a (a + w) (clamp_to w (x +ℤ pos k)) (omega arith),
          part_at s a (a + w) (clamp_to w (x +ℤ pos k +ℤ pos dx)) (omega arith),
          part_at s b (b + w) (clamp_to w (x +ℤ pos k)) (omega arith),
          part_at s b (b + w) (clamp_to w (x +ℤ pos k +ℤ pos dx)) (omega arith),
          p,
          q,
        )

-- in columns that were clamped
pub clamped_is : (row below : List ℕ) (x : ℤ) (dx : ℕ) {a b : ℕ} → a ≡ clamp_to (length row) x → b ≡ clamp_to (length row) (x +ℤ pos dx)
    → mean4 (get_or row a 0) (get_or row b 0) (get_or below a 0) (get_or below b 0) ≡ clamped_of row below x dx
unfolding clamped_of
clamped_is row below x dx p q = rw (p, q)

-- ---- a line that is read in clamped columns
module _ {s columns : List ℕ} {w first step count : ℕ} (f : ViewFits s w first step count) (g : ColumnsFit columns w) (y : ℤ) {a : ℕ}
    (p : a ≡ line_start first step w (clamp_to count y)) where
  pub fetch_cells : (k : ℕ) → k < length columns
      → get_or (take (a + w - a) (drop a s)) (get_or columns k 0) 0 ≡ picked s w first step count columns y k
  unfolding picked
  fetch_cells k h =
      part_at s a (a + w) (get_or columns k 0) (omega (arith, g.inside k h)) ∙ ap (λ (j : ℕ). get_or s (j + get_or columns k 0) 0) p

-- the clamped columns of a block are inside the row
pub columns_inside : {columns : List ℕ} {w : ℕ} (n : ℕ) (x : ℤ) → columns ≡ tabulate n (column_at w x) → 0 < w
    → (k : ℕ) → k < length columns → get_or columns k 0 < w
unfolding column_at
columns_inside {columns} {w} n x e r k h =
    let l : length columns ≡ n = ap length e ∙ length_tab n (column_at w x) in
    rw (e, get_or_tab n (column_at w x) k 0 (omega arith)) (clamp_lt w (x +ℤ pos k) r)

pub columns_fit : {columns : List ℕ} {w : ℕ} (n : ℕ) (x : ℤ) → columns ≡ tabulate n (column_at w x) → 0 < w → ColumnsFit columns w
columns_fit n x e p = record { inside = columns_inside n x e p }

-- and what is picked in them is what the view reads
pub picked_block : (s : List ℕ) {columns : List ℕ} (w first step count n : ℕ) (x y : ℤ) (h : ℕ) → columns ≡ tabulate n (column_at w x) → 0 < n
    → tabulate (n * h) (λ (k : ℕ). picked s w first step count columns (y +ℤ pos (k / n)) (k % n))
    ≡ block_of n h (view_read s w first step count) x y
unfolding block_of picked view_read column_at
picked_block s {columns} w first step count n x y h e p =
    rw e (tab_ext (n * h) _ _ (λ k q. rw (get_or_tab n (column_at w x) (k % n) 0 (mod-lt k p))))

-- four reads that agree give one mean
spread_cong : (f g : ℤ → ℤ → ℕ) (a b c d : ℤ) (dx dy : ℕ)
    → f a b ≡ g c d
    → f (a +ℤ pos dx) b ≡ g (c +ℤ pos dx) d
    → f a (b +ℤ pos dy) ≡ g c (d +ℤ pos dy)
    → f (a +ℤ pos dx) (b +ℤ pos dy) ≡ g (c +ℤ pos dx) (d +ℤ pos dy)
    → spread f a b dx dy ≡ spread g c d dx dy
unfolding spread
spread_cong f g a b c d dx dy p q r t = rw (p, q, r, t)

-- ---- a block that was copied out of a view: read there without clamping, it gives the block of the view
-- row r and column c of a block's sample k
pub block_row : (w h k : ℕ) → 0 < w → k < w * h → k / w < h
block_row w h k p q = (div-lt_iff_lt-mul p).1 (rw (mul_comm h w) q)

pub region_view : {dx dy bw bh : ℕ} (region : List ℕ) → (dx ≤ 1) × (dy ≤ 1) → SidesFit bw bh → length region ≡ (bw + dx) * (bh + dy)
    → ViewFits region (bw + dx) 0 1 (bh + dy)
region_view {dx} {dy} {bw} {bh} region n b e =
    record {
      some = omega (arith, b.some);
      wide = omega (arith, b.wide, n.0);
      low = omega arith;
      apart = omega arith;
      lines = omega (arith, b.tall);
      high = omega (arith, b.high, n.1);
      room = λ j i. rw (zero-add (1 * j), one-mul j) (omega (arith, e, row_in j (bh + dy) (bw + dx) i));
    }

module _ (s : List ℕ) (w first step count : ℕ) (x y : ℤ) (dx dy bw bh : ℕ) (region : List ℕ)
    (e : region ≡ block_of (bw + dx) (bh + dy) (view_read s w first step count) x y) where
  abbrev there : ℤ → ℤ → ℕ
  there = view_read s w first step count

  abbrev W : ℕ
  W = bw + dx

  abbrev H : ℕ
  H = bh + dy

  region_read : (i j : ℕ) → i < W → j < H → view_read region W 0 1 H (pos i) (pos j) ≡ there (x +ℤ pos i) (y +ℤ pos j)
  unfolding view_read block_of
  region_read i j p q =
      rw (clamp_in W i p, clamp_in H j q, zero-add (1 * j), one-mul j, e)
      (get_or_tab (W * H) _ (j * W + i) 0 (omega (arith, digits_lt q p, mul_comm W H))
      ∙ rw (digits_div j p, digits_mod j p))

  right : (c : ℕ) → x +ℤ pos (c + dx) ≡ x +ℤ pos c +ℤ pos dx
  right c = sym (+ℤ_assoc x (pos c) (pos dx))

  under : (r : ℕ) → y +ℤ pos (r + dy) ≡ y +ℤ pos r +ℤ pos dy
  under r = sym (+ℤ_assoc y (pos r) (pos dy))

  region_cell : (c r : ℕ) → c < bw → r < bh
      → spread (view_read region W 0 1 H) (pos c) (pos r) dx dy ≡ spread there (x +ℤ pos c) (y +ℤ pos r) dx dy
  region_cell c r p q =
      spread_cong (view_read region W 0 1 H) there (pos c) (pos r) (x +ℤ pos c) (y +ℤ pos r) dx dy
      (region_read c r (omega arith) (omega arith))
      (region_read (c + dx) r (omega arith) (omega arith) ∙ ap (λ (z : ℤ). there z (y +ℤ pos r)) (right c))
      (region_read c (r + dy) (omega arith) (omega arith) ∙ ap (λ (z : ℤ). there (x +ℤ pos c) z) (under r))
      (region_read (c + dx) (r + dy) (omega arith) (omega arith)
      ∙ ap (λ (z : ℤ). there z (y +ℤ pos (r + dy))) (right c)
      ∙ ap (λ (z : ℤ). there (x +ℤ pos c +ℤ pos dx) z) (under r))

  pub region_block : 0 < bw
      → block_of bw bh (λ (a b : ℤ). spread (view_read region W 0 1 H) a b dx dy) (pos 0) (pos 0)
      ≡ block_of bw bh (λ (a b : ℤ). spread there a b dx dy) x y
  unfolding block_of
  region_block q =
      tab_ext (bw * bh) _ _
      (λ k p. rw (zero-add (k % bw), zero-add (k / bw)) (region_cell (k % bw) (k / bw) (mod-lt k q) (block_row bw bh k q p)))

-- ---- where nothing is a mean, what is read is the block
pub plus_none : (z : ℤ) → z +ℤ pos 0 ≡ z
plus_none z = eq_z (z +ℤ pos 0) z (omega (arith, add_z z (pos 0)))

pub spread_none : (read : ℤ → ℤ → ℕ) (x y : ℤ) → spread read x y 0 0 ≡ read x y
unfolding spread
spread_none read x y = rw (plus_none x, plus_none y) (mean4_same (read x y))

-- what is read in a row, in clamped columns, is what the view reads there, if there is no half
pub copied_cells : {s : List ℕ} {w first step count : ℕ} (f : ViewFits s w first step count) (y : ℤ) {a : ℕ}
    → (p : a ≡ line_start first step w (clamp_to count y)) (x : ℤ) (k : ℕ)
    → (let row = take (a + w - a) (drop a s) in get_or row (column_at (length row) x k) 0 ≡ line_cell s w first step count x y 0 0 k)
unfolding column_at line_cell view_read
copied_cells {s} {w} {first} {step} {count} f y {a} p x k =
    let here = clamp_lt w (x +ℤ pos k) f.some in
    rw (clamped_length f y p, part_at s a (a + w) (clamp_to w (x +ℤ pos k)) (omega arith), p)
    (sym (spread_none (view_read s w first step count) (x +ℤ pos k) y))

pub plain_block : (read : ℤ → ℤ → ℕ) (x y : ℤ) (bw bh : ℕ)
    → block_of bw bh read x y ≡ block_of bw bh (λ (a b : ℤ). spread read a b 0 0) x y
plain_block read x y bw bh = block_ext bw bh _ _ x y (λ a b. sym (spread_none read a b))

-- ---- the front of a local array: room for the samples that a block reads
pub front : (l : List ℕ) (n : ℕ) → n ≤ length l → length (take (n - 0) l) ≡ n
front l n h = length-take-le (n - 0) l (omega arith) ∙ omega arith

-- ---- rows that are handed on
-- two rows that lie in the samples, handed on as parts, and what their samples are
module _ (s : List ℕ) (w a b : ℕ) (p : a + w ≤ length s) (q : b + w ≤ length s) where
  pub parts_two : (x dx gap c : ℕ) → b ≡ a + gap → x + dx + c < w
      → two_of (take (a + w - a) (drop a s)) (take (b + w - b) (drop b s)) x dx c ≡ two_of s s (a + x) (gap + dx) c
  unfolding two_of
  parts_two x dx gap c e h =
      let one : a + x + c ≡ a + (x + c) = omega arith in
      let two : a + x + (gap + dx) + c ≡ b + (x + dx + c) = omega arith in
      rw (one, two, part_at s a (a + w) (x + c) (omega arith), part_at s b (b + w) (x + dx + c) (omega arith))

-- ---- the test that nothing is outside
pub inside_yes : (z : ℤ) (n limit : ℕ) → inside_of z n limit ≡ true → (zn z ≡ 0) × (zp z + n ≤ limit)
unfolding inside_of
inside_yes (pos a) n limit e = (refl, leb-true (a + n) limit e)
inside_yes (negsuc a) n limit e = let z : ◌≡◌ {A = ℕ} 0 1 = cc in absurd (omega arith)

-- ---- a plane without samples is read as a single 0
zero_read : (x y : ℤ) → view_read (0 ∷ []) 1 0 1 1 x y ≡ 0
unfolding view_read
zero_read x y =
    let line : line_start 0 1 1 (clamp_to 1 y) + clamp_to 1 x ≡ 0 = omega (arith, clamp_lt 1 x (omega arith), clamp_lt 1 y (omega arith)) in
    rw line

pub empty_block : (s : List ℕ) (w first step count : ℕ) (x y : ℤ) (dx dy bw bh : ℕ) → length s ≡ 0
    → block_of bw bh (λ (a b : ℤ). spread (view_read (0 ∷ []) 1 0 1 1) a b dx dy) x y
    ≡ block_of bw bh (λ (a b : ℤ). spread (view_read s w first step count) a b dx dy) x y
empty_block s w first step count x y dx dy bw bh e =
    let same : (a b : ℤ) → view_read (0 ∷ []) 1 0 1 1 a b ≡ view_read s w first step count a b =
    λ a b. zero_read a b ∙ sym (empty_read s w first step count a b e) in
    block_ext bw bh _ _ x y (λ a b. spread_cong _ _ a b a b dx dy (same _ _) (same _ _) (same _ _) (same _ _))
