-- What is read is the block, or is a view in which nothing is outside.
-- Assumes nothing.
use Rattle.std.proofs.Common.{◌≡◌, ◌≤◌, ℕ, ◌+◌, ◌*◌, List, ℤ, length, ap, ◌∙◌, arith}
use native.Mathlib.Nat.{mul-le-mul}
use Rattle.std.proofs.lemmas.List.{length-replicate}
use Rattle.laws.specs.Tabulate.{tabulate}
use Rattle.laws.proofs.Tabulated.{length_tab}
use Rattle.forming_predictions.specs.Forming.{block_of}
use Rattle.forming_predictions.specs.inner.Views.{column_at}
use Rattle.forming_predictions.specs.inner.Blocks.{read}
use Rattle.forming_predictions.proofs.Blocks.{columns_fit, front, picked_block, plain_block, region_view, region_block}
use Rattle.forming_predictions.proofs.edges.form_fetched.Goals as goal

-- the columns that are read
clamped : {columns : List ℕ} (w n m : ℕ) (x : ℤ) → m ≡ n → columns ≡ tabulate m (column_at w x) → columns ≡ tabulate n (column_at w x)
clamped w n m x l p = p ∙ ap (λ (k : ℕ). tabulate k (column_at w x)) l

pub fetch_lines-requires : goal.fetch_lines-requires
fetch_lines-requires g c =
    let a = c.args in
    let columns = clamped a.view.width g.row.N _ a.x.at (length-replicate _ _) c.clamp_columns.ensures in
    let narrow : a.size.width ≡ g.row.N = omega (arith, c.requires.columns_fit.0) in (
      columns_fit _ a.x.at columns a.view.fits.some,
      ap length columns ∙ length_tab _ _,
      omega (arith, a.size.fits.high),
      c.requires.room ∙ ap (λ (k : ℕ). k * a.size.height) narrow,
    )

pub returns-then-to-eq0 : goal.returns-then-to-eq0
returns-then-to-eq0 g c =
    let a = c.args in
    let v = a.view in
    let s = a.size in
    let columns = clamped v.width g.row.N _ a.x.at (length-replicate _ _) c.clamp_columns.ensures in
    let right : a.to.right ≡ 0 = omega arith in
    let below : a.to.below ≡ 0 = omega arith in
    let narrow : g.row.N ≡ s.width = omega (arith, c.requires.columns_fit.0) in
    rw (right, below)
    (c.fetch_lines.ensures
    ∙ picked_block v.samples.now v.width v.first v.step v.count g.row.N a.x.at a.y.at s.height columns (omega (arith, s.fits.some))
    ∙ ap (λ (k : ℕ). block_of k s.height (read v) a.x.at a.y.at) narrow
    ∙ plain_block (read v) a.x.at a.y.at s.width s.height)

pub fetch_lines-requires-2 : goal.fetch_lines-requires-2
fetch_lines-requires-2 g c =
    let a = c.args in
    let columns = clamped a.view.width g.row.N _ a.x.at (length-replicate _ _) c.clamp_columns.ensures in
    let most : a.size.height + a.to.below ≤ 17 = omega (arith, a.size.fits.high, a.to.near.1) in (
      columns_fit _ a.x.at columns a.view.fits.some,
      ap length columns ∙ length_tab _ _,
      most,
      front _ _ (rw (length-replicate {A = ℕ} g.row.ROOM 0, c.requires.columns_fit.1) (mul-le-mul (omega arith) most)),
    )

pub invariant_of-copied : goal.invariant_of-copied
invariant_of-copied g c =
    let a = c.args in
    let wide = c.requires.columns_fit.0 in
    record {
      fits =
          rw wide
          (region_view _ a.to.near a.size.fits
          (ap length c.fetch_lines-2.ensures ∙ length_tab _ _ ∙ ap (λ (k : ℕ). k * (a.size.height + a.to.below)) wide));
    }

pub returns : goal.returns
returns g c =
    let a = c.args in
    let v = a.view in
    let s = a.size in
    let h = s.height + a.to.below in
    let wide = c.requires.columns_fit.0 in
    let columns = clamped v.width g.row.N _ a.x.at (length-replicate _ _) c.clamp_columns.ensures in
    (rw wide at c.form_inside.ensures)
    ∙ region_block v.samples.now v.width v.first v.step v.count a.x.at a.y.at a.to.right a.to.below s.width s.height _
    (c.fetch_lines-2.ensures
    ∙ picked_block v.samples.now v.width v.first v.step v.count g.row.N a.x.at a.y.at h columns (omega (arith, s.fits.some))
    ∙ ap (λ (k : ℕ). block_of k h (read v) a.x.at a.y.at) wide)
    s.fits.some
