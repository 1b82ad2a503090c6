-- The first eight and the last eight are the row.
-- Assumes nothing.
use Rattle.std.proofs.Common.{refl, ◌-◌, length, arith}
use borrow.Rule.Slice.PartMut.{put_mid}
use Rattle.laws.proofs.Filled.{Filled}
use Rattle.forming_predictions.specs.inner.Views.{four_of}
use Rattle.forming_predictions.proofs.Eights.{eight, overlapped, four_next}
use Rattle.forming_predictions.proofs.means.any_row.Goals as goal

pub returns : goal.returns
returns c =
    let a = c.args in
    let first : Filled (four_of a.row.now a.below.now a.x a.dx) a.out.now 8 (put_mid 0 8 a.out.now c.four_eight.new.out) =
    eight (omega arith) c.four_eight.ensures (λ i h. refl) in
    overlapped first c.requires.1 c.four_eight-2.ensures (λ i h. four_next a.row.now a.below.now a.x a.dx (length a.out.now - 8) i)
