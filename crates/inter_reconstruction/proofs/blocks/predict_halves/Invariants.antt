-- After f turns the first f fields' lines are in place.
use Rattle.std.proofs.Common.{ℕ, get_or}
use Rattle.laws.proofs.Rows.{RowsFilled}
use Rattle.inter_reconstruction.specs.Frames.{read_plane}
use Rattle.inter_reconstruction.specs.inner.Blocks.{field_halves}
use Rattle.inter_reconstruction.proofs.blocks.predict_halves.Given as goal

abbrev pub invariant-loop-f : goal.invariant-loop-f
invariant-loop-f l =
    RowsFilled (λ (k : ℕ). get_or (field_halves (read_plane l.plane.sides l.plane.samples.now) l.fn.pair l.at.width l.at.height l.at.x l.at.y) k 0) l.initial.out l.n 2 l.f l.out
