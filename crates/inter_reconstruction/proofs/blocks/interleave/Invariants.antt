-- After r turns the first r rows of the frame are in place.
use Rattle.std.proofs.Common.{◌+◌}
use Rattle.laws.proofs.Rows.{RowsFilled}
use Rattle.inter_reconstruction.specs.inner.Blocks.{interleaved_cell}
use Rattle.inter_reconstruction.proofs.blocks.interleave.Given as goal

abbrev pub invariant-loop-r : goal.invariant-loop-r
invariant-loop-r l = RowsFilled (interleaved_cell l.halves l.width l.half) l.initial.out l.width (l.half + l.half) l.r l.out
