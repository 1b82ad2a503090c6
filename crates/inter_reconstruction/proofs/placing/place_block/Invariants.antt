-- After r turns the first r rows of the block are in their places.
-- Assumes nothing.
use Rattle.std.proofs.Common.{◌≤◌}
use Rattle.inter_reconstruction.proofs.Stored.{RowsPlaced}
use Rattle.inter_reconstruction.proofs.placing.place_block.Given as goal

abbrev pub invariant-loop-r : goal.invariant-loop-r
invariant-loop-r l = record {
  within : l.r ≤ l.at.height;
  rows : RowsPlaced l.at.x l.at.y l.at.width l.width l.r l.block l.initial.plane l.plane;
}
