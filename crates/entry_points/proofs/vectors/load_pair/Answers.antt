-- The two numbers are those at the pair's place.
-- Assumes nothing.
use Rattle.std.proofs.Common.{◌∙◌, w32}
use Rattle.laws.proofs.Bits.{back}
use Rattle.entry_points.proofs.Words.{pair_at}
use Rattle.entry_points.proofs.vectors.load_pair.Goals as goal

pub returns : goal.returns
returns c =
    pair_at c.args.bytes.now c.args.r c.args.s _ _ _ c.place_of-k.ensures.0
    (back w32 _ c.load.type_inv ∙ c.load.ensures)
    (back w32 _ c.load-2.type_inv ∙ c.load-2.ensures)
