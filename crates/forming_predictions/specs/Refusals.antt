-- The scope (docs/SCOPE.md, "When a call refuses"): what the calls of this layer refuse, from sides, lengths and positions alone. 14 comes
-- before 18. The limits are those of its section "The domain". Nothing here is the standard's.
use Rattle.std.specs.Prelude.{Bool, not, ◌&&◌, ℕ, ◌*◌, leb, eqb, ℤ, pos, negsuc, Option}
use Rattle.std.specs.Int.Signed.{le_z}
use Rattle.combine_predictions.specs.Refusals.{cause, or_else}
use Rattle.forming_predictions.specs.declared.FormingRefusal.{FormingRefusal}
use Rattle.forming_predictions.specs.declared.FormingRefusal.TheVariants.{OutsideDomain, WrongLength}

-- the numbers of the reasons
abbrev pub forming_number : FormingRefusal → ℕ
forming_number OutsideDomain = 14
forming_number WrongLength = 18

-- a plane's side: 0 to 16,384
abbrev pub side_fits : ℕ → Bool
side_fits side = leb side 16384

-- a plane's samples are as many as its sides say
abbrev pub count_fits : ℕ → ℕ → ℕ → Bool
count_fits w h n = eqb n (w * h)

-- a plane of w columns and h rows, with n samples
unfoldable pub plane_fits : ℕ → ℕ → ℕ → Bool
plane_fits w h n = side_fits w && (side_fits h && count_fits w h n)

-- a position: -32,768 to `last`
unfoldable pub position_fits : ℤ → ℤ → Bool
position_fits last position = le_z (negsuc 32767) position && le_z position last

-- where a single sample may be predicted: the last sample of a block that starts at the last position is 15 further
abbrev pub last_sample : ℤ
last_sample = pos 32782

-- where a block may start
abbrev pub last_block : ℤ
last_block = pos 32767

-- a block's side: 1 to 16
unfoldable pub block_side_fits : ℕ → Bool
block_side_fits side = leb 1 side && leb side 16

-- `sample`: no position is refused
abbrev pub plane_refusal : ℕ → ℕ → ℕ → Option FormingRefusal
plane_refusal w h n = cause (not (plane_fits w h n)) OutsideDomain

-- both coordinates of a position
abbrev pub position_refusal : ℤ → ℤ → ℤ → Option FormingRefusal
position_refusal last x y = cause (not (position_fits last x && position_fits last y)) OutsideDomain

-- `predict_sample`, of a frame or of a field
unfoldable pub sample_refusal : ℕ → ℕ → ℕ → ℤ → ℤ → Option FormingRefusal
sample_refusal w h n x y = or_else (plane_refusal w h n) (position_refusal last_sample x y)

-- `predict_block`, of a frame or of a field: a block of bw columns and bh rows into a buffer of o bytes
unfoldable pub block_refusal : ℕ → ℕ → ℕ → ℤ → ℤ → ℕ → ℕ → ℕ → Option FormingRefusal
block_refusal w h n x y bw bh o =
    or_else (plane_refusal w h n)
    (or_else (cause (not (block_side_fits bw && block_side_fits bh)) OutsideDomain)
    (or_else (position_refusal last_block x y)
    (cause (not (eqb o (bw * bh))) WrongLength)))
