-- Parts s[f..e] of a slice, which a call takes as `take (e - f) (drop f s)`.
-- Assumes nothing.
use mathlib.Core.Path.{◌≡◌, ◌∙◌}
use mathlib.Core.List.{List}
use Prim.Native.Nat.{ℕ, ◌+◌, ◌-◌, ◌≤◌, ◌<◌}
use native.Mathlib.Omega.{arith}
use lib.ListN.{length, get_or, take, drop, length-drop}
use lib.Seq.{length-take-le, get_or-take, get_or-drop}

-- its length
pub part_length : (s : List ℕ) (f e : ℕ) → e ≤ length s → length (take (e - f) (drop f s)) ≡ e - f
part_length s f e h = length-take-le (e - f) (drop f s) (omega (arith, length-drop f s))

-- what a read in it gives
pub part_at : (s : List ℕ) (f e i : ℕ) → f + i < e → get_or (take (e - f) (drop f s)) i 0 ≡ get_or s (f + i) 0
part_at s f e i h = get_or-take (e - f) (drop f s) i 0 (omega arith) ∙ get_or-drop f s i 0
