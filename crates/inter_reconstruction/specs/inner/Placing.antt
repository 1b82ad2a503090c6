-- What the functions that place ask. For private contracts alone.
use Rattle.std.specs.Prelude.{◌≡◌, true, ℕ, ◌+◌, ◌*◌, ◌≤◌}
use Rattle.inter_reconstruction.specs.Components.{ColourComponent, macroblock_bytes}
use Rattle.inter_reconstruction.specs.Placing.{picture_fits, well_formed, cell_inside}
use Rattle.inter_reconstruction.specs.declared.frames.FrameSides.{FrameSides}

-- a block of w columns and h rows, in n bytes, lies in a plane of `width` columns and of p samples, its first sample at column x and row y
pub record Room (x y w h width p n : ℕ) : Type 0 where
  pub right : x + w ≤ width
  pub rows : (y + h) * width ≤ p
  pub count : n ≡ w * h
  pub wide : w ≤ 16
  pub high : h ≤ 16
  pub top : y ≤ 16368

-- nothing is refused
pub record Placeable (p : FrameSides) (lengths : ColourComponent → ℕ) (bytes col row : ℕ) : Type 0 where
  pub fits : picture_fits p lengths ≡ true
  pub whole : well_formed p ≡ true
  pub cell : cell_inside p.geometry col row ≡ true
  pub count : bytes ≡ macroblock_bytes p.geometry.chroma_format
