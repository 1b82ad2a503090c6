-- Where a macroblock's part lies, by the struct of the code (src/area.rt). For private contracts alone.
use Rattle.std.specs.Prelude.{◌≡◌, ℕ}
use Rattle.pmv.specs.declared.kinds.ChromaFormat.{ChromaFormat}
use Rattle.inter_reconstruction.specs.Components.{ColourComponent, block_width, block_height}
use Rattle.inter_reconstruction.specs.Macroblock.{first_column, first_row}
use Rattle.inter_reconstruction.specs.declared.area.Area.{Area}

-- a component's part of a cell
pub record PartAt (f : ChromaFormat) (c : ColourComponent) (col row : ℕ) (a : Area) : Type 0 where
  pub column : a.x ≡ first_column f c col
  pub line : a.y ≡ first_row f c row
  pub width : a.width ≡ block_width f c
  pub height : a.height ≡ block_height f c
