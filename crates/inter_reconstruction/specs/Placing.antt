-- The scope (docs/SCOPE.md, "Placing a macroblock"): a macroblock's bytes go to the planes of a picture, each to the place that prediction
-- forms it for, and nothing else is written. On lists of numbers: a sample need not be a byte. Nothing here is the standard's.
use Rattle.std.specs.Prelude.{Bool, not, ◌&&◌, List, [], ◌∷◌, ℕ, zero, suc, ◌+◌, ◌*◌, ◌/◌, ◌%◌, eqb, ltb, set, take, drop, Option}
use Rattle.combine_predictions.specs.Refusals.{cause, or_else}
use Rattle.forming_predictions.specs.Refusals.{side_fits}
use Rattle.pmv.specs.declared.kinds.ChromaFormat.{ChromaFormat}
use Rattle.inter_reconstruction.specs.Components.{ColourComponent, luma, cb, cr, columns_of, lines_of, block_width, block_bytes, macroblock_bytes}
use Rattle.inter_reconstruction.specs.Frames.{Samples, plane_of}
use Rattle.inter_reconstruction.specs.Macroblock.{column_at, row_at, first_column, first_row}
use Rattle.inter_reconstruction.specs.Refusals.{every_component, planes_fit}
use Rattle.inter_reconstruction.specs.declared.frames.FrameGeometry.{FrameGeometry}
use Rattle.inter_reconstruction.specs.declared.frames.FrameSides.{FrameSides}
use Rattle.inter_reconstruction.specs.declared.placing.PlacingRefusal.{PlacingRefusal}
use Rattle.inter_reconstruction.specs.declared.placing.PlacingRefusal.TheVariants.{OutsideDomain, WrongLength, IllFormed}

-- ---- what is written

-- sample k of a list stored at place k of another, for every k, and all else kept
unfoldable pub stored : (ℕ → ℕ) → List ℕ → List ℕ → List ℕ
stored place [] l = l
stored place (s ∷ ss) l = stored (λ (k : ℕ). place (suc k)) ss (set l (place zero) s)

-- the place, in a plane of `width` columns, of sample k of a rectangle of w columns whose first sample is at column x and row y
abbrev pub place_at : ℕ → ℕ → ℕ → ℕ → ℕ → ℕ
place_at width w x y k = row_at w y k * width + column_at w x k

-- of sample k of a macroblock's part in a component's plane: where prediction forms it
abbrev pub place_in : ChromaFormat → ColourComponent → ℕ → ℕ → ℕ → ℕ → ℕ
place_in f c width col row = place_at width (block_width f c) (first_column f c col) (first_row f c row)

-- a component's part of a macroblock's bytes: luminance, then Cb, then Cr
abbrev pub part_first : ChromaFormat → ColourComponent → ℕ
part_first f luma = 0
part_first f cb = block_bytes f luma
part_first f cr = block_bytes f luma + block_bytes f cb

abbrev pub part_of : ChromaFormat → ColourComponent → List ℕ → List ℕ
part_of f c bytes = take (block_bytes f c) (drop (part_first f c) bytes)

-- a component's plane of `width` columns with its part of the macroblock
abbrev pub placed_part : ChromaFormat → ColourComponent → ℕ → ℕ → ℕ → List ℕ → List ℕ → List ℕ
placed_part f c width col row bytes plane = stored (place_in f c width col row) (part_of f c bytes) plane

-- a picture's planes with the macroblock
abbrev pub placed : FrameSides → ℕ → ℕ → List ℕ → Samples → Samples
placed p col row bytes planes c =
    placed_part p.geometry.chroma_format c (plane_of p c).width col row bytes (planes c)

-- ---- what is refused: 14, 20, 18

-- the numbers of the reasons
abbrev pub placing_number : PlacingRefusal → ℕ
placing_number OutsideDomain = 14
placing_number WrongLength = 18
placing_number IllFormed = 20

-- neither of the picture's sides is over 16,384
abbrev pub declared_fit : FrameGeometry → Bool
declared_fit g = side_fits g.width && side_fits g.height

-- a side is a multiple of 16, and not 0
abbrev pub whole_side : ℕ → Bool
whole_side side = not (eqb side 0) && eqb (side % 16) 0

abbrev pub whole_sides : FrameGeometry → Bool
whole_sides g = whole_side g.width && whole_side g.height

-- a component's plane has the sides that the picture's sides and format give it
abbrev pub plane_sides_fit : FrameSides → ColourComponent → Bool
plane_sides_fit p c =
    eqb (plane_of p c).width (columns_of p.geometry.chroma_format c p.geometry.width)
    && eqb (plane_of p c).height (lines_of p.geometry.chroma_format c p.geometry.height)

-- the cell is one of the picture's
abbrev pub cell_inside : FrameGeometry → ℕ → ℕ → Bool
cell_inside g col row = ltb col (g.width / 16) && ltb row (g.height / 16)

-- the picture's sides and its planes' are in the domain, and each plane has as many samples as its sides say
unfoldable pub picture_fits : FrameSides → (ColourComponent → ℕ) → Bool
picture_fits p n = declared_fit p.geometry && planes_fit p n

-- its sides are whole, and its planes fit them
unfoldable pub well_formed : FrameSides → Bool
well_formed p = whole_sides p.geometry && every_component (plane_sides_fit p)

-- the picture with the lengths of its planes, how many bytes there are to place, and the cell
abbrev pub placing_refusal : FrameSides → (ColourComponent → ℕ) → ℕ → ℕ → ℕ → Option PlacingRefusal
placing_refusal p n bytes col row =
    or_else (cause (not (picture_fits p n)) OutsideDomain)
    (or_else (cause (not (well_formed p && cell_inside p.geometry col row)) IllFormed)
    (cause (not (eqb bytes (macroblock_bytes p.geometry.chroma_format))) WrongLength))
