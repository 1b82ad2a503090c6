-- What a line says of a frame, and of the planes of a reference.
use Rattle.std.specs.Prelude.{◌≡◌, List, [], ℕ, ◌+◌, ◌≤◌, pos, Some, Ok}
use Rattle.lists.specs.Text.{word_end}
use Rattle.lists.specs.Numbers.{number_at}
use Rattle.pmv.specs.Kinds.{chroma_from}
use Rattle.inter_reconstruction.specs.declared.frames.FrameGeometry.{FrameGeometry}
use Rattle.drawn.specs.Draws.{number_after, drawn}
use Rattle.drawn.specs.declared.references.Extent.{Extent}
use Rattle.drawn.specs.declared.references.Plane.{Plane}
use Rattle.drawn.specs.declared.references.Planes.{Planes}

pub record IsEmpty (p : Plane) : Type 0 where
  pub width : p.sides.width ≡ 0
  pub height : p.sides.height ≡ 0
  pub samples : p.samples.items ≡ []

pub record AreEmpty (p : Planes) : Type 0 where
  pub y : IsEmpty p.y
  pub cb : IsEmpty p.cb
  pub cr : IsEmpty p.cr

-- this number stands at a place
abbrev pub NumberAt : List ℕ → ℕ → ℕ → Type 0
NumberAt s at n = number_at s at ≡ Ok (pos n)

-- the place behind three words
abbrev pub third_end : List ℕ → ℕ → ℕ
third_end s at = word_end s (word_end s (word_end s at))

-- the place behind the extents of three planes
abbrev pub extents_end : List ℕ → ℕ → ℕ
extents_end s at = third_end s (third_end s (third_end s at))

-- and behind SEED
abbrev pub planes_end : List ℕ → ℕ → ℕ
planes_end s at = word_end s (extents_end s at)

-- WIDTH HEIGHT LENGTH
pub record ExtentAt (s : List ℕ) (at : ℕ) (e : Extent) : Type 0 where
  pub width : NumberAt s at e.sides.width
  pub height : NumberAt s (word_end s at) e.sides.height
  pub length : NumberAt s (word_end s (word_end s at)) e.length

-- WIDTH HEIGHT CHROMA
pub record GeometryAt (s : List ℕ) (at : ℕ) (g : FrameGeometry) : Type 0 where
  pub chroma : ℕ
  pub width : NumberAt s at g.width
  pub height : NumberAt s (word_end s at) g.height
  pub chroma_at : NumberAt s (word_end s (word_end s at)) chroma
  pub chroma_format : chroma_from chroma ≡ Some g.chroma_format

-- a plane of an extent, whose samples are the next of a run
pub record DrawnFrom (last : ℕ) (e : Extent) (p : Plane) : Type 0 where
  pub sides : p.sides ≡ e.sides
  pub samples : p.samples.items ≡ drawn last e.length

-- those of each plane, and SEED, from which the samples of all three are one run
pub record PlanesAt (s : List ℕ) (at most : ℕ) (p : Planes) : Type 0 where
  pub seed : ℕ
  pub y : Extent
  pub cb : Extent
  pub cr : Extent
  pub y_at : ExtentAt s at y
  pub cb_at : ExtentAt s (third_end s at) cb
  pub cr_at : ExtentAt s (third_end s (third_end s at)) cr
  pub seed_at : NumberAt s (extents_end s at) seed
  pub few : y.length + cb.length + cr.length ≤ most
  pub y_drawn : DrawnFrom seed y p.y
  pub cb_drawn : DrawnFrom (number_after seed y.length) cb p.cb
  pub cr_drawn : DrawnFrom (number_after (number_after seed y.length) cb.length) cr p.cr
