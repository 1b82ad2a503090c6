-- What a line says at the place of a cursor that has moved, and what is drawn from where a run has come to.
-- Assumes nothing.
use mathlib.Core.Path.{◌≡◌, ◌∙◌}
use mathlib.Core.List.{List}
use Prim.Native.Nat.{ℕ}
use Rattle.lists.specs.Places.{MovesTo}
use Rattle.lists.specs.declared.cursor.Cursor.{Cursor}
use Rattle.drawn.specs.Fields.{NumberAt, third_end, planes_end, ExtentAt, DrawnFrom}
use Rattle.drawn.specs.declared.references.Extent.{Extent}
use Rattle.drawn.specs.declared.references.Plane.{Plane}

pub third_moved : {s t : List ℕ} {at to : ℕ} → t ≡ s → to ≡ at → third_end t to ≡ third_end s at
third_moved text place = rw (text, place)

-- a word, and then planes
pub planes_moved : {old word new : Cursor} {to : ℕ} → MovesTo old word to → MovesTo word new (planes_end word.text.now word.at)
    → MovesTo old new (planes_end old.text.now to)
planes_moved {old} {word} {new} h k = record { text = k.text ∙ h.text; place = k.place ∙ rw (h.text, h.place) }

pub number_moved : {s t : List ℕ} {at to n : ℕ} → t ≡ s → to ≡ at → NumberAt t to n → NumberAt s at n
number_moved text place h = rw (← text, ← place) h

pub extent_moved : {s t : List ℕ} {at to : ℕ} {e : Extent} → t ≡ s → to ≡ at → ExtentAt t to e → ExtentAt s at e
extent_moved text place h = rw (← text, ← place) h

pub drawn_moved : {a b : ℕ} {e : Extent} {p : Plane} → a ≡ b → DrawnFrom a e p → DrawnFrom b e p
drawn_moved last h = rw (← last) h
