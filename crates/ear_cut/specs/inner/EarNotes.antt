-- What the code notes of each corner that remains.
use Rattle.std.specs.Prelude.{ℕ, ◌≡◌, ◌-◌, ◌<◌, ◌≤◌, ◌==◌, nat_lt, if◌then◌else◌, List, length, slice_index_or, remove, Bool, true, false, not, ◌&&◌, Option, Some, None}
use Rattle.ear_cut.specs.declared.polygon_view.View.{View}
use Rattle.ear_cut.specs.declared.corners.Corner.{Corner}
use Rattle.ear_cut.specs.declared.corners.Turn.{Turn}
use Rattle.ear_cut.specs.declared.corners.Angle.{Angle}
use Rattle.ear_cut.specs.declared.corners.Angle.TheVariants.{Straight, Convex, Reflex}
use Rattle.ear_cut.specs.declared.corner_notes.Note.{Note}
use Rattle.ear_cut.specs.declared.corner_frames.Frames.{Frames}
use Rattle.ear_cut.specs.Corners.{nobody, turn_at, angle_of, AreInGrid}
use Rattle.ear_cut.specs.Removal.{is_free, choice}
use Rattle.ear_cut.specs.inner.CornerFrames.{AreFramesIn}

-- the note of a corner of which nothing is known
abbrev pub blank : Note
blank = record { angle = Straight; held = false; clear = 0 }

-- the note of a corner whose triangle has not been searched
abbrev pub fresh : Option View → List Corner → ℕ → Note
fresh view left i = record { angle = angle_of view (turn_at left i); held = false; clear = 0 }

-- how many corners, from the first on, a triangle is clear of with the i-th taken out of the list
abbrev pub clear_without : ℕ → ℕ → ℕ
clear_without i n = if nat_lt i n then (n - 1) else n

-- a note with the i-th corner taken out of the list
abbrev pub shifted : ℕ → Note → Note
shifted i note = record {
  angle = note.angle;
  held = note.held && not (i == note.clear);
  clear = clear_without i note.clear;
}

-- the place, among n corners, that is after the i-th once that is taken out
abbrev pub place_behind : ℕ → ℕ → ℕ
place_behind n i = if i == n then 0 else i

-- the note of a corner tells without a search that it is no ear
abbrev pub settles : Angle → Bool → Bool
settles Convex held = held
settles Straight held = true
settles Reflex held = true

-- the note of a corner, with its triangle searched, says that it is an ear of n corners
abbrev pub tells_at : Angle → Bool → Bool
tells_at Convex whole = whole
tells_at Straight whole = false
tells_at Reflex whole = false

-- a note says that its corner is an ear
abbrev pub tells_ear : Note → ℕ → Bool
tells_ear note n = tells_at note.angle (note.clear == n)

-- the first number below n that passes
abbrev pub IsFirst : (ℕ → Bool) → ℕ → Option ℕ → Type 0
IsFirst test n (Some i) = (i < n) × (test i ≡ true) × ((k : ℕ) → k < i → test k ≡ false)
IsFirst test n None = (k : ℕ) → k < n → test k ≡ false

-- the first n corners that remain are free of the triangle t
pub record IsClearTo (view : Option View) (left : List Corner) (t : Turn) (n : ℕ) : Type 0 where
  pub within : n ≤ length left
  pub free : (j : ℕ) → j < n → is_free view t (slice_index_or left j nobody) ≡ true

-- the n-th corner that remains is in the triangle t
pub record IsHeldAt (view : Option View) (left : List Corner) (t : Turn) (n : ℕ) : Type 0 where
  pub within : n < length left
  pub held : is_free view t (slice_index_or left n nobody) ≡ false

-- the note of the i-th corner is true
pub record IsTrueOf (view : Option View) (left : List Corner) (i : ℕ) (note : Note) : Type 0 where
  pub angle : note.angle ≡ angle_of view (turn_at left i)
  pub clear : IsClearTo view left (turn_at left i) note.clear
  pub held : note.held ≡ true → IsHeldAt view left (turn_at left i) note.clear

-- each note is true, of as many corners as remain
pub record IsNoted (view : Option View) (left : List Corner) (notes : List Note) : Type 0 where
  pub count : length notes ≡ length left
  pub each : (i : ℕ) → i < length left → IsTrueOf view left i (slice_index_or notes i blank)

-- corners and their notes, from which the i-th was taken out
pub record IsTaken (view : Option View) (left : List Corner) (notes : List Note) (i : ℕ) : Type 0 where
  pub from : List Corner
  pub told : List Note
  pub noted : IsNoted view from told
  pub i_in : i < length from
  pub many : 3 < length from
  pub left_is : left ≡ remove from i
  pub notes_is : notes ≡ remove told i

-- the corner that goes next is taken out: between its neighbours it was t
pub record IsRemoval (view : Option View) (from : List Corner) (t : Turn) (left : List Corner)
    (frames : Frames) (notes : List Note) : Type 0 where
  pub i : ℕ
  pub chosen : choice view from ≡ Some i
  pub turn : t ≡ turn_at from i
  pub i_in : i < length from
  pub left_is : left ≡ remove from i
  pub in_grid : AreInGrid left
  pub framed : AreFramesIn view left frames
  pub noted : IsNoted view left notes
