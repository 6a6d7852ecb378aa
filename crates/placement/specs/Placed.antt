-- Where the placements of a file lie (IFC4 ADD2 TC1, IfcLocalPlacement, IfcAxis2Placement3D).
use Rattle.std.specs.Prelude.{◌≡◌, ◌≢◌, ℕ, ◌+◌, ◌⊎◌, List, Option, Some, None, Contains}
use Rattle.std.specs.Map.{lookup}
use Rattle.std.specs.Ordering.{nat_cmp}
use Rattle.std.specs.BTreeMap.{is_at}
use Rattle.bim_model.specs.declared.geometry.Point.{Point}
use Rattle.bim_model.specs.declared.upload.Mode.{Mode}
use Rattle.p21_values.specs.declared.value.Value21.{Value21}
use Rattle.p21_values.specs.declared.value.Instance.{Instance}
use Rattle.p21_values.specs.Attributes.{value_at, referred_at}
use Rattle.ifc_units.specs.declared.scale.Scale.{Scale}
use Rattle.ifc_units.specs.Lengths.{IsPoint, reach}
use Rattle.placement.specs.declared.axes.Axes.{Axes}
use Rattle.placement.specs.declared.frame.Frame.{Frame}
use Rattle.placement.specs.Frames.{carried, lengths_of, frame_at, IsFrame, AreWithin, most}
use Rattle.placement.specs.Directions.{HasAxes}
use Rattle.placement.specs.Chains.{parent_of}

-- The location of the axis placement of that number: its attribute 0 refers to an instance whose attribute 0 is the point.
pub record IsLocation (world : List Instance) (scale : Scale) (mode : Mode) (id : ℕ)
    (p : Point) : Type 0 where
  pub to : ℕ
  pub refers : referred_at world id 0 ≡ Some to
  pub value : Value21
  pub there : value_at world to 0 ≡ Some value
  pub is_point : IsPoint scale mode value p

-- the frame of the axis placement of that number: its axes, and its location for the zero point
pub record AxisFrame (world : List Instance) (scale : Scale) (mode : Mode) (id : ℕ) (f : Frame) : Type 0 where
  pub axes : Axes
  pub has_axes : HasAxes world id axes
  pub location : Point
  pub is_location : IsLocation world scale mode id location
  pub frame : f ≡ frame_at axes (lengths_of location)

-- The frame of a placement in what it stands in: that of the axis placement to which its attribute 1 refers.
pub record OwnFrame (world : List Instance) (scale : Scale) (mode : Mode) (id : ℕ) (f : Frame) : Type 0 where
  pub to : ℕ
  pub refers : referred_at world id 1 ≡ Some to
  pub given : AxisFrame world scale mode to f

-- a frame carries points as first the inner frame does and then the outer one
abbrev pub IsComposed : Frame → Frame → Frame → Type 0
IsComposed outer inner f = (p : Point) → carried f p ≡ carried outer (carried inner p)

-- The frame of a placement in the building: its own, then that of its parent, and so on to the placement that stands in none.
pub data FrameOf (world : List Instance) (scale : Scale) (mode : Mode) : ℕ → Frame → Type 0 where
  outermost : (id : ℕ) (f : Frame) → parent_of world id ≡ Some None → OwnFrame world scale mode id f
      → FrameOf world scale mode id f
  within : (id parent : ℕ) (own outer f : Frame) → parent_of world id ≡ Some (Some parent)
      → OwnFrame world scale mode id own → FrameOf world scale mode parent outer → IsComposed outer own f
      → FrameOf world scale mode id f

-- it is the frame of that placement, and its offset is within 10^15
pub record IsPlaced (world : List Instance) (scale : Scale) (mode : Mode) (id : ℕ) (f : Frame) : Type 0 where
  pub frame_of : FrameOf world scale mode id f
  pub is_frame : IsFrame f
  pub near : AreWithin most f.offset

-- the frames of exactly these placements
pub record AreFrames (world : List Instance) (scale : Scale) (mode : Mode) (ids : List ℕ)
    (frames : ℕ → Option Frame) : Type 0 where
  pub sound : (id : ℕ) (f : Frame) → frames id ≡ Some f → IsPlaced world scale mode id f
  pub listed : (id : ℕ) (f : Frame) → frames id ≡ Some f → Contains ids id
  pub all : (id : ℕ) → Contains ids id → (f : Frame) × (frames id ≡ Some f)

-- one of these placements has no frame of its own
pub record LacksFrame (world : List Instance) (scale : Scale) (mode : Mode) (ids : List ℕ) : Type 0 where
  pub id : ℕ
  pub listed : Contains ids id
  pub none : (f : Frame) → OwnFrame world scale mode id f → ⊥

-- what a list of numbers and frames says of a number: the first of its frames
abbrev pub frame_in : List (ℕ × Frame) → ℕ → Option Frame
frame_in entries id = lookup (is_at (nat_cmp id)) entries

-- What is known while frames are composed. No public contract cites it.

-- a placement stands in none, or in one that has a frame already
abbrev pub StandsOn : List Instance → (ℕ → Option Frame) → ℕ → Type 0
StandsOn world frames id = (parent_of world id ≡ Some None)
    ⊎ ((parent : ℕ) × (outer : Frame) × (parent_of world id ≡ Some (Some parent))
    × (frames parent ≡ Some outer))

-- each frame has its offset within the bound
abbrev pub AllWithin : ℕ → (ℕ → Option Frame) → Type 0
AllWithin bound frames = (id : ℕ) (f : Frame) → frames id ≡ Some f → AreWithin bound f.offset

-- each frame is that of its placement
abbrev pub AllPlaced : List Instance → Scale → Mode → (ℕ → Option Frame) → Type 0
AllPlaced world scale mode frames = (id : ℕ) (f : Frame) → frames id ≡ Some f → IsPlaced world scale mode id f

-- the placement's frame, in the same frames as before
pub record Composed (world : List Instance) (scale : Scale) (mode : Mode) (frames : ℕ → Option Frame)
    (id : ℕ) (f : Frame) : Type 0 where
  pub frame_of : FrameOf world scale mode id f
  pub is_frame : IsFrame f
  pub near : (bound : ℕ) → AllWithin bound frames → AreWithin (bound + reach) f.offset

-- one more frame
pub record Puts (old new : ℕ → Option Frame) (id : ℕ) (f : Frame) : Type 0 where
  pub here : new id ≡ Some f
  pub others : (other : ℕ) → other ≢ id → new other ≡ old other
