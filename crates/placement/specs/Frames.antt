-- Frames: where the points of an object lie in what it is placed in (IFC4 ADD2 TC1, IfcAxis2Placement3D).
use Rattle.std.specs.Prelude.{◌≢◌, ℕ, ◌<◌, ◌==◌, if◌then◌else◌, ℤ, pos, negsuc, ◌+ℤ◌, ◌-ℤ◌, ◌*ℤ◌, ◌≤ℤ◌}
use Rattle.bim_model.specs.declared.geometry.Point.{Point}
use Rattle.bim_model.specs.Models.{farthest}
use Rattle.placement.specs.declared.axis.Axis.{Axis}
use Rattle.placement.specs.declared.axes.Axes.{Axes}
use Rattle.placement.specs.declared.frame.Offset.{Offset}
use Rattle.placement.specs.declared.frame.Frame.{Frame}

-- one, or minus one
abbrev pub sign_of : Axis → ℤ
sign_of axis = if axis.negative then negsuc 0 else pos 1

-- the component of its unit vector in that direction
abbrev pub along : Axis → ℕ → ℤ
along axis direction = if axis.direction == direction then sign_of axis else pos 0

-- what the three lengths along the frame's axes make in that direction
abbrev pub component : Frame → Offset → ℕ → ℤ
component f lengths direction =
    lengths.x *ℤ along f.x direction +ℤ lengths.y *ℤ along f.y direction +ℤ lengths.z *ℤ along f.z direction

-- a point as an offset
abbrev pub lengths_of : Point → Offset
lengths_of p = record { x = p.x; y = p.y; z = p.z }

-- an offset as a point
abbrev pub point_at : Offset → Point
point_at at = record { x = at.x; y = at.y; z = at.z }

-- Where a point of the object lies: from the frame's offset its first coordinate along the frame's x, its second along y, its third along z.
abbrev pub carried : Frame → Point → Point
carried f p = record {
  x = f.offset.x +ℤ component f (lengths_of p) 0;
  y = f.offset.y +ℤ component f (lengths_of p) 1;
  z = f.offset.z +ℤ component f (lengths_of p) 2;
}

-- the frame of these axes whose zero point lies there
abbrev pub frame_at : Axes → Offset → Frame
frame_at axes offset = record { x = axes.x; y = axes.y; z = axes.z; offset = offset }

-- the axes lie in three different directions of 0, 1 and 2
pub record IsFrame (f : Frame) : Type 0 where
  pub x : f.x.direction < 3
  pub y : f.y.direction < 3
  pub z : f.z.direction < 3
  pub x_y : f.x.direction ≢ f.y.direction
  pub x_z : f.x.direction ≢ f.z.direction
  pub y_z : f.y.direction ≢ f.z.direction

-- a number is that far from zero at most
pub record IsWithin (bound : ℕ) (n : ℤ) : Type 0 where
  pub low : (pos 0 -ℤ pos bound) ≤ℤ n
  pub high : n ≤ℤ pos bound

-- each of the three is that far from zero at most
pub record AreWithin (bound : ℕ) (lengths : Offset) : Type 0 where
  pub x : IsWithin bound lengths.x
  pub y : IsWithin bound lengths.y
  pub z : IsWithin bound lengths.z

-- within 800 metres of zero
pub record IsNear (n : ℤ) : Type 0 where
  pub low : (pos 0 -ℤ farthest) ≤ℤ n
  pub high : n ≤ℤ farthest

-- 10^15
abbrev pub most : ℕ
most = 1000000000000000
