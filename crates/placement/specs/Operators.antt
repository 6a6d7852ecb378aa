-- Where a mapped item lies (IFC4 ADD2 TC1, IfcCartesianTransformationOperator3D): the axes and the origin of an operator, along the grid's.
use Rattle.std.specs.Prelude.{◌≡◌, ℕ, ◌==◌, ◌||◌, if◌then◌else◌, pos, List, Option, Some, None}
use Rattle.std.specs.List.{slice_get}
use Rattle.bim_model.specs.declared.geometry.Point.{Point}
use Rattle.bim_model.specs.declared.upload.Mode.{Mode}
use Rattle.p21_values.specs.declared.value.Value21.{Value21}
use Rattle.p21_values.specs.declared.value.Instance.{Instance}
use Rattle.p21_values.specs.Attributes.{value_at, referred_at}
use Rattle.p21_values.specs.InstanceLookup.{look}
use Rattle.ifc_units.specs.declared.scale.Scale.{Scale}
use Rattle.ifc_units.specs.Lengths.{IsPoint}
use Rattle.placement.specs.declared.axis.Axis.{Axis}
use Rattle.placement.specs.declared.axes.Axes.{Axes}
use Rattle.placement.specs.declared.direction.Direction.{Direction}
use Rattle.placement.specs.declared.direction.Vector.{Vector}
use Rattle.placement.specs.declared.frame.Frame.{Frame}
use Rattle.placement.specs.Frames.{lengths_of, frame_at}
use Rattle.placement.specs.Directions.{Directs, LiesAlong, cleaned, cross, unit, without, first_direction, second_direction}

-- What a file says.

-- an attribute names this direction, or is missing or absent
abbrev pub MayDirect : List Instance → Option Value21 → Option Direction → Type 0
MayDirect world None None = Unit {0}
MayDirect world None (Some d) = ⊥
MayDirect world (Some v) d = Directs world v d

-- the operator of that number gives these for its Axis1, its Axis2 and its Axis3
pub record OperatorDirections (world : List Instance) (id : ℕ)
    (axis1 axis2 axis3 : Option Direction) : Type 0 where
  pub instance : Instance
  pub found : look world id ≡ Some instance
  pub first : MayDirect world (slice_get instance.values 0) axis1
  pub second : MayDirect world (slice_get instance.values 1) axis2
  pub third : MayDirect world (slice_get instance.values 4) axis3

-- Axes.

-- The second axis of an operator, without its components along z and x. An absent one is that of y, or z × x where z or x lies along y.
abbrev pub third_direction : Axis → Axis → Option Direction → Vector
third_direction z x None = if z.direction == 1 || x.direction == 1
    then cross (unit z) (unit x) else record { x = pos 0; y = pos 1; z = pos 0 }
third_direction z x (Some d) = without x (without z (cleaned d))

-- Three directions, which may be absent, give these axes: z lies along the third, x along what the first has across z, and y along what the
-- second has across both. They may be mirrored.
pub record GiveOperatorAxes (axis1 axis2 axis3 : Option Direction) (axes : Axes) : Type 0 where
  pub z : LiesAlong (first_direction axis3) axes.z
  pub x : LiesAlong (without axes.z (second_direction axes.z axis1)) axes.x
  pub y : LiesAlong (third_direction axes.z axes.x axis2) axes.y

-- what the operator of that number gives can be read
pub record HasOperatorDirections (world : List Instance) (id : ℕ) : Type 0 where
  pub axis1 : Option Direction
  pub axis2 : Option Direction
  pub axis3 : Option Direction
  pub directions : OperatorDirections world id axis1 axis2 axis3

-- the operator of that number has these axes
pub record HasOperatorAxes (world : List Instance) (id : ℕ) (axes : Axes) : Type 0 where
  pub axis1 : Option Direction
  pub axis2 : Option Direction
  pub axis3 : Option Direction
  pub directions : OperatorDirections world id axis1 axis2 axis3
  pub given : GiveOperatorAxes axis1 axis2 axis3 axes

-- the directions of the operator of that number give no axes along the grid's
pub record ObliqueOperator (world : List Instance) (id : ℕ) : Type 0 where
  pub axis1 : Option Direction
  pub axis2 : Option Direction
  pub axis3 : Option Direction
  pub directions : OperatorDirections world id axis1 axis2 axis3
  pub none : (axes : Axes) → GiveOperatorAxes axis1 axis2 axis3 axes → ⊥

-- Frames.

-- The origin of the operator of that number: its attribute 2 refers to an instance whose attribute 0 is the point.
pub record IsOrigin (world : List Instance) (scale : Scale) (mode : Mode) (id : ℕ) (p : Point) : Type 0 where
  pub to : ℕ
  pub refers : referred_at world id 2 ≡ Some to
  pub value : Value21
  pub there : value_at world to 0 ≡ Some value
  pub is_point : IsPoint scale mode value p

-- the frame of the operator of that number: its axes, and its origin for the zero point
pub record OperatorFrame (world : List Instance) (scale : Scale) (mode : Mode) (id : ℕ)
    (f : Frame) : Type 0 where
  pub axes : Axes
  pub has_axes : HasOperatorAxes world id axes
  pub origin : Point
  pub is_origin : IsOrigin world scale mode id origin
  pub frame : f ≡ frame_at axes (lengths_of origin)
