-- The axes of an axis placement (IFC4 ADD2 TC1, IfcAxis2Placement3D, and its function IfcBuildAxes), where they lie along the grid's.
use Rattle.std.specs.Prelude.{◌≡◌, ℕ, ◌<◌, ◌==◌, ◌||◌, Bool, true, if◌then◌else◌, ℤ, pos, negsuc, ◌-ℤ◌, ◌*ℤ◌, List, [], ◌∷◌, Option, Some, None, option_and_then}
use Rattle.std.specs.List.{slice_get}
use Rattle.std.specs.Ordering.{is_lt}
use Rattle.bim_text.specs.declared.decimal.Decimal.{Decimal}
use Rattle.bim_text.specs.ScaledNumbers.{raised, size_order}
use Rattle.bim_text.specs.Decimals.{Reads, value_of}
use Rattle.p21_values.specs.declared.value.Value21.{Value21}
use Rattle.p21_values.specs.declared.value.Instance.{Instance}
use Rattle.p21_values.specs.Values.{number_of, reference_of, items_of, is_absent}
use Rattle.p21_values.specs.InstanceLookup.{look}
use Rattle.placement.specs.declared.axis.Axis.{Axis}
use Rattle.placement.specs.declared.axes.Axes.{Axes}
use Rattle.placement.specs.declared.direction.Direction.{Direction}
use Rattle.placement.specs.declared.direction.Vector.{Vector}
use Rattle.placement.specs.Frames.{along}

-- What a file says.

-- three spelled numbers
pub record Spelled : Type 0 where
  pub x : List ℕ
  pub y : List ℕ
  pub z : List ℕ

-- three numbers, where all are there
abbrev pub all_three : Option (List ℕ) → Option (List ℕ) → Option (List ℕ) → Option Spelled
all_three (Some x) (Some y) (Some z) = Some (record { x = x; y = y; z = z })
all_three (Some x) (Some y) None = None
all_three (Some x) None _ = None
all_three None _ _ = None

-- the numbers of exactly three values
abbrev pub three_numbers : List Value21 → Option Spelled
three_numbers (a ∷ b ∷ c ∷ []) = all_three (number_of a) (number_of b) (number_of c)
three_numbers _ = None

-- the three numbers that an instance's first value lists
abbrev pub coordinates : Instance → Option Spelled
coordinates i = option_and_then three_numbers (option_and_then items_of (slice_get i.values 0))

-- the numbers of the point or the direction of that number
abbrev pub numbers_of : List Instance → ℕ → Option Spelled
numbers_of world id = option_and_then coordinates (look world id)

-- the values of the direction of that number
pub record IsDirection (world : List Instance) (id : ℕ) (d : Direction) : Type 0 where
  pub spelled : Spelled
  pub numbers : numbers_of world id ≡ Some spelled
  pub x : Reads spelled.x d.x
  pub y : Reads spelled.y d.y
  pub z : Reads spelled.z d.z

-- a value names this direction, or is absent
abbrev pub Directs : List Instance → Value21 → Option Direction → Type 0
Directs world v None = is_absent v ≡ true
Directs world v (Some d) = (to : ℕ) × (reference_of v ≡ Some to) × IsDirection world to d

-- the axis placement of that number gives these for its z axis and for its x axis
pub record Directions (world : List Instance) (id : ℕ) (axis reference : Option Direction) : Type 0 where
  pub instance : Instance
  pub found : look world id ≡ Some instance
  pub first : Value21
  pub first_there : slice_get instance.values 1 ≡ Some first
  pub first_says : Directs world first axis
  pub second : Value21
  pub second_there : slice_get instance.values 2 ≡ Some second
  pub second_says : Directs world second reference

-- Cleaning: a component is 0 where a million times its size is still below that of another; of the others the signs count.

-- a million times the first is still smaller than the second
abbrev pub is_dwarfed : Decimal → Decimal → Bool
is_dwarfed small great = is_lt (size_order (raised (value_of small) (pos 6)) (value_of great))

-- a component is dwarfed by another one of the direction
abbrev pub is_faint : Direction → Decimal → Bool
is_faint d component = is_dwarfed component d.x || is_dwarfed component d.y || is_dwarfed component d.z

-- -1, 0 or 1
abbrev pub sign : Decimal → ℤ
sign d = if d.digits == 0 then pos 0 else (if d.negative then negsuc 0 else pos 1)

-- the sign of a component, or 0 where it is faint
abbrev pub cleaned_component : Direction → Decimal → ℤ
cleaned_component d component = if is_faint d component then pos 0 else sign component

-- a direction by the signs of its components, without faint ones
abbrev pub cleaned : Direction → Vector
cleaned d = record { x = cleaned_component d d.x; y = cleaned_component d d.y; z = cleaned_component d d.z }

-- Axes.

-- the vector of length one along an axis
abbrev pub unit : Axis → Vector
unit axis = record { x = along axis 0; y = along axis 1; z = along axis 2 }

-- exactly one component isn't 0, that in the axis's direction, and it has the axis's sign
abbrev pub LiesAlong : Vector → Axis → Type 0
LiesAlong v axis = (axis.direction < 3) × (v ≡ unit axis)

-- without the component along an axis
abbrev pub without : Axis → Vector → Vector
without axis v = record {
  x = if axis.direction == 0 then pos 0 else v.x;
  y = if axis.direction == 1 then pos 0 else v.y;
  z = if axis.direction == 2 then pos 0 else v.z;
}

-- the cross product
abbrev pub cross : Vector → Vector → Vector
cross v w = record {
  x = v.y *ℤ w.z -ℤ v.z *ℤ w.y;
  y = v.z *ℤ w.x -ℤ v.x *ℤ w.z;
  z = v.x *ℤ w.y -ℤ v.y *ℤ w.x;
}

-- an absent first direction is that of z
abbrev pub first_direction : Option Direction → Vector
first_direction None = record { x = pos 0; y = pos 0; z = pos 1 }
first_direction (Some d) = cleaned d

-- An absent second direction is that of x, or that of y where the z axis lies along x.
abbrev pub second_direction : Axis → Option Direction → Vector
second_direction z None = if z.direction == 0
    then record { x = pos 0; y = pos 1; z = pos 0 } else record { x = pos 1; y = pos 0; z = pos 0 }
second_direction z (Some d) = cleaned d

-- Two directions, which may be absent, give these axes: z lies along the first, x along what the second has across z, and y is z × x.
pub record GiveAxes (axis reference : Option Direction) (axes : Axes) : Type 0 where
  pub z : LiesAlong (first_direction axis) axes.z
  pub x : LiesAlong (without axes.z (second_direction axes.z reference)) axes.x
  pub y : LiesAlong (cross (unit axes.z) (unit axes.x)) axes.y

-- what the axis placement of that number gives can be read
pub record HasDirections (world : List Instance) (id : ℕ) : Type 0 where
  pub axis : Option Direction
  pub reference : Option Direction
  pub directions : Directions world id axis reference

-- the axis placement of that number has these axes
pub record HasAxes (world : List Instance) (id : ℕ) (axes : Axes) : Type 0 where
  pub axis : Option Direction
  pub reference : Option Direction
  pub directions : Directions world id axis reference
  pub given : GiveAxes axis reference axes

-- the directions of the axis placement of that number give no axes along the grid's
pub record Oblique (world : List Instance) (id : ℕ) : Type 0 where
  pub axis : Option Direction
  pub reference : Option Direction
  pub directions : Directions world id axis reference
  pub none : (axes : Axes) → GiveAxes axis reference axes → ⊥
