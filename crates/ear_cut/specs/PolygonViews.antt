-- The view in which a polygon is cut: along the axis of the normal's greatest component.
use Rattle.std.specs.Prelude.{ℤ, pos, ◌-ℤ◌, ◌*ℤ◌, unsigned_abs, int_lt, Bool, true, false, ◌&&◌, ◌||◌, not, if◌then◌else◌, nat_le, Option, Some, None}
use Rattle.std.specs.Ordering.{int_eq}
use Rattle.bim_model.specs.declared.geometry.Point.{Point}
use Rattle.ear_cut.specs.declared.polygon_view.Axis.{Axis}
use Rattle.ear_cut.specs.declared.polygon_view.Axis.TheVariants.{X, Y, Z}
use Rattle.ear_cut.specs.declared.polygon_view.View.{View}
use Rattle.exact_arith.specs.Space.{Vector, is_nowhere}

-- the axis of the greatest component by size, the first on a tie
abbrev pub axis_of : Vector → Axis
axis_of n =
    if nat_le (unsigned_abs n.y) (unsigned_abs n.x) && nat_le (unsigned_abs n.z) (unsigned_abs n.x) then X
    else (if nat_le (unsigned_abs n.z) (unsigned_abs n.y) then Y else Z)

-- the component of a vector along an axis
abbrev pub component : Axis → Vector → ℤ
component X n = n.x
component Y n = n.y
component Z n = n.z

-- the view along the normal's greatest component, with its sign; none where the normal is zero
abbrev pub view_of : Vector → Option View
view_of n = if is_nowhere n then None
    else Some (record { axis = axis_of n; reversed = int_lt (component (axis_of n) n) (pos 0) })

-- a point as the view shows it
pub record Spot : Type 0 where
  pub u : ℤ
  pub v : ℤ

-- a point as it is seen along an axis
abbrev pub seen : Axis → Point → Spot
seen X p = record { u = p.y; v = p.z }
seen Y p = record { u = p.z; v = p.x }
seen Z p = record { u = p.x; v = p.y }

-- the cross product of the steps from a to b and from b to c
abbrev pub bend : Spot → Spot → Spot → ℤ
bend a b c = (b.u -ℤ a.u) *ℤ (c.v -ℤ b.v) -ℤ (b.v -ℤ a.v) *ℤ (c.u -ℤ b.u)

-- with the sign of the view
abbrev pub signed : Bool → ℤ → ℤ
signed true x = pos 0 -ℤ x
signed false x = x

-- twice the area of the triangle abc in the view: above zero where it turns as the whole polygon does
unfoldable pub area : View → Spot → Spot → Spot → ℤ
area view a b c = signed view.reversed (bend a b c)

-- two spots are one
abbrev pub same_spot : Spot → Spot → Bool
same_spot a b = int_eq a.u b.u && int_eq a.v b.v

-- p is shown at a corner of the triangle
abbrev pub is_corner : Spot → Spot → Spot → Spot → Bool
is_corner a b c p = same_spot p a || (same_spot p b || same_spot p c)

-- p lies on no outer side of an edge of abc, a triangle of positive area, and stands at none of its corners
unfoldable pub holds : View → Spot → Spot → Spot → Spot → Bool
holds view a b c p =
    not (int_lt (area view a b p) (pos 0))
    && (not (int_lt (area view b c p) (pos 0))
    && (not (int_lt (area view c a p) (pos 0)) && not (is_corner a b c p)))
