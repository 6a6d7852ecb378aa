-- The surface of an element: the triangles of all items of its bodies, in their order, placed in the building (IFC4 ADD2 TC1, IfcProduct,
-- IfcMappedItem).
use Rattle.std.specs.Prelude.{◌≡◌, ℕ, true, List, map, Any, Option, Some, None}
use Rattle.std.specs.Bool.{MatchBool}
use Rattle.std.specs.List.{slice_get}
use Rattle.bim_model.specs.declared.upload.Mode.{Mode}
use Rattle.bim_model.specs.declared.geometry.Point.{Point}
use Rattle.bim_model.specs.declared.geometry.Triangle.{Triangle}
use Rattle.bim_model.specs.Boxes.{corners_of}
use Rattle.bim_model.specs.Models.{IsInReach}
use Rattle.p21_values.specs.declared.value.Instance.{Instance}
use Rattle.ifc_units.specs.declared.scale.Scale.{Scale}
use Rattle.p21_values.specs.Values.{is_absent}
use Rattle.ifc_instances.specs.EntityLookup.{some_passes}
use Rattle.placement.specs.declared.frame.Frame.{Frame}
use Rattle.placement.specs.Frames.{carried}
use Rattle.placement.specs.Placed.{FrameOf}
use Rattle.placement.specs.Operators.{OperatorFrame}
use Rattle.faceset.specs.FaceSets.{Joined, SetTriangles, spelled_points}
use Rattle.p21_values.specs.Attributes.{reference_at}
use Rattle.ifc_elements.specs.Items.{body_items, is_mapped_item, mapped_sets}
use Rattle.ifc_units.specs.Lengths.{ArePoints}

-- the points of a set on the grid
abbrev pub SetPoints : List Instance → Scale → Mode → Instance → List Point → Type 0
SetPoints world scale mode set points = ArePoints scale mode (spelled_points world set) points

-- the triangles of a set in its own coordinates
pub record SetSurface (world : List Instance) (scale : Scale) (mode : Mode) (set : Instance)
    (triangles : List Triangle) : Type 0 where
  pub points : List Point
  pub are_points : SetPoints world scale mode set points
  pub are_triangles : SetTriangles world points set triangles

-- a triangle carried by a frame
abbrev pub moved : Frame → Triangle → Triangle
moved frame t = record { a = carried frame t.a; b = carried frame t.b; c = carried frame t.c }

-- the triangles of a mapped item: those of the sets that it maps, carried by its operator
pub record MappedSurface (world : List Instance) (scale : Scale) (mode : Mode) (item : Instance)
    (triangles : List Triangle) : Type 0 where
  pub operator : ℕ
  pub refers : reference_at item 1 ≡ Some operator
  pub frame : Frame
  pub is_frame : OperatorFrame world scale mode operator frame
  pub own : List Triangle
  pub of_sets : Joined (SetSurface world scale mode) (mapped_sets world item) own
  pub all : triangles ≡ map (moved frame) own

-- the triangles of an item in the coordinates of its element
abbrev pub ItemSurface : List Instance → Scale → Mode → Instance → List Triangle → Type 0
ItemSurface world scale mode item triangles =
    MatchBool (is_mapped_item item) (MappedSurface world scale mode item triangles)
    (SetSurface world scale mode item triangles)

-- how an element is placed: by a frame, or not at all where it names no placement
abbrev pub IsPlacedBy : List Instance → Scale → Mode → Instance → Option Frame → Type 0
IsPlacedBy world scale mode i None = some_passes is_absent (slice_get i.values 5) ≡ true
IsPlacedBy world scale mode i (Some frame) =
    (placement : ℕ) × (reference_at i 5 ≡ Some placement) × FrameOf world scale mode placement frame

-- a point carried by a frame, where there is one
abbrev pub carried_by : Option Frame → Point → Point
carried_by None p = p
carried_by (Some frame) p = carried frame p

-- a triangle carried by a frame, where there is one
abbrev pub placed_by : Option Frame → Triangle → Triangle
placed_by frame t = record { a = carried_by frame t.a; b = carried_by frame t.b; c = carried_by frame t.c }

-- the triangles of an element in the building
pub record IsSurface (world : List Instance) (scale : Scale) (mode : Mode) (i : Instance)
    (triangles : List Triangle) : Type 0 where
  pub own : List Triangle
  pub of_items : Joined (ItemSurface world scale mode) (body_items world i) own
  pub frame : Option Frame
  pub placed : IsPlacedBy world scale mode i frame
  pub all : triangles ≡ map (placed_by frame) own

-- a corner of a triangle of the element isn't in reach
pub record IsBeyond (world : List Instance) (scale : Scale) (mode : Mode) (i : Instance) : Type 0 where
  pub triangles : List Triangle
  pub surface : IsSurface world scale mode i triangles
  pub beyond : Any (λ p. IsInReach p → ⊥) (corners_of triangles)
