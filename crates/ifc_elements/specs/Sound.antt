-- What sets and items have of which surfaces can be made, and the triangles that are kept of sets.
use Rattle.std.specs.Prelude.{◌≡◌, ◌≢◌, ℕ, true, List, ◌++◌, Option, Some, Contains, All, length, sum_by}
use Rattle.std.specs.Bool.{MatchBool}
use Rattle.std.specs.Map.{lookup}
use Rattle.std.specs.Ordering.{nat_cmp}
use Rattle.std.specs.BTreeMap.{is_at}
use Rattle.bim_model.specs.declared.upload.Mode.{Mode}
use Rattle.bim_model.specs.declared.geometry.Point.{Point}
use Rattle.bim_model.specs.declared.geometry.Triangle.{Triangle}
use Rattle.bim_model.specs.Boxes.{corners_of}
use Rattle.bim_model.specs.Models.{IsInReach}
use Rattle.p21_values.specs.declared.value.Value21.{Value21}
use Rattle.p21_values.specs.declared.value.Instance.{Instance}
use Rattle.p21_values.specs.InstanceLookup.{look}
use Rattle.p21_values.specs.Values.{reference_of}
use Rattle.ifc_units.specs.declared.scale.Scale.{Scale}
use Rattle.placement.specs.declared.frame.Frame.{Frame}
use Rattle.placement.specs.Frames.{carried, IsFrame, AreWithin, most}
use Rattle.placement.specs.Operators.{OperatorFrame}
use Rattle.faceset.specs.FaceSets as sets
use Rattle.ifc_elements.specs.Finding.{Finds}
use Rattle.p21_values.specs.Attributes.{reference_at}
use Rattle.ifc_elements.specs.PointTables.{ListsPoints}
use Rattle.ifc_elements.specs.Items.{is_mapped_item, spelled_items, spelled_sets, mapped_sets, item_count}
use Rattle.ifc_elements.specs.Surfaces.{carried_by, SetSurface, MappedSurface, ItemSurface}

-- a set refers to a list of points on the grid, and each of its indexes names one of them
pub record IsSoundSet (world : List Instance) (scale : Scale) (mode : Mode) (set : Instance) : Type 0 where
  pub list : ℕ
  pub refers : reference_at set 0 ≡ Some list
  pub points : List Point
  pub listed : ListsPoints world scale mode list points
  pub sound : sets.IsSound world points set

-- The triangles of sets, by the numbers of the sets.

-- the triangles that are kept for a number
abbrev pub set_in : List (ℕ × List Triangle) → ℕ → Option (List Triangle)
set_in entries id = lookup (is_at (nat_cmp id)) entries

-- the triangles that are kept of a set
pub record IsKept (world : List Instance) (scale : Scale) (mode : Mode) (triangles : List Triangle)
    (set : Instance) : Type 0 where
  pub surface : SetSurface world scale mode set triangles
  pub near : All IsInReach (corners_of triangles)
  pub count : length triangles ≡ sets.triangle_count world set

-- all corners that are kept are in reach
abbrev pub AllNear : List (ℕ × List Triangle) → Type 0
AllNear entries = (id : ℕ) (triangles : List Triangle) → set_in entries id ≡ Some triangles
    → All IsInReach (corners_of triangles)

-- the triangles of one set more
pub record Puts (old new : ℕ → Option (List Triangle)) (id : ℕ) (triangles : List Triangle) : Type 0 where
  pub here : new id ≡ Some triangles
  pub others : (other : ℕ) → other ≢ id → new other ≡ old other

-- each of the listed sets has its triangles there
pub record AreSets (world : List Instance) (scale : Scale) (mode : Mode) (listed : List ℕ)
    (entries : List (ℕ × List Triangle)) : Type 0 where
  pub sound : (id : ℕ) (triangles : List Triangle) → set_in entries id ≡ Some triangles
      → Finds world id (IsKept world scale mode triangles)
  pub all : (id : ℕ) → Contains listed id → Finds world id (λ s. sets.is_set s ≡ true)
      → (triangles : List Triangle) × (set_in entries id ≡ Some triangles)

-- where a set is sound, one of its faces can't be cut
abbrev pub IsUncutSet : List Instance → Scale → Mode → Instance → Type 0
IsUncutSet world scale mode set =
    (sound : IsSoundSet world scale mode set) → (face : ℕ) × sets.HasStuck world sound.points set face

-- the instance of that number is a set like that
abbrev pub IsUncutAt : List Instance → Scale → Mode → ℕ → Type 0
IsUncutAt world scale mode id = Finds world id (λ s. (sets.is_set s ≡ true) × IsUncutSet world scale mode s)

-- one of the listed sets is like that
pub record IsUncut (world : List Instance) (scale : Scale) (mode : Mode) (listed : List ℕ) : Type 0 where
  pub id : ℕ
  pub here : Contains listed id
  pub set : IsUncutAt world scale mode id

-- Items whose surfaces can be had from those of the listed sets.

-- a value that refers to an instance refers to a listed set
abbrev pub ReadySet : List Instance → List ℕ → Value21 → Type 0
ReadySet world listed v = (id : ℕ) → reference_of v ≡ Some id → (s : Instance) → look world id ≡ Some s
    → (sets.is_set s ≡ true) × Contains listed id

-- a mapped item has an operator with a frame, and maps listed sets
pub record ReadyMapped (world : List Instance) (scale : Scale) (mode : Mode) (listed : List ℕ)
    (item : Instance) : Type 0 where
  pub operator : ℕ
  pub refers : reference_at item 1 ≡ Some operator
  pub frame : Frame
  pub is_frame : OperatorFrame world scale mode operator frame
  pub sets : All (ReadySet world listed) (spelled_sets world item)

-- a value that refers to an instance refers to such an item, or to a listed set
abbrev pub ReadyItem : List Instance → Scale → Mode → List ℕ → Value21 → Type 0
ReadyItem world scale mode listed v =
    (id : ℕ) → reference_of v ≡ Some id → (i : Instance) → look world id ≡ Some i
    → MatchBool (is_mapped_item i) (ReadyMapped world scale mode listed i)
    ((sets.is_set i ≡ true) × Contains listed id)

-- all items of a body are like that
abbrev pub ReadyBody : List Instance → Scale → Mode → List ℕ → Instance → Type 0
ReadyBody world scale mode listed r = All (ReadyItem world scale mode listed) (spelled_items r)

-- Surfaces with as many triangles as are counted.

-- the surface of a set, and as many triangles as are counted of it
abbrev pub KeptSet : List Instance → Scale → Mode → Instance → List Triangle → Type 0
KeptSet world scale mode set triangles =
    SetSurface world scale mode set triangles × (length triangles ≡ sets.triangle_count world set)

-- the surface of a mapped item, and as many triangles as are counted of it
abbrev pub KeptMapped : List Instance → Scale → Mode → Instance → List Triangle → Type 0
KeptMapped world scale mode item triangles =
    MappedSurface world scale mode item triangles
    × (length triangles ≡ sum_by (sets.triangle_count world) (mapped_sets world item))

-- the surface of an item, and as many triangles as are counted of it
abbrev pub KeptItem : List Instance → Scale → Mode → Instance → List Triangle → Type 0
KeptItem world scale mode item triangles =
    ItemSurface world scale mode item triangles × (length triangles ≡ item_count world item)

-- Triangles that are added to others.

-- what was added is such triangles
abbrev pub Adds : (List Triangle → Type 0) → List Triangle → List Triangle → Type 0
Adds Gives old new = (more : List Triangle) × Gives more × (new ≡ old ++ more)

-- A frame carries points as one that may lack does.
pub record Carries (given : Option Frame) (frame : Frame) : Type 0 where
  pub same : (p : Point) → carried frame p ≡ carried_by given p
  pub is_frame : IsFrame frame
  pub near : AreWithin most frame.offset

-- a corner isn't in reach
abbrev pub IsOut : Point → Type 0
IsOut p = IsInReach p → ⊥
