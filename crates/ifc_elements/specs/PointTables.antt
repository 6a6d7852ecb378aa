-- The points of a file (IFC4 ADD2 TC1, IfcCartesianPointList3D).
use Rattle.std.specs.Prelude.{◌≡◌, ℕ, true, List, Option, Some, None}
use Rattle.std.specs.List.{AllZip, slice_get}
use Rattle.bim_model.specs.declared.upload.Mode.{Mode}
use Rattle.bim_model.specs.declared.geometry.Point.{Point}
use Rattle.p21_values.specs.declared.value.Instance.{Instance}
use Rattle.ifc_instances.specs.declared.entity.Entity.TheVariants.{PointList}
use Rattle.ifc_instances.specs.EntityLookup.{is_a}
use Rattle.ifc_units.specs.declared.scale.Scale.{Scale}
use Rattle.ifc_units.specs.Lengths.{ArePoints}
use Rattle.p21_values.specs.Attributes.{listed}
use Rattle.ifc_elements.specs.Finding.{Finds}

-- an instance is a list of points, and these are they
pub record IsListOf (scale : Scale) (mode : Mode) (i : Instance) (points : List Point) : Type 0 where
  pub kind : is_a PointList i ≡ true
  pub are : ArePoints scale mode (listed i 0) points

-- In a table there is a place for each instance, where the points of a list of points stand.

-- the points of an instance, or none where it has no list of points
abbrev pub Tabled : Scale → Mode → Instance → Option (List Point) → Type 0
Tabled scale mode i None = (points : List Point) → IsListOf scale mode i points → ⊥
Tabled scale mode i (Some points) = IsListOf scale mode i points

-- the table has for each instance its points
abbrev pub IsTable : List Instance → Scale → Mode → List (Option (List Point)) → Type 0
IsTable world scale mode table = AllZip (Tabled scale mode) world table

-- what stands at a place, if there is one
abbrev pub kept_in : Option (Option (List Point)) → Option (List Point)
kept_in None = None
kept_in (Some kept) = kept

-- the points at a place of the table
abbrev pub kept_at : List (Option (List Point)) → ℕ → Option (List Point)
kept_at table at = kept_in (slice_get table at)

-- the instance of that number is a list of points, and these are they
abbrev pub ListsPoints : List Instance → Scale → Mode → ℕ → List Point → Type 0
ListsPoints world scale mode id points = Finds world id (λ i. IsListOf scale mode i points)
