-- What the pools keep of a file, by the places of its instances.
use Rattle.std.specs.Prelude.{◌≡◌, ℕ, ◌<◌, Bool, true, List, length, Option, Some, None}
use Rattle.std.specs.List.{HoldsAt}
use Rattle.bim_model.specs.declared.upload.Mode.{Mode}
use Rattle.bim_model.specs.declared.geometry.Point.{Point}
use Rattle.p21_values.specs.declared.value.Instance.{Instance}
use Rattle.ifc_instances.specs.declared.entity.Entity.TheVariants.{PointList}
use Rattle.ifc_instances.specs.EntityLookup.{is_a}
use Rattle.ifc_schema.specs.Flaws.{InstanceFlaw}
use Rattle.ifc_units.specs.declared.scale.Scale.{Scale}
use Rattle.faceset.specs.FaceSets.{is_set, HasBadIndex}
use Rattle.ifc_elements.specs.PointTables.{IsListOf}
use Rattle.ifc_elements.specs.Sound.{IsKept}
use Rattle.model_walk.specs.declared.set_pool.SetRows.{SetRows}
use Rattle.walk_rows.specs.Pools.{pooled}
use Rattle.walk_rows.specs.Rows.{triangles_at}

-- an instance is a list of points on the grid, these are they, and it has one
abbrev pub HasPoints : Scale → Mode → List Point → Instance → Type 0
HasPoints scale mode points i = IsListOf scale mode i points × (0 < length points)

-- what a pool has for a place are the points of the list that stands there
abbrev pub ArePooled : List Instance → Scale → Mode → List (Option (List Point)) → Type 0
ArePooled world scale mode pool = (at : ℕ) (points : List Point) → pooled pool at ≡ Some points
    → HoldsAt (HasPoints scale mode points) world at

-- it has the points of each list that stands at one of these places
abbrev pub HasLists : List Instance → (ℕ → Type 0) → List (Option (List Point)) → Type 0
HasLists world Of pool = (at : ℕ) → Of at → HoldsAt (λ i. is_a PointList i ≡ true) world at
    → (points : List Point) × (pooled pool at ≡ Some points)

-- A set was read: its list has these points, its rows say its triangles, no index counts nothing, and it has the form of its row.
pub record IsRead (world : List Instance) (scale : Scale) (mode : Mode) (points : List (Option (List Point)))
    (kept : SetRows) (set : Instance) : Type 0 where
  pub kind : is_set set ≡ true
  pub found : List Point
  pub there : pooled points kept.list ≡ Some found
  pub rows : IsKept world scale mode (triangles_at found kept.rows) set
  pub some : 0 < length kept.rows
  pub indexed : HasBadIndex world set → ⊥
  pub formed : (mapped : Bool) → InstanceFlaw world mapped set None

-- what a pool has for a place is what was read of the set that stands there
abbrev pub AreReadSets : List Instance → Scale → Mode → List (Option (List Point)) → List (Option SetRows)
    → Type 0
AreReadSets world scale mode points pool = (at : ℕ) (kept : SetRows) → pooled pool at ≡ Some kept
    → HoldsAt (IsRead world scale mode points kept) world at
