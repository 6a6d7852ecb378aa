-- What a walk that gives elements says of the file: it has no fault, and these are its elements.
use Rattle.std.specs.Prelude.{◌≢◌, ℕ, ◌<◌, ◌≤◌, List, sum_by, Contains, AllPairs}
use Rattle.std.specs.List.{AllZip}
use Rattle.bim_model.specs.declared.upload.Mode.{Mode}
use Rattle.bim_model.specs.declared.element.Element.{Element}
use Rattle.bim_model.specs.declared.limits.TheConstants.{MOST_TRIANGLES}
use Rattle.p21_values.specs.declared.value.Instance.{Instance}
use Rattle.ifc_schema.specs.Used.{Used}
use Rattle.ifc_schema.specs.Surveys.{IsModelElement, Lists}
use Rattle.ifc_units.specs.declared.scale.Scale.{Scale}
use Rattle.ifc_units.specs.Units.{IsLengthUnit}
use Rattle.spatial_tree.specs.Trees.{IsTree}
use Rattle.ifc_elements.specs.Items.{count_of}
use Rattle.ifc_elements.specs.ElementReadiness.{IsNearElement}
use Rattle.model_walk.specs.Clean.{IsCleanAt}

-- The file has a length unit and a tree; all that is used is clean; and these are its elements, by rising numbers: in reach, each with a triangle,
-- not too many triangles together, and no two with the same identifier.
pub record IsWalked (world : List Instance) (mode : Mode) (elements : List Element) : Type 0 where
  pub scale : Scale
  pub unit : IsLengthUnit world scale
  pub tree : IsTree world
  pub clean : (id : ℕ) → Used world id → IsCleanAt world scale mode id
  pub ids : List ℕ
  pub lists : Lists (IsModelElement world) ids
  pub each : AllZip (IsNearElement world scale mode) ids elements
  pub some : (id : ℕ) → Contains ids id → 0 < count_of world id
  pub few : sum_by (count_of world) ids ≤ MOST_TRIANGLES
  pub differ : AllPairs (λ (e f : Element). e.guid.chars ≢ f.guid.chars) elements
