-- The storeys that elements stand in (IFC4 ADD2 TC1, IfcBuildingStorey).
use Rattle.std.specs.Prelude.{◌≡◌, ℕ, List, Option, Some, None}
use Rattle.p21_values.specs.declared.value.Instance.{Instance}
use Rattle.spatial_tree.specs.Trees.{StoreyOf}
use Rattle.ifc_elements.specs.ElementTexts.{name_at}

-- the name of the storey that an object stands in, if it stands in one
abbrev pub IsStoreyName : List Instance → ℕ → Option (List ℕ) → Type 0
IsStoreyName world id None = (storey : ℕ) → StoreyOf world id storey → ⊥
IsStoreyName world id (Some name) =
    (storey : ℕ) × StoreyOf world id storey × (name_at world storey ≡ Some name)
