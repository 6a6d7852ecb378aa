-- What is known while the walk looks at one instance after another.
use Rattle.std.specs.Prelude.{◌≢◌, ℕ, ◌+◌, ◌<◌, Bool, List, length, AllPairs, slice_index_or}
use Rattle.std.specs.List.{HoldsAt}
use Rattle.bim_model.specs.declared.upload.Mode.{Mode}
use Rattle.bim_model.specs.declared.element.Element.{Element}
use Rattle.p21_values.specs.declared.value.Instance.{Instance}
use Rattle.p21_values.specs.InstancePlaces.{IsPlaceOf}
use Rattle.ifc_schema.specs.Used.{Used}
use Rattle.ifc_units.specs.declared.scale.Scale.{Scale}
use Rattle.model_walk.specs.Clean.{IsClean, IsCleanAt}

-- the instance at a place is clean; whether it is mapped is given
abbrev pub IsCleanBy : List Instance → Scale → Mode → Bool → ℕ → Type 0
IsCleanBy world scale mode mapped at =
    HoldsAt (λ (i : Instance). IsClean world scale mode mapped i.id i) world at

-- the instance at a place is clean, where it is used
abbrev pub CleanThere : List Instance → Scale → Mode → ℕ → Type 0
CleanThere world scale mode at = (id : ℕ) → IsPlaceOf world id at → Used world id
    → IsCleanAt world scale mode id

-- all that is used is clean
abbrev pub AllClean : List Instance → Scale → Mode → Type 0
AllClean world scale mode = (id : ℕ) → Used world id → IsCleanAt world scale mode id

-- no two have the same identifier
abbrev pub Differ : List Element → Type 0
Differ elements = AllPairs (λ (e f : Element). e.guid.chars ≢ f.guid.chars) elements

-- no two that stand side by side are the same
abbrev pub Alternate : List (List ℕ) → Type 0
Alternate guids = (k : ℕ) (d : List ℕ) → k + 1 < length guids
    → slice_index_or guids k d ≢ slice_index_or guids (k + 1) d
