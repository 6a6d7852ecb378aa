-- How many points the lists of a file have (IFC4 ADD2 TC1, IfcCartesianPointList3D).
use Rattle.std.specs.Prelude.{◌≡◌, ℕ, ◌<◌, ◌^◌, List, Some, length}
use Rattle.p21_values.specs.declared.value.Instance.{Instance}
use Rattle.p21_values.specs.InstanceLookup.{look}
use Rattle.faceset.specs.Reaches.{kept_in}
use Rattle.faceset.specs.FaceSets.{listed_in}

-- what stands there by the numbers of lists of points is how many points they have; a list may lack
abbrev pub AreCounts : List Instance → List (ℕ × ℕ) → Type 0
AreCounts world entries = (id count : ℕ) → kept_in entries id ≡ Some count
    → (count ≡ length (listed_in (look world id))) × (count < 2 ^ 63)
