-- From which count on the indexes of faces count something (IFC4 ADD2 TC1, IfcIndexedPolygonalFace).
use Rattle.std.specs.Prelude.{◌≡◌, ◌≢◌, ℕ, ◌≤◌, List, Option, Some, All}
use Rattle.std.specs.Map.{lookup}
use Rattle.std.specs.Ordering.{nat_cmp}
use Rattle.std.specs.BTreeMap.{is_at}
use Rattle.p21_values.specs.declared.value.Value21.{Value21}
use Rattle.p21_values.specs.declared.value.Instance.{Instance}
use Rattle.p21_values.specs.InstanceLookup.{look}
use Rattle.faceset.specs.Indexes.{PointsNowhere}
use Rattle.faceset.specs.FaceSets.{all_corners}

-- where there are so many things, or more, an index counts one of them
abbrev pub CountsFrom : ℕ → Value21 → Type 0
CountsFrom reach v = (count : ℕ) → reach ≤ count → PointsNowhere count v → ⊥

-- the count that is kept for a number
abbrev pub kept_in : List (ℕ × ℕ) → ℕ → Option ℕ
kept_in entries id = lookup (is_at (nat_cmp id)) entries

-- where there are so many things, or more, each index of the face of that number counts one of them
pub record FaceCountsFrom (world : List Instance) (id reach : ℕ) : Type 0 where
  pub face : Instance
  pub found : look world id ≡ Some face
  pub reaches : All (CountsFrom reach) (all_corners face)

-- what stands there by the numbers of faces is so; a face may lack
abbrev pub AreReaches : List Instance → List (ℕ × ℕ) → Type 0
AreReaches world entries = (id reach : ℕ) → kept_in entries id ≡ Some reach → FaceCountsFrom world id reach

-- one count more
pub record PutsKept (old new : ℕ → Option ℕ) (id count : ℕ) : Type 0 where
  pub here : new id ≡ Some count
  pub others : (other : ℕ) → other ≢ id → new other ≡ old other

-- what stands there by a number is within so many
pub record IsWithin (entries : List (ℕ × ℕ)) (id count : ℕ) : Type 0 where
  pub reach : ℕ
  pub kept : kept_in entries id ≡ Some reach
  pub within : reach ≤ count
