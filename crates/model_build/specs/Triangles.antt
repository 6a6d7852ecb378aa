-- How many triangles there are, counted up to a million.
use Rattle.std.specs.Prelude.{◌≡◌, ℕ, ◌<◌, ◌≤◌, List, sum_by, Option, Some, None, MatchOption}
use Rattle.bim_model.specs.declared.limits.TheConstants.{MOST_TRIANGLES}
use Rattle.p21_values.specs.declared.value.Instance.{Instance}
use Rattle.ifc_schema.specs.Surveys.{IsModelElement, Lists}
use Rattle.ifc_elements.specs.Items.{count_of, items_of, item_count}
use Rattle.p21_values.specs.InstanceLookup.{look}

-- how many the model elements have together
pub record HasTriangles (world : List Instance) (count : ℕ) : Type 0 where
  pub ids : List ℕ
  pub lists : Lists (IsModelElement world) ids
  pub sum : sum_by (count_of world) ids ≡ count

-- the most triangles of a model
abbrev pub most_triangles : ℕ
most_triangles = MOST_TRIANGLES

-- they count to so many, or they are more than a million
abbrev pub CountsTo : ℕ → Option ℕ → Type 0
CountsTo count found = MatchOption found (most_triangles < count) (λ n. (n ≡ count) × (n ≤ most_triangles))

-- the triangles of the items of a representation, where there is one
abbrev pub items_count : List Instance → Option Instance → ℕ
items_count world None = 0
items_count world (Some r) = sum_by (item_count world) (items_of world r)

-- how many triangles the items of the representation of that number have
abbrev pub body_count : List Instance → ℕ → ℕ
body_count world id = items_count world (look world id)
