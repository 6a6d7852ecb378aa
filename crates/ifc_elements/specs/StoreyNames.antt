-- The names of storeys, by the numbers of the storeys.
use Rattle.std.specs.Prelude.{◌≡◌, ◌≢◌, ℕ, List, Option, Some}
use Rattle.std.specs.Map.{lookup}
use Rattle.std.specs.Ordering.{nat_cmp}
use Rattle.std.specs.BTreeMap.{is_at}
use Rattle.p21_values.specs.declared.value.Instance.{Instance}
use Rattle.ifc_elements.specs.ElementTexts.{name_at}

-- the name that is kept for a number
abbrev pub name_in : List (ℕ × List ℕ) → ℕ → Option (List ℕ)
name_in entries id = lookup (is_at (nat_cmp id)) entries

-- what stands there by a number is the name of its instance; a storey may lack
abbrev pub AreNames : List Instance → List (ℕ × List ℕ) → Type 0
AreNames world entries = (id : ℕ) (name : List ℕ) → name_in entries id ≡ Some name
    → name_at world id ≡ Some name

-- the name of one storey more
pub record PutsName (old new : ℕ → Option (List ℕ)) (id : ℕ) (name : List ℕ) : Type 0 where
  pub here : new id ≡ Some name
  pub others : (other : ℕ) → other ≢ id → new other ≡ old other
