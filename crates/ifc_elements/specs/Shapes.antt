-- The bodies of product shapes, by the numbers of the shapes.
use Rattle.std.specs.Prelude.{◌≡◌, ◌≢◌, ℕ, List, Option, Some}
use Rattle.std.specs.Map.{lookup}
use Rattle.std.specs.Ordering.{nat_cmp}
use Rattle.std.specs.BTreeMap.{is_at}
use Rattle.p21_values.specs.declared.value.Instance.{Instance}
use Rattle.ifc_elements.specs.Finding.{Finds, Number}
use Rattle.ifc_elements.specs.Items.{bodies_of}

-- the bodies that are kept for a number
abbrev pub bodies_in : List (ℕ × List ℕ) → ℕ → Option (List ℕ)
bodies_in entries id = lookup (is_at (nat_cmp id)) entries

-- what stands there by the number of a shape are the numbers of its bodies; a shape may lack
abbrev pub AreShapes : List Instance → List (ℕ × List ℕ) → Type 0
AreShapes world entries = (id : ℕ) (ids : List ℕ) → bodies_in entries id ≡ Some ids
    → Finds world id (λ shape. Number world ids (bodies_of world shape))

-- the bodies of one shape more
pub record PutsBodies (old new : ℕ → Option (List ℕ)) (id : ℕ) (ids : List ℕ) : Type 0 where
  pub here : new id ≡ Some ids
  pub others : (other : ℕ) → other ≢ id → new other ≡ old other
