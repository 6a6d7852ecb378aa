-- Places in the list of instances.
use Rattle.std.specs.Prelude.{◌≡◌, ◌≢◌, ℕ, ◌<◌, List, length}
use Rattle.std.specs.List.{HoldsAt}
use Rattle.p21_values.specs.declared.value.Instance.{Instance}
use Rattle.std.specs.Prelude.{map}
use Rattle.std.specs.Ordering.{nat_cmp}
use Rattle.std.specs.List.Sorted.{IsStrictlySortedBy}

-- the first instance of that number stands there
pub record IsPlaceOf (world : List Instance) (id at : ℕ) : Type 0 where
  pub within : at < length world
  pub number : HoldsAt (λ (i : Instance). i.id ≡ id) world at
  pub first : (k : ℕ) → k < at → HoldsAt (λ (i : Instance). i.id ≢ id) world k

-- each instance's id is below the ids of those after it
abbrev pub Rises : List Instance → Type 0
Rises instances = IsStrictlySortedBy nat_cmp (map (λ i. i.id) instances)
