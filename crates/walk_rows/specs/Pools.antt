-- What is kept of instances, by their places.
use Rattle.std.specs.Prelude.{◌≡◌, ◌≢◌, ℕ, zero, suc, List, length, Option, Some, None, slice_index_or}
use Rattle.std.specs.List.{slice_get}

-- what a slot says: nothing, or which of the kept ones
abbrev pub slot_in : {T : Type 0} → List T → ℕ → Option T
slot_in kept zero = None
slot_in kept (suc at) = slice_get kept at

-- what a pool has for a place
abbrev pub pooled : {T : Type 0} → List (Option T) → ℕ → Option T
pooled pool at = slice_index_or pool at None

-- one more is kept, for that place
pub record Pools {T : Type 0} (old new : List (Option T)) (at : ℕ) (item : T) : Type 0 where
  pub size : length new ≡ length old
  pub here : pooled new at ≡ Some item
  pub others : (other : ℕ) → other ≢ at → pooled new other ≡ pooled old other
