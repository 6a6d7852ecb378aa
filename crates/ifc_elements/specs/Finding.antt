-- Instances by their numbers. A world is the list of a file's instances.
use Rattle.std.specs.Prelude.{◌≡◌, ℕ, List, map, Some}
use Rattle.p21_values.specs.declared.value.Instance.{Instance}
use Rattle.p21_values.specs.InstanceLookup.{look}

-- the instance of that number, and it holds of it
pub record Finds (world : List Instance) (id : ℕ) (P : Instance → Type 0) : Type 0 where
  pub instance : Instance
  pub found : look world id ≡ Some instance
  pub holds : P instance

-- these are the numbers of those instances, one after another
abbrev pub Number : List Instance → List ℕ → List Instance → Type 0
Number world ids instances = map (look world) ids ≡ map Some instances
