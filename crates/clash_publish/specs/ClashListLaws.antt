-- The list of all clashes of a version is determined.
use Rattle.std.specs.Prelude.{◌≡◌, List, map, AllPairs, Contains}
use Rattle.bim_model.specs.declared.keys.Pair.{Pair}
use Rattle.bim_model.specs.Snapshots.{Version, IsSnapshot}
use Rattle.bucket_check.specs.declared.pair.SetPair.{SetPair}
use Rattle.bucket_check.specs.Clashes.{clashes, IsBefore}
use Rattle.clash_publish.specs.Listed.{IsClash, by_keys, IsKeyClash, IsKeyBefore}

-- pairs that rise strictly, and are exactly the clashes of the version
pub record AreClashes (version : Version) (pairs : List SetPair) : Type 0 where
  pub rising : AllPairs IsBefore pairs
  pub each : (p : SetPair) → Contains pairs p → IsClash version p
  pub all : (p : SetPair) → IsClash version p → Contains pairs p

-- the clashes are such a list, and there is no other
pub record ClashesAreListed : Type 0 where
  pub are : (version : Version) → AreClashes version (clashes version)
  pub one : (version : Version) (pairs : List SetPair) → AreClashes version pairs → pairs ≡ clashes version

-- pairs of keys that rise strictly, and are exactly the clashes of the version
pub record AreKeyClashes (version : Version) (pairs : List Pair) : Type 0 where
  pub rising : AllPairs IsKeyBefore pairs
  pub each : (p : Pair) → Contains pairs p → IsKeyClash version p
  pub all : (p : Pair) → IsKeyClash version p → Contains pairs p

-- the clashes by keys are such a list
abbrev pub ClashesAreListedByKeys : Type 0
ClashesAreListedByKeys =
    (version : Version) → IsSnapshot version.models
    → AreKeyClashes version (map (by_keys version) (clashes version))
