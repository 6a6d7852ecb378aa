-- The law that cell by cell all clashes are found.
use Rattle.std.specs.Prelude.{◌≡◌, ◌↔◌, List, map, AllPairs, Contains}
use Rattle.bim_model.specs.declared.geometry.Extent.{Extent}
use Rattle.bim_model.specs.Rules.{IsRules}
use Rattle.bim_model.specs.Snapshots.{Version}
use Rattle.bim_model.specs.Keys.{subjects_of}
use Rattle.bucket_grid.specs.declared.cell.Cell.{Cell}
use Rattle.bucket_grid.specs.Cells.{IsOwner, IsBucket, members}
use Rattle.bucket_grid.specs.Subjects.{AreBoxes}
use Rattle.box_lanes.specs.BoxPlaces.{box_at}
use Rattle.bucket_check.specs.declared.pair.SetPair.{SetPair}
use Rattle.bucket_check.specs.Clashes.{clashes, owner, own_clashes, IsBefore}
use Rattle.bucket_check.specs.ClashSets.{found_among, pair_at}

-- a clash has an owner: the least cell of which both elements are members; it is a bucket
abbrev pub ClashesAreOwned : Type 0
ClashesAreOwned =
    (version : Version) (boxes : List Extent)
    → IsRules version.rules → AreBoxes (subjects_of version.models) boxes
    → (p : SetPair) → Contains (clashes version) p
    → IsOwner (owner boxes p) (box_at boxes p.a) (box_at boxes p.b) × IsBucket boxes (owner boxes p)

-- no clash is owned by two cells
abbrev pub ClashesAreOwnedOnce : Type 0
ClashesAreOwnedOnce =
    (version : Version) (boxes : List Extent) (c d : Cell) (p : SetPair)
    → Contains (own_clashes version boxes c) p → Contains (own_clashes version boxes d) p → c ≡ d

-- the pair is one of a bucket's
abbrev pub IsOfBucket : Version → List Extent → SetPair → Type 0
IsOfBucket version boxes p =
    (cell : Cell) × IsBucket boxes cell × Contains (own_clashes version boxes cell) p

-- what the buckets own, listed in the order of pairs, are all clashes
abbrev pub PartsAreClashes : Type 0
PartsAreClashes =
    (version : Version) (boxes : List Extent)
    → IsRules version.rules → AreBoxes (subjects_of version.models) boxes
    → (all : List SetPair) → AllPairs IsBefore all
    → ((p : SetPair) → Contains all p ↔ IsOfBucket version boxes p) → all ≡ clashes version

-- what is found among a cell's members is what the cell owns
abbrev pub FoundIsOwned : Type 0
FoundIsOwned =
    (version : Version) (boxes : List Extent) (cell : Cell)
    → IsRules version.rules → AreBoxes (subjects_of version.models) boxes
    → map (pair_at (members boxes cell)) (found_among version boxes cell (members boxes cell))
    ≡ own_clashes version boxes cell
