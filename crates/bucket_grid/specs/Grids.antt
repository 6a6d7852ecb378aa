-- A grid: a version, the boxes of its elements by number, and its buckets.
use Rattle.std.specs.Prelude.{◌≡◌, ℕ, ◌≤◌, List, length, All}
use Rattle.std.specs.List.{AllZip}
use Rattle.bim_model.specs.declared.geometry.Extent.{Extent}
use Rattle.bim_model.specs.Snapshots.{Version}
use Rattle.bucket_grid.specs.declared.subjects.Member.{Member}
use Rattle.bucket_grid.specs.declared.bucket_table.Bucket.{Bucket}
use Rattle.bucket_grid.specs.Cells.{memberships}
use Rattle.bim_model.specs.Keys.{subjects_of}
use Rattle.bucket_grid.specs.declared.grid.TheConstants.{MOST_ELEMENTS, MOST_MEMBERSHIPS}
use Rattle.bucket_grid.specs.Subjects.{AreBoxes}
use Rattle.bucket_grid.specs.ElementPlaces.{IsPlace, IsGridBox}
use Rattle.bucket_grid.specs.BucketTable.{IsTable}

-- what a grid holds: a version, where its elements stand and their boxes by number, and the buckets
pub record GridValue : Type 0 where
  pub version : Version
  pub places : List Member
  pub boxes : List Extent
  pub buckets : List Bucket

-- the places and boxes are those of the version's elements, and the buckets are theirs
pub record IsGrid (version : Version) (places : List Member) (boxes : List Extent) (buckets : List Bucket)
    : Type 0 where
  pub placed : AllZip (IsPlace version.models) (subjects_of version.models) places
  pub boxed : AreBoxes (subjects_of version.models) boxes
  pub near : All IsGridBox boxes
  pub table : IsTable boxes buckets
  pub small : length boxes ≤ MOST_ELEMENTS
  pub few : memberships boxes ≤ MOST_MEMBERSHIPS

-- so many pairs of a cell and a member of it
pub record HasMemberships (version : Version) (count : ℕ) : Type 0 where
  pub boxes : List Extent
  pub boxed : AreBoxes (subjects_of version.models) boxes
  pub counted : count ≡ memberships boxes
