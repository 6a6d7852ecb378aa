-- Which buckets of a version are done since they were done in the version before.
use Rattle.std.specs.Prelude.{◌≡◌, ℕ, ◌<◌, ◌≤◌, List, length, slice_index_or, Contains, Some, Option, MatchOption}
use Rattle.std.specs.List.{AllZip}
use Rattle.std.specs.declared.cmp.Ordering.TheVariants.{Less}
use Rattle.bucket_grid.specs.declared.cell.Cell.{Cell}
use Rattle.bucket_grid.specs.declared.bucket_table.Bucket.{Bucket}
use Rattle.bucket_grid.specs.Cells.{cell_cmp, members, IsBucket}
use Rattle.bucket_grid.specs.Grids.{GridValue}
use Rattle.bucket_check.specs.ClashSets.{SetValue, IsSame, subjects_at, IsUnmoved, IsSetOf}
use Rattle.clash_delta.specs.declared.slot.Slot.{Slot}
use Rattle.clash_delta.specs.BucketProgress.{IsDone}

-- the cell was a bucket of the version before and done there, its members have the same keys, classes, storeys and
-- triangles in both, and the rules are the same
pub record IsCarried (done : List Slot) (before after : GridValue) (cell : Cell) : Type 0 where
  pub was_bucket : IsBucket before.boxes cell
  pub was_done : IsDone done cell
  pub unmoved : IsUnmoved before after cell

-- the set that the cell had, for a version with this grid: its project and its pairs stay
pub record IsMoved (done : List Slot) (after : GridValue) (version : ℕ) (cell : Cell)
    (set : SetValue) : Type 0 where
  pub old : SetValue
  pub was : Contains done (record { cell = cell; set = Some old })
  pub work : set.work ≡ record { project = old.work.project; version = version; cell = cell; grid = after }
  pub pairs : set.pairs ≡ old.pairs

-- what is carried to the bucket of a cell: a set exactly where it is carried, right in the version
pub record IsCarriedSet (done : List Slot) (before after : GridValue) (version : ℕ) (cell : Cell)
    (set : SetValue)
    : Type 0 where
  pub carried : IsCarried done before after cell
  pub moved : IsMoved done after version cell set
  pub right : IsSetOf after cell set

-- .. or none
abbrev pub IsCarriedTo : List Slot → GridValue → GridValue → ℕ → Cell → Option SetValue → Type 0
IsCarriedTo done before after version cell set =
    MatchOption set (IsCarried done before after cell → ⊥) (IsCarriedSet done before after version cell)

-- the bucket at a place before is that of the cell, and its members are those of the cell now, unchanged
pub record IsUnmovedAt (before after : GridValue) (place : ℕ) (cell : Cell) : Type 0 where
  pub within : place < length before.buckets
  pub is : (d : Bucket) → (slice_index_or before.buckets place d).cell ≡ cell
  pub members :
      AllZip IsSame (subjects_at before (members before.boxes cell))
      (subjects_at after (members after.boxes cell))

-- where a cell stands among buckets: those before the place are of lower cells, that at the place isn't
pub record IsReachedCell (buckets : List Bucket) (cell : Cell) (place : ℕ) : Type 0 where
  pub within : place ≤ length buckets
  pub below : (k : ℕ) (d : Bucket) → k < place → cell_cmp (slice_index_or buckets k d).cell cell ≡ Less
  pub first : (d : Bucket) → place < length buckets
      → cell_cmp (slice_index_or buckets place d).cell cell ≡ Less → ⊥
