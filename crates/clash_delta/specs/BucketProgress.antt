-- How far the check of a grid's buckets has come: for each bucket, in the grid's order, its set where it is done.
use Rattle.std.specs.Prelude.{◌≡◌, cond, is_none, IfSome, IsSome, List, map, filter, All, Any, Some}
use Rattle.std.specs.Option.{unwrap_or}
use Rattle.bucket_grid.specs.declared.cell.Cell.{Cell}
use Rattle.bucket_grid.specs.declared.bucket_table.Bucket.{Bucket}
use Rattle.bucket_grid.specs.Grids.{GridValue}
use Rattle.bucket_check.specs.Clashes.{is_cell}
use Rattle.bucket_check.specs.ClashSets.{SetValue, IsSetOf}
use Rattle.clash_delta.specs.declared.slot.Slot.{Slot}

-- the cells of these buckets
abbrev pub cells_of : List Slot → List Cell
cells_of slots = map (λ (s : Slot). s.cell) slots

-- the cells of the grid's buckets
abbrev pub bucket_cells : GridValue → List Cell
bucket_cells grid = map (λ (b : Bucket). b.cell) grid.buckets

-- the buckets without a set
abbrev pub undone_slots : List Slot → List Slot
undone_slots slots = filter (λ (s : Slot). is_none s.set) slots

-- their cells, in the order of the buckets
abbrev pub undone_cells : List Slot → List Cell
undone_cells slots = cells_of (undone_slots slots)

-- the cell is that of a bucket
abbrev pub IsBucketOf : List Slot → Cell → Type 0
IsBucketOf slots cell = Any (λ (s : Slot). s.cell ≡ cell) slots

-- the cell is that of a bucket that is done
abbrev pub IsDone : List Slot → Cell → Type 0
IsDone slots cell = Any (λ (s : Slot). (s.cell ≡ cell) × IsSome s.set) slots

-- the progress is of the grid: it has the grid's buckets in their order, and each set is right there
pub record IsOf (grid : GridValue) (slots : List Slot) : Type 0 where
  pub buckets : cells_of slots ≡ bucket_cells grid
  pub right : All (λ (s : Slot). IfSome s.set (IsSetOf grid s.cell)) slots

-- the bucket with the set, where it is that of the set's cell and has none yet
abbrev pub filled : SetValue → Slot → Slot
filled set slot = record {
  cell = slot.cell;
  set = cond (is_cell slot.cell set.work.cell) (Some (unwrap_or slot.set set)) slot.set;
}
