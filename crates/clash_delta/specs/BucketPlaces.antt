-- How a progress is kept: its buckets rise by cell, and beside them stand the places of those without a set.
use Rattle.std.specs.Prelude.{◌≡◌, ℕ, ◌<◌, is_none, List, length, reverse, slice_index_or, AllPairs}
use Rattle.std.specs.declared.cmp.Ordering.TheVariants.{Less}
use Rattle.box_lanes.specs.BoxPlaces.{places_from}
use Rattle.bucket_grid.specs.Cells.{cell_cmp}
use Rattle.bucket_grid.specs.declared.cell.Cell.{Cell}
use Rattle.clash_delta.specs.declared.slot.Slot.{Slot}

-- the buckets rise strictly by cell
abbrev pub Rise : List Slot → Type 0
Rise slots = AllPairs (λ (s t : Slot). cell_cmp s.cell t.cell ≡ Less) slots

-- the places of the buckets without a set, falling
abbrev pub undone_places : List Slot → List ℕ
undone_places slots = reverse (places_from 0 (λ (s : Slot). is_none s.set) slots)

-- the buckets in their order, and the places of those without a set
pub record IsProgress (slots : List Slot) (undone : List ℕ) : Type 0 where
  pub rising : Rise slots
  pub places : undone ≡ undone_places slots

-- the bucket of the cell stands at this place
pub record IsPlaceOf (slots : List Slot) (cell : Cell) (place : ℕ) : Type 0 where
  pub within : place < length slots
  pub is : (d : Slot) → (slice_index_or slots place d).cell ≡ cell
