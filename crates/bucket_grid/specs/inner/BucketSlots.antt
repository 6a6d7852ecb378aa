-- Buckets whose members stand in one list.
use Rattle.std.specs.Prelude.{ℕ, ◌≤◌, List, slice_range}
use Rattle.bucket_grid.specs.declared.buckets.Slot.{Slot}
use Rattle.bucket_grid.specs.declared.bucket_table.Bucket.{Bucket}

-- the cell with what stands in the list from the start to before the end
abbrev pub bucket_of : List ℕ → Slot → Bucket
bucket_of list s = record { cell = s.cell; members = slice_range list s.start s.end }

-- start and end stand in order in a list of that length
pub record IsWithin (count : ℕ) (s : Slot) : Type 0 where
  pub order : s.start ≤ s.end
  pub within : s.end ≤ count
