-- Where a cell stands among buckets that rise.
use Rattle.std.specs.Prelude.{◌≡◌, ℕ, ◌+◌, ◌<◌, ◌≤◌, List, length, slice_index_or, AllPairs, Any}
use Rattle.std.specs.declared.cmp.Ordering.TheVariants.{Less, Greater}
use Rattle.bucket_grid.specs.declared.cell.Cell.{Cell}
use Rattle.bucket_grid.specs.declared.bucket_table.Bucket.{Bucket}
use Rattle.bucket_grid.specs.Cells.{cell_cmp}

-- the cells of the buckets rise strictly
abbrev pub Rise : List Bucket → Type 0
Rise buckets = AllPairs (λ (b c : Bucket). cell_cmp b.cell c.cell ≡ Less) buckets

-- the cell stands at the place k
pub record IsAt (buckets : List Bucket) (cell : Cell) (k : ℕ) : Type 0 where
  pub within : k < length buckets
  pub is : (d : Bucket) → (slice_index_or buckets k d).cell ≡ cell

-- the place after the cell's
abbrev pub IsAfter : List Bucket → Cell → ℕ → Type 0
IsAfter buckets cell next = (k : ℕ) × (next ≡ k + 1) × IsAt buckets cell k

-- no bucket is of the cell
abbrev pub IsNowhere : List Bucket → Cell → Type 0
IsNowhere buckets cell = Any (λ (b : Bucket). b.cell ≡ cell) buckets → ⊥

-- what comes before low is less, what comes from high on is greater
pub record Between (buckets : List Bucket) (cell : Cell) (low high : ℕ) : Type 0 where
  pub ends : high ≤ length buckets
  pub order : low ≤ high
  pub below : (k : ℕ) (d : Bucket) → k < low → cell_cmp (slice_index_or buckets k d).cell cell ≡ Less
  pub above : (k : ℕ) (d : Bucket) → high ≤ k → k < length buckets
      → cell_cmp (slice_index_or buckets k d).cell cell ≡ Greater
