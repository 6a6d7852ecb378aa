-- The buckets of a version.
use Rattle.std.specs.Prelude.{ℕ, ℤ, pos, ◌-ℤ◌, ◌+ℤ◌, Bool, nat_le, List, [], ◌∷◌, filter, length}
use Rattle.std.specs.List.{flat_map, list_any}
use Rattle.bim_model.specs.declared.geometry.TheConstants.{GRID_LIMIT}
use Rattle.bim_model.specs.declared.geometry.Extent.{Extent}
use Rattle.bim_model.specs.Snapshots.{Version}
use Rattle.bucket_grid.specs.declared.cell.Cell.{Cell}
use Rattle.bucket_grid.specs.Cells.{first_cell, span, members, memberships}
use Rattle.bucket_grid.specs.BucketTable.{upto}
use Rattle.bucket_check.specs.Clashes.{is_cell}
use Rattle.book_history.specs.VersionBoxes.{boxes_of}

-- the cell that lies so many places on from one number on each axis
abbrev pub cell_on : ℤ → ℕ → ℕ → ℕ → Cell
cell_on low i j k = record { x = low +ℤ pos i; y = low +ℤ pos j; z = low +ℤ pos k }

-- the cells of so many numbers from one on, on each axis, by rising x, y and z
unfoldable pub cube : ℤ → ℕ → List Cell
cube low count =
    flat_map (λ i. flat_map (λ j. flat_map (λ k. cell_on low i j k ∷ []) (upto count)) (upto count))
    (upto count)

-- all cells that may hold a box of the grid
abbrev pub cells_of_grid : List Cell
cells_of_grid = cube (first_cell (pos 0 -ℤ GRID_LIMIT)) (span (pos 0 -ℤ GRID_LIMIT) GRID_LIMIT)

-- the cells that hold two of the boxes or more, in their order
abbrev pub buckets_among : List Extent → List Cell
buckets_among boxes = filter (λ (c : Cell). nat_le 2 (length (members boxes c))) cells_of_grid

-- the buckets of a version: the cells with two members or more, by rising cell
abbrev pub buckets_of : Version → List Cell
buckets_of version = buckets_among (boxes_of version)

-- the number of pairs of a cell and a member of it
abbrev pub memberships_of : Version → ℕ
memberships_of version = memberships (boxes_of version)

-- the cell is one of the list
abbrev pub is_among : List Cell → Cell → Bool
is_among cells cell = list_any (λ (c : Cell). is_cell c cell) cells
