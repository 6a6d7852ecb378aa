-- Cells of four metres, and which elements are members of which cell.
--
-- A coordinate lies in the cell of its quotient by the cell's side, rounded down. A box is held by each cell that
-- has a point of it when it is grown by a metre on each side: on each axis the cells from that of its grown low side
-- to that of its grown high side.
use Rattle.std.specs.Prelude.{◌≡◌, ℕ, ◌+◌, ◌*◌, ◌≤◌, ℤ, ◌+ℤ◌, ◌-ℤ◌, ◌*ℤ◌, int_le, Bool, true, ◌&&◌, List, length, sum_by}
use Rattle.std.specs.Int.{w32, int_div_euclid, int_max, saturate_signed}
use Rattle.std.specs.Ordering.{int_cmp, ordering_then}
use Rattle.std.specs.declared.cmp.Ordering.{Ordering}
use Rattle.std.specs.declared.cmp.Ordering.TheVariants.{Greater}
use borrow.Author.Differences.{up}
use Rattle.bim_model.specs.declared.geometry.Extent.{Extent}
use Rattle.bim_model.specs.declared.geometry.Point.{Point}
use Rattle.box_lanes.specs.BoxPlaces.{places_from}
use Rattle.bucket_grid.specs.declared.cell.Cell.{Cell}
use Rattle.bucket_grid.specs.declared.cell.TheConstants.{SIDE, GROWTH}

-- the cell of a coordinate
abbrev pub cell_of : ℤ → ℤ
cell_of x = int_div_euclid x SIDE

-- the first cell of an axis that holds a box, by the low side of the box
abbrev pub first_cell : ℤ → ℤ
first_cell low = cell_of (low -ℤ GROWTH)

-- the least low side whose first cell is i, as far as 32 bits go
abbrev pub first_low : ℤ → ℤ
first_low i = saturate_signed w32 ((i *ℤ SIDE) +ℤ GROWTH)

-- the last, by the high side
abbrev pub last_cell : ℤ → ℤ
last_cell high = cell_of (high +ℤ GROWTH)

-- where the boxes begin at the least that have their first cell here
abbrev pub start_of : Cell → Point
start_of c = record { x = first_low c.x; y = first_low c.y; z = first_low c.z }

-- the cell lies between them
abbrev pub is_in : ℤ → ℤ → ℤ → Bool
is_in low high i = int_le (first_cell low) i && int_le i (last_cell high)

-- the cell holds the box: the box is a member of it
abbrev pub holds : Cell → Extent → Bool
holds c box =
    is_in box.low.x box.high.x c.x && is_in box.low.y box.high.y c.y && is_in box.low.z box.high.z c.z

-- the members of a cell, by their numbers in the list of all boxes, rising
abbrev pub members : List Extent → Cell → List ℕ
members boxes c = places_from 0 (holds c) boxes

-- how many cells of an axis hold a box
abbrev pub span : ℤ → ℤ → ℕ
span low high = up (last_cell high -ℤ first_cell low) + 1

-- how many cells hold a box
abbrev pub cell_count : Extent → ℕ
cell_count box = span box.low.x box.high.x * span box.low.y box.high.y * span box.low.z box.high.z

-- the number of pairs of a cell and a member
abbrev pub memberships : List Extent → ℕ
memberships boxes = sum_by cell_count boxes

-- the order of cells: by x, then y, then z
abbrev pub cell_cmp : Cell → Cell → Ordering
cell_cmp a b = ordering_then (int_cmp a.x b.x) (ordering_then (int_cmp a.y b.y) (int_cmp a.z b.z))

-- the cell of two boxes: on each axis the later of their first cells
abbrev pub owner_of : Extent → Extent → Cell
owner_of a b = record {
  x = int_max (first_cell a.low.x) (first_cell b.low.x);
  y = int_max (first_cell a.low.y) (first_cell b.low.y);
  z = int_max (first_cell a.low.z) (first_cell b.low.z);
}

-- the least cell of which both are members
pub record IsOwner (c : Cell) (a b : Extent) : Type 0 where
  pub holds_a : holds c a ≡ true
  pub holds_b : holds c b ≡ true
  pub least : (k : Cell) → holds k a ≡ true → holds k b ≡ true → cell_cmp c k ≡ Greater → ⊥

-- a cell with two members or more
abbrev pub IsBucket : List Extent → Cell → Type 0
IsBucket boxes c = 2 ≤ length (members boxes c)
