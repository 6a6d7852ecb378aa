use Rattle.std.proofs.Common.{◌≡◌, ◌≤◌, ◌*◌, take, All}
use Rattle.bucket_grid.specs.declared.grid.TheConstants.{MOST_CELLS_OF_BOX}
use Rattle.bucket_grid.specs.Cells.{memberships}
use Rattle.bucket_grid.specs.ElementPlaces.{IsGridBox}
use Rattle.bucket_grid.proofs.grid.memberships_of.Given as goal

abbrev pub invariant-loop-extent : goal.invariant-loop-extent
invariant-loop-extent l = record {
  so_far : l.count ≡ memberships (take l.extent-index l.boxes);
  small : l.count ≤ MOST_CELLS_OF_BOX * l.extent-index;
  near : All IsGridBox l.boxes;
}
