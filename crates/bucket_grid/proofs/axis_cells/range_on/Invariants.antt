use Rattle.std.proofs.Common.{◌≤◌, ◌≤ℤ◌, take, unsigned_abs, All}
use Rattle.bim_model.specs.Points.{grid_limit}
use Rattle.bim_model.specs.declared.geometry.Extent.{Extent}
use Rattle.bucket_grid.specs.inner.Axes.{low_on, high_on}
use Rattle.bucket_grid.specs.ElementPlaces.{IsGridBox}
use Rattle.bucket_grid.proofs.axis_cells.range_on.Given as goal

abbrev pub invariant-loop-extent : goal.invariant-loop-extent
invariant-loop-extent l = record {
  above : All (λ (e : Extent). l.least ≤ℤ low_on l.axis e) (take l.extent-index l.boxes);
  below : All (λ (e : Extent). high_on l.axis e ≤ℤ l.greatest) (take l.extent-index l.boxes);
  least_small : unsigned_abs l.least ≤ grid_limit;
  greatest_small : unsigned_abs l.greatest ≤ grid_limit;
  near : All IsGridBox l.boxes;
}
