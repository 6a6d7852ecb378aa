-- The sides of boxes on an axis.
use Rattle.std.specs.Prelude.{ℕ, ◌+◌, ℤ, ◌-ℤ◌, ◌≤ℤ◌, List, length, All}
use borrow.Author.Differences.{up}
use Rattle.bim_model.specs.declared.geometry.Extent.{Extent}
use Rattle.bucket_grid.specs.declared.axis_cells.Axis.{Axis}
use Rattle.bucket_grid.specs.declared.axis_cells.Axis.TheVariants.{X, Y, Z}
use Rattle.bucket_grid.specs.declared.lists.Span.{Span}
use Rattle.bucket_grid.specs.Cells.{first_cell, last_cell}
use Rattle.bucket_grid.specs.BucketTable.{AreSpans}
use Rattle.box_lanes.specs.BoxPlaces.{box_at}

-- the low side of a box on an axis
abbrev pub low_on : Axis → Extent → ℤ
low_on X e = e.low.x
low_on Y e = e.low.y
low_on Z e = e.low.z

-- the high side
abbrev pub high_on : Axis → Extent → ℤ
high_on X e = e.high.x
high_on Y e = e.high.y
high_on Z e = e.high.z

-- all boxes lie in these cells of the axis
pub record LieIn (axis : Axis) (low high : ℤ) (boxes : List Extent) : Type 0 where
  pub above : All (λ (e : Extent). low ≤ℤ first_cell (low_on axis e)) boxes
  pub below : All (λ (e : Extent). last_cell (high_on axis e) ≤ℤ high) boxes

-- how many cells of the axis hold the box
abbrev pub span_on : Axis → Extent → ℕ
span_on axis e = up (last_cell (high_on axis e) -ℤ first_cell (low_on axis e)) + 1

-- the spans of the boxes on the axis, by number, counted from low
abbrev pub AreSpansOn : Axis → ℤ → List Extent → List Span → Type 0
AreSpansOn axis low boxes spans =
    AreSpans low (λ n. first_cell (low_on axis (box_at boxes n)))
    (λ n. last_cell (high_on axis (box_at boxes n))) (length boxes) spans
