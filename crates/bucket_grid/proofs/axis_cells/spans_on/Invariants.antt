use Rattle.std.proofs.Common.{All}
use Rattle.bucket_grid.specs.Cells.{first_cell, last_cell}
use Rattle.box_lanes.specs.BoxPlaces.{box_at}
use Rattle.bucket_grid.specs.inner.Axes.{low_on, high_on}
use Rattle.bucket_grid.specs.Dealt.{IsSpan}
use Rattle.bucket_grid.specs.BucketTable.{AreSpans}
use Rattle.bucket_grid.proofs.axis_cells.spans_on.Given as goal

abbrev pub invariant-loop-extent : goal.invariant-loop-extent
invariant-loop-extent l = record {
  are : AreSpans l.range.low (λ n. first_cell (low_on l.axis (box_at l.boxes n))) (λ n. last_cell (high_on l.axis (box_at l.boxes n))) l.extent-index l.spans.items;
  each : All (IsSpan l.range.count) l.spans.items;
}
