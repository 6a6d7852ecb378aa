use Rattle.std.proofs.Common.{◌-◌}
use Rattle.bucket_grid.specs.Search.{Between}
use Rattle.bucket_grid.proofs.search.place_of.Given as goal

abbrev pub invariant-loop-low : goal.invariant-loop-low
invariant-loop-low l = Between l.buckets l.cell l.low l.high

abbrev pub decreases-loop-low : goal.decreases-loop-low
decreases-loop-low l = l.high - l.low
