use Rattle.std.proofs.Common.{take}
use Rattle.clearance.specs.inner.BoxContainment.{IsExtent}
use Rattle.clearance.specs.inner.TriangleRuns.{AllReach}
use Rattle.clearance.proofs.triangle_runs.reached_extent.Given as goal

abbrev pub invariant-loop-t : goal.invariant-loop-t
invariant-loop-t l = IsExtent l.found × AllReach l.fn.around l.fn.d l.found (take l.t-index l.ts)
