use Rattle.std.proofs.Common.{All, List, ◌≡◌, ◌+◌, ◌*◌, ◌≤◌, ◌++◌, length, take}
use Rattle.bim_model.specs.declared.geometry.Extent.{Extent}
use Rattle.bim_model.specs.Points.{IsInGrid}
use Rattle.clearance.specs.inner.TriangleRuns.{RunsIn}
use Rattle.clearance.proofs.triangle_runs.run_extents.Given as goal

abbrev pub invariant-loop-k : goal.invariant-loop-k
invariant-loop-k l = (length l.runs ≡ 32) × (length l.rest + 16 * l.k ≤ 512) × All IsInGrid l.rest × ((ks : List Extent) → RunsIn l.fn.around l.fn.d ks l.rest → RunsIn l.fn.around l.fn.d (take l.k l.runs ++ ks) l.qs)
