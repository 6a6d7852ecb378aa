use Rattle.std.proofs.Common.{All, List, drop}
use Rattle.bim_model.specs.declared.geometry.Triangle.{Triangle}
use Rattle.bim_model.specs.Points.{IsInGrid}
use Rattle.clearance.specs.Near.{NearAny}
use Rattle.clearance.specs.inner.TriangleRuns.{RunsIn}
use Rattle.clearance.proofs.Parts.{IsLeft}
use Rattle.clearance.proofs.triangle_runs.runs_near.Given as goal

abbrev pub invariant-loop-run : goal.invariant-loop-run
invariant-loop-run l = RunsIn l.fn.around l.fn.d (drop l.run-index l.runs) l.rest × All IsInGrid l.rest × IsLeft (λ (ts : List Triangle). NearAny l.p ts l.fn.d) l.qs l.rest
