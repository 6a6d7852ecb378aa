use Rattle.std.proofs.Common.{take}
use Rattle.tri_exact.specs.GridVectors.{at, straight}
use Rattle.clearance.specs.inner.Projections.{IsInterval, AllProjectIn}
use Rattle.clearance.proofs.projections.clear_interval.Given as goal

abbrev pub invariant-loop-t : goal.invariant-loop-t
invariant-loop-t l = IsInterval l.found × AllProjectIn l.fn.around l.fn.d (at l.fn.base) (straight l.fn.across) l.found (take l.t-index l.ts)
