use Rattle.bim_model.specs.Points.{shape_of}
use Rattle.tri_exact.specs.GridVectors.{at, straight}
use Rattle.clearance.proofs.OffBoxes.{off_far}
use Rattle.clearance.proofs.PartedLists.{lengthened}
use Rattle.clearance.proofs.projections.join_projected.Goals as goal

pub returns-then-is_off-clause-reached : goal.returns-then-is_off-clause-reached
returns-then-is_off-clause-reached c =
    λ s g n. absurd (off_far c.args.around c.extent_of.result s (shape_of c.args.t.now) c.args.d g c.extent_of.ensures.inside (c.is_off.ensures.0 c.if-is_off.true) n)

pub returns-clause-reached : goal.returns-clause-reached
returns-clause-reached c =
    λ s g n. lengthened (at c.args.base) (straight c.args.across) c.interval_of.result c.join.result (shape_of c.args.t.now) c.join.ensures.second c.interval_of.ensures.inside
