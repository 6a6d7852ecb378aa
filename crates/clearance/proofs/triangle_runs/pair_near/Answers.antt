use Rattle.bim_model.specs.Points.{shape_of}
use Rattle.clearance.proofs.OffBoxes.{off_far}
use Rattle.clearance.proofs.triangle_runs.pair_near.Goals as goal

pub returns-then-is_off : goal.returns-then-is_off
returns-then-is_off c = (
  λ x. absurd (cc x),
  λ x. absurd (off_far c.args.extent c.extent_of.result (shape_of c.args.p.now) (shape_of c.args.q.now) c.args.d c.requires.inside c.extent_of.ensures.inside (c.is_off.ensures.0 c.if-is_off.true) x),
)
