use Rattle.std.proofs.Common.{subst}
use Rattle.bim_model.specs.declared.geometry.Triangle.{Triangle}
use Rattle.bim_model.specs.Points.{shape_of}
use Rattle.clearance.specs.inner.TriangleRuns.{Reaches}
use Rattle.clearance.proofs.Gaps.{near_swaps}
use Rattle.clearance.proofs.OffBoxes.{off_far}
use Rattle.clearance.proofs.triangle_runs.run_near.Goals as goal

pub returns-then-is_off : goal.returns-then-is_off
returns-then-is_off c = (
  λ x. absurd (cc x),
  λ (i, q, lt, e, n). absurd (off_far c.args.k c.args.extent (shape_of q) (shape_of c.args.p.now) c.args.d
      (subst (λ (y : Triangle). Reaches c.args.around c.args.d c.args.k y) e (c.requires.reached i q lt) (shape_of c.args.p.now) c.requires.inside_around n)
      c.requires.inside (c.is_off.ensures.0 c.if-is_off.true) (near_swaps (shape_of c.args.p.now) (shape_of q) c.args.d n)),
)
