use Rattle.std.proofs.Common.{subst}
use Rattle.bim_model.specs.declared.geometry.Triangle.{Triangle}
use Rattle.bim_model.specs.Points.{shape_of}
use Rattle.clearance.specs.inner.BoxContainment.{InExtent}
use Rattle.clearance.specs.inner.TriangleRuns.{Reaches}
use Rattle.clearance.proofs.OffBoxes.{off_far}
use Rattle.clearance.proofs.triangle_runs.block_near.Goals as goal

pub returns-then-is_off : goal.returns-then-is_off
returns-then-is_off c =
    let a = c.extent_of_all-around.result in let r = c.reached_extent-reached.result in (
      λ x. absurd (cc x),
      λ (i, p, lt, e, (j, q, lt', e', n)).
          let h = subst (λ (y : Triangle). InExtent a (shape_of y)) e (c.extent_of_all-around.ensures.inside i p lt) in
          absurd (off_far a r (shape_of p) (shape_of q) c.args.d h (subst (λ (y : Triangle). Reaches a c.args.d r y) e' (c.reached_extent-reached.ensures.reached j q lt') (shape_of p) h n) (c.is_off.ensures.0 c.if-is_off.true) n),
    )

pub returns-then-lists_apart : goal.returns-then-lists_apart
returns-then-lists_apart c = (λ x. absurd (cc x), λ n. absurd (c.lists_apart.ensures c.if-lists_apart.true n))
