use Rattle.std.proofs.Common.{◌≤◌, length, arith}
use Rattle.std.proofs.lemmas.List.Elements.{All-more}
use Rattle.bim_model.specs.declared.geometry.Triangle.{Triangle}
use Rattle.clearance.specs.inner.TriangleRuns.{Reaches}
use Rattle.clearance.proofs.Parts.{reached_more, reached_next}
use Rattle.clearance.proofs.Lists.{finished}
use Rattle.clearance.proofs.triangle_runs.reached_extent.Goals as goal

pub loop-t-preserved : goal.loop-t-preserved
loop-t-preserved c =
    let m = c.join_reached-found.result in let a = c.args.around in let n = c.args.d in (
      c.join_reached-found.ensures.small,
      All-more (λ (t : Triangle). Reaches a n m t) c.args.ts.now c.loop-t.t-index _ c.loop-t-test.true
          (λ k d h. reached_more a n c.loop-t.found m _ c.join_reached-found.ensures.found (c.loop-t.invariant.1 k d h))
          (reached_next a n c.extent_of.result m _ c.extent_of.ensures.inside c.join_reached-found.ensures.reached),
    )

pub returns-clause-reached : goal.returns-clause-reached
returns-clause-reached c =
    let h : length c.args.ts.now ≤ c.loop-t.t-index = omega (arith, c.loop-t-test.false) in
    finished (λ (t : Triangle). Reaches c.args.around c.args.d c.loop-t.found t) c.args.ts.now c.loop-t.t-index h c.loop-t.invariant.1
