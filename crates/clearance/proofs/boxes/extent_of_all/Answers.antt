use Rattle.std.proofs.Common.{◌≤◌, length, arith}
use Rattle.std.proofs.lemmas.List.Elements.{All-more}
use Rattle.bim_model.specs.declared.geometry.Triangle.{Triangle}
use Rattle.bim_model.specs.Points.{shape_of}
use Rattle.clearance.specs.inner.BoxContainment.{InExtent}
use Rattle.clearance.proofs.OffBoxes.{widened}
use Rattle.clearance.proofs.Lists.{finished}
use Rattle.clearance.proofs.boxes.extent_of_all.Goals as goal

pub loop-t-preserved : goal.loop-t-preserved
loop-t-preserved c =
    let m = c.join-found.result in (
      c.join-found.ensures.small,
      All-more (λ (t : Triangle). InExtent m (shape_of t)) c.args.ts.now c.loop-t.t-index _ c.loop-t-test.true
          (λ k d h. widened _ m _ c.join-found.ensures.first (c.loop-t.invariant.1 k d h))
          (widened _ m _ c.join-found.ensures.second c.extent_of.ensures.inside),
    )

pub returns-clause-inside : goal.returns-clause-inside
returns-clause-inside c =
    let h : length c.args.ts.now ≤ c.loop-t.t-index = omega (arith, c.loop-t-test.false) in
    finished (λ (t : Triangle). InExtent c.loop-t.found (shape_of t)) c.args.ts.now c.loop-t.t-index h c.loop-t.invariant.1
