use Rattle.std.proofs.Common.{◌≤◌, length, arith}
use Rattle.std.proofs.lemmas.List.Elements.{All-more}
use Rattle.tri_exact.specs.GridVectors.{at, straight}
use Rattle.bim_model.specs.declared.geometry.Triangle.{Triangle}
use Rattle.clearance.specs.inner.Projections.{ProjectsIn}
use Rattle.clearance.proofs.Lists.{finished}
use Rattle.clearance.proofs.PartedLists.{projected_more}
use Rattle.clearance.proofs.projections.clear_interval.Goals as goal

pub loop-t-preserved : goal.loop-t-preserved
loop-t-preserved c =
    let a = c.args.around in let d = c.args.d in let o = at c.args.base in let v = straight c.args.across in let m = c.join_projected-found.result in (
      c.join_projected-found.ensures.small,
      All-more (λ (t : Triangle). ProjectsIn a d o v m t) c.args.ts.now c.loop-t.t-index _ c.loop-t-test.true
          (λ k e h. projected_more a d o v c.loop-t.found m _ c.join_projected-found.ensures.found (c.loop-t.invariant.1 k e h))
          c.join_projected-found.ensures.reached,
    )

pub returns-clause-all : goal.returns-clause-all
returns-clause-all c =
    let h : length c.args.ts.now ≤ c.loop-t.t-index = omega (arith, c.loop-t-test.false) in
    finished (λ (t : Triangle). ProjectsIn c.args.around c.args.d (at c.args.base) (straight c.args.across) c.loop-t.found t) c.args.ts.now c.loop-t.t-index h c.loop-t.invariant.1
