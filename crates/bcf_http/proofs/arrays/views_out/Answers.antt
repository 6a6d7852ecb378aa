use Rattle.std.proofs.Common.{arith}
use Rattle.bcf_bodies.specs.ViewTrees.{whole_tree}
use Rattle.bcf_bodies.proofs.Lists.{written_more}
use Rattle.bcf_http.proofs.GrownTrees.{listed_all}
use Rattle.bcf_http.proofs.arrays.views_out.Goals as goal

pub loop-viewpoint-preserved : goal.loop-viewpoint-preserved
loop-viewpoint-preserved c =
    let l = c.loop-viewpoint in
    written_more (whole_tree c.args.project) c.args.views.now l.viewpoint-index c.viewpoint-item.result l.trees.items c.push_view.new.trees.items
    c.loop-viewpoint-test.true c.viewpoint-item.is c.in_ok-push_view.ensures l.invariant

pub returns : goal.returns
returns c =
    let l = c.loop-viewpoint in
    listed_all (whole_tree c.args.project) c.args.views.now l.viewpoint-index l.trees (omega arith) l.invariant
