use Rattle.std.proofs.Common.{map, ap, ◌∙◌, arith}
use Rattle.std.proofs.lemmas.List.{take_all}
use Rattle.serde_json.specs.View.{items_of}
use Rattle.bcf_bodies.specs.ViewTrees.{coloring_tree}
use Rattle.bcf_bodies.proofs.Lists.{written_more}
use Rattle.bcf_bodies.proofs.view_trees.colorings_out.Goals as goal

pub loop-coloring-preserved : goal.loop-coloring-preserved
loop-coloring-preserved c =
    let l = c.loop-coloring in
    written_more coloring_tree c.args.colorings.now l.coloring-index c.coloring-item.result l.trees.items c.push_coloring.new.trees.items
    c.loop-coloring-test.true c.coloring-item.is c.in_ok-push_coloring.ensures l.invariant

pub returns : goal.returns
returns c =
    let l = c.loop-coloring in
    ap items_of (l.invariant ∙ ap (map coloring_tree) (take_all l.coloring-index c.args.colorings.now (omega arith)))
