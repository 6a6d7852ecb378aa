use Rattle.std.proofs.Common.{map, ap, ◌∙◌, arith}
use Rattle.std.proofs.lemmas.List.{take_all}
use Rattle.serde_json.specs.View.{items_of}
use Rattle.bcf_bodies.specs.ViewTrees.{component_tree}
use Rattle.bcf_bodies.proofs.Lists.{written_more}
use Rattle.bcf_bodies.proofs.view_trees.components_out.Goals as goal

pub loop-component-preserved : goal.loop-component-preserved
loop-component-preserved c =
    let l = c.loop-component in
    written_more component_tree c.args.components.now l.component-index c.component-item.result l.trees.items c.push_component.new.trees.items
    c.loop-component-test.true c.component-item.is c.in_ok-push_component.ensures l.invariant

pub returns : goal.returns
returns c =
    let l = c.loop-component in
    ap items_of (l.invariant ∙ ap (map component_tree) (take_all l.component-index c.args.components.now (omega arith)))
