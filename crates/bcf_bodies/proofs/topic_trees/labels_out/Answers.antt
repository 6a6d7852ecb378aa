use Rattle.std.proofs.Common.{map, ap, ◌∙◌, arith}
use Rattle.std.proofs.lemmas.List.{take_all}
use Rattle.serde_json.specs.View.{items_of}
use Rattle.serde_json.specs.Data.{string}
use Rattle.bcf_bodies.proofs.Lists.{written_more}
use Rattle.bcf_bodies.proofs.topic_trees.labels_out.Goals as goal

pub loop-label-preserved : goal.loop-label-preserved
loop-label-preserved c =
    let l = c.loop-label in
    written_more (λ text. string text) c.args.labels.now l.label-index c.label-item.result l.trees.items c.push_label.new.trees.items
    c.loop-label-test.true c.label-item.is c.in_ok-push_label.ensures l.invariant

pub returns : goal.returns
returns c =
    let l = c.loop-label in
    ap items_of (l.invariant ∙ ap (map (λ text. string text)) (take_all l.label-index c.args.labels.now (omega arith)))
