use Rattle.std.proofs.Common.{sym, ap, ◌∙◌, arith}
use Rattle.std.proofs.lemmas.List.{drop_all}
use Rattle.serde_json.specs.View.{items_view}
use Rattle.bcf_bodies.specs.Members.{all_are}
use Rattle.bcf_bodies.specs.ViewBodies.{is_coloring}
use Rattle.bcf_bodies.proofs.Lists.{test_more, test_none}
use Rattle.bcf_bodies.proofs.view_bodies.are_colorings.Goals as goal

pub loop-item-preserved : goal.loop-item-preserved
loop-item-preserved c =
    let l = c.loop-item in
    test_more is_coloring c.args.items.now l.item-index c.item-item.result _ c.loop-item-test.true c.item-item.is
    (sym c.is_coloring.ensures ∙ c.if-not-is_coloring.false) l.invariant

pub returns-then-not-is_coloring : goal.returns-then-not-is_coloring
returns-then-not-is_coloring c =
    let l = c.loop-item in
    test_none is_coloring c.args.items.now l.item-index c.item-item.result _ c.loop-item-test.true c.item-item.is
    (sym c.is_coloring.ensures ∙ c.if-not-is_coloring.true) l.invariant

pub returns : goal.returns
returns c =
    sym (ap (λ l. all_are is_coloring (items_view l)) (drop_all c.loop-item.item-index c.args.items.now (omega arith)))
    ∙ c.loop-item.invariant
