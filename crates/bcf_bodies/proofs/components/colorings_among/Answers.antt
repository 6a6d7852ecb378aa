use Rattle.std.proofs.Common.{sym, arith}
use Rattle.std.proofs.lemmas.List.{drop_all}
use Rattle.serde_json.specs.View.{items_view}
use Rattle.bcf_bodies.specs.Members.{all_of}
use Rattle.bcf_bodies.specs.ViewBodies.{coloring_in}
use Rattle.bcf_bodies.proofs.Lists.{front_nil, read_more, read_none, read_all}
use Rattle.bcf_bodies.proofs.components.colorings_among.Goals as goal

pub loop-item-init : goal.loop-item-init
loop-item-init c = rw c.new-colorings.ensures (front_nil (all_of coloring_in (items_view c.args.items.now)))

pub loop-item-preserved : goal.loop-item-preserved
loop-item-preserved c =
    let l = c.loop-item in
    read_more coloring_in c.args.items.now l.item-index c.item-item.result l.colorings c.push.new.self c.in-Some.coloring _
    c.loop-item-test.true c.item-item.is (sym (rw c.in-Some.is at c.in_ok-coloring.ensures)) c.in_ok-push.ensures.ok l.invariant

pub returns-in_default : goal.returns-in_default
returns-in_default c =
    let l = c.loop-item in
    read_none coloring_in c.args.items.now l.item-index c.item-item.result l.colorings _
    c.loop-item-test.true c.item-item.is (sym (rw c.in_default.is at c.in_ok-coloring.ensures)) l.invariant

pub returns : goal.returns
returns c =
    let l = c.loop-item in
    read_all coloring_in c.args.items.now l.item-index l.colorings _ (drop_all l.item-index c.args.items.now (omega arith)) l.invariant
