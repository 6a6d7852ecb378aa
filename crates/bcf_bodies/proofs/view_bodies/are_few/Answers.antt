use Rattle.std.proofs.Common.{◌≡◌, drop, length, sym, ap, ◌∙◌, arith, codes}
use Rattle.std.proofs.lemmas.Bool.{le-leb, lt-leb}
use Rattle.std.proofs.lemmas.List.{drop_all}
use Rattle.serde_json.specs.Events.{items_len}
use Rattle.serde_json.specs.View.{view, items_view}
use Rattle.bcf_bodies.specs.Members.{items_under}
use Rattle.bcf_bodies.specs.ViewBodies.{colored_count}
use Rattle.bcf_bodies.proofs.Lists.{count_is, counted_more}
use Rattle.bcf_bodies.proofs.view_bodies.are_few.Goals as goal

pub loop-item-preserved : goal.loop-item-preserved
loop-item-preserved c =
    let l = c.loop-item in
    let n : items_len (items_under (codes "components") (view c.item-item.result)) ≡ length c.items_under-count.result.now =
    ap items_len (sym c.items_under-count.ensures) ∙ count_is c.items_under-count.result.now in
    let more = counted_more c.args.items.now l.item-index c.item-item.result (length c.items_under-count.result.now) c.loop-item-test.true c.item-item.is n in
    omega (arith, more)

pub returns-then-count-left : goal.returns-then-count-left
returns-then-count-left c =
    let l = c.loop-item in
    let n : items_len (items_under (codes "components") (view c.item-item.result)) ≡ length c.items_under-count.result.now =
    ap items_len (sym c.items_under-count.ensures) ∙ count_is c.items_under-count.result.now in
    let more = counted_more c.args.items.now l.item-index c.item-item.result (length c.items_under-count.result.now) c.loop-item-test.true c.item-item.is n in
    sym (lt-leb (colored_count (items_view c.args.items.now)) c.args.most (omega (arith, more)))

pub returns : goal.returns
returns c =
    let l = c.loop-item in
    let none : colored_count (items_view (drop l.item-index c.args.items.now)) ≡ 0 =
    ap (λ vs. colored_count (items_view vs)) (drop_all l.item-index c.args.items.now (omega arith)) in
    sym (le-leb (colored_count (items_view c.args.items.now)) c.args.most (omega (arith, none)))
