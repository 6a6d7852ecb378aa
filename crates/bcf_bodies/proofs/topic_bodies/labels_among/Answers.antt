use Rattle.std.proofs.Common.{sym, arith}
use Rattle.std.proofs.lemmas.List.{drop_all}
use Rattle.serde_json.specs.View.{items_view}
use Rattle.bcf_topics.specs.declared.limits.TheConstants.{MOST_LABEL}
use Rattle.bcf_bodies.specs.Members.{short_text, all_of}
use Rattle.bcf_bodies.proofs.Lists.{front_nil, read_more, read_none, read_all}
use Rattle.bcf_bodies.proofs.topic_bodies.labels_among.Goals as goal

pub loop-item-init : goal.loop-item-init
loop-item-init c = rw c.new-labels.ensures (front_nil (all_of (short_text MOST_LABEL) (items_view c.args.items.now)))

pub loop-item-preserved : goal.loop-item-preserved
loop-item-preserved c =
    let l = c.loop-item in
    read_more (short_text MOST_LABEL) c.args.items.now l.item-index c.item-item.result l.labels c.push.new.self c.in-Some.label _
    c.loop-item-test.true c.item-item.is (sym (rw c.in-Some.is at c.in_ok-label.ensures)) c.in_ok-push.ensures.ok l.invariant

pub returns-in_default : goal.returns-in_default
returns-in_default c =
    let l = c.loop-item in
    read_none (short_text MOST_LABEL) c.args.items.now l.item-index c.item-item.result l.labels _
    c.loop-item-test.true c.item-item.is (sym (rw c.in_default.is at c.in_ok-label.ensures)) l.invariant

pub returns : goal.returns
returns c =
    let l = c.loop-item in
    read_all (short_text MOST_LABEL) c.args.items.now l.item-index l.labels _ (drop_all l.item-index c.args.items.now (omega arith)) l.invariant
