use Rattle.std.proofs.Common.{rules}
use Rattle.std.proofs.lemmas.Bool.{MatchBool-at_true, MatchBool-at_false}
use Rattle.ifc_elements.proofs.TrianglesAdded.{never_missing, unready_body, own_more, own_whole}
use Rattle.ifc_elements.proofs.surface.bodies_triangles.Goals as goal

pub returns-in_default : goal.returns-in_default
returns-in_default c = λ listed are sets h all. never_missing c.args.exchange.now c.args.ids.now are c.loop-id.id-index c.loop-id-test.true c.in_default.ensures h

pub returns-then-not-added : goal.returns-then-not-added
returns-then-not-added c = λ listed are sets h.
    unready_body c.args.exchange.now c.args.scale c.args.mode listed c.args.ids.now are c.loop-id.id-index c.in-Some.body c.spelled_items.result c.loop-id-test.true c.in-Some.ensures c.spelled_items.ensures
    (MatchBool-at_false _ _ c.if-not-added.true (c.in_ok-added.ensures listed sets)) h

pub loop-id-preserved : goal.loop-id-preserved
loop-id-preserved c = λ listed are sets h.
    own_more c.args.exchange.now c.args.scale c.args.mode c.args.ids.now are c.loop-id.id-index c.in-Some.body c.spelled_items.result c.loop-id.own.items c.add_items.new.out.items c.loop-id-test.true c.in-Some.ensures
    c.spelled_items.ensures (MatchBool-at_true _ _ c.if-not-added.false (c.in_ok-added.ensures listed sets)) h (c.loop-id.invariant listed are sets h)

pub returns : goal.returns
returns c = λ listed are sets h.
    own_whole c.args.exchange.now c.args.scale c.args.mode c.args.ids.now are c.loop-id.id-index c.loop-id.own.items (search rules) h (c.loop-id.invariant listed are sets h)
