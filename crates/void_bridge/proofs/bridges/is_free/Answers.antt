use Rattle.std.proofs.Common.{◌∙◌, sym}
use Rattle.ear_cut.specs.Registers.{as_spot}
use Rattle.void_bridge.specs.inner.Barriers.{segments_of}
use Rattle.void_bridge.proofs.FreeBridges.{ends_are_one, leads_outside, free_unless_blocked}
use Rattle.void_bridge.proofs.bridges.is_free.Goals as goal

pub returns-then-is_same_spot : goal.returns-then-is_same_spot
returns-then-is_same_spot c =
    ends_are_one c.args.view (segments_of c.args.barriers.now) c.args.t c.args.c (as_spot c.seen-end.result) (as_spot c.seen-corner.result) c.seen-corner.ensures c.seen-end.ensures
    (sym c.is_same_spot.ensures ∙ c.if-is_same_spot.true)

pub returns-then-not-leads_inside : goal.returns-then-not-leads_inside
returns-then-not-leads_inside c =
    leads_outside c.args.view (segments_of c.args.barriers.now) c.args.t c.args.c (as_spot c.seen-end.result) (as_spot c.seen-before.result) (as_spot c.seen-corner.result) (as_spot c.seen-after.result)
    c.seen-before.ensures c.seen-corner.ensures c.seen-after.ensures c.seen-end.ensures (sym c.leads_inside.ensures ∙ c.if-not-leads_inside.true)

pub returns : goal.returns
returns c =
    free_unless_blocked c.args.view (segments_of c.args.barriers.now) c.args.t c.args.c (as_spot c.seen-end.result) (as_spot c.seen-before.result) (as_spot c.seen-corner.result) (as_spot c.seen-after.result) c.is_blocked.result
    c.seen-before.ensures c.seen-corner.ensures c.seen-after.ensures c.seen-end.ensures (sym c.is_same_spot.ensures ∙ c.if-is_same_spot.false) (sym c.leads_inside.ensures ∙ c.if-not-leads_inside.false) c.is_blocked.ensures
