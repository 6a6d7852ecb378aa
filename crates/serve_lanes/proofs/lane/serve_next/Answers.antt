use Rattle.std.proofs.Common.{sym, ◌∙◌, ap, subst}
use Rattle.bim_net.specs.ConnectionViews.{DoorSeen}
use Rattle.book_passes.specs.Lessons.{BookPass, caller_of}
use Rattle.serve_lanes.specs.Lanes.{ServedLink, LaneServed}
use Rattle.serve_lanes.proofs.Links.{served_link, spent_end, lane_one, lane_none}
use Rattle.serve_lanes.proofs.lane.serve_next.Goals as goal

pub note-requires-clause-spent : goal.note-requires-clause-spent
note-requires-clause-spent g c =
    λ is. let s = spent_end c.serve_link-end.result (sym c.kind_of-kind.ensures ∙ is) in c.serve_link-end.ensures.serves.turns s.0 s.1

pub returns-in-Ok-Some-clause-served : goal.returns-in-Ok-Some-clause-served
returns-in-Ok-Some-clause-served g c =
    let given = rw c.in-Ok-Some.field-0-is at c.in-Ok-Some.ensures.door in
    let fresh = rw c.in-Ok-Some.field-0-is at c.in-Ok-Some.ensures.fresh in
    let serves = c.serve_link-end.ensures.serves in
    let learns = serves.learns in
    let v = c.args.pass.now in
    let w = c.serve_link-end.new.pass in
    let here = ServedLink (g.C.Clock.seen c.args.clock.now).one c.args.turn.now.settings v.number in
    subst (λ (p : BookPass). LaneServed here v.seen v.last p.seen p.last (g.D.Door.seen c.args.door.now) (g.D.Door.seen c.give_back.new.self) c.args.lack.now c.note.new.lack) (sym c.note.ensures.same)
    (lane_one here v.seen v.last _ w.seen w.last _ _ _ _ _ given c.give_back.ensures.door
    (served_link c.args.turn.now.settings (caller_of v) (caller_of w) _ _ _ _ c.serve_link-end.result _ fresh serves c.kind_of-kind.ensures c.last-last.ensures.last)
    c.last-last.ensures.last learns.1.up_to c.note.ensures.noted)

pub returns-in-Ok-None-clause-served : goal.returns-in-Ok-None-clause-served
returns-in-Ok-None-clause-served g c =
    let is = rw c.in-Ok-None.field-0-is at c.in-Ok-None.ensures.door in
    lane_none _ c.args.pass.now.seen c.args.pass.now.last _ _ _ (ap (λ (d : DoorSeen). d.ended) is) (ap (λ (d : DoorSeen). d.gave) is) (ap (λ (d : DoorSeen). d.number) is)

pub returns-in-Err-clause-served : goal.returns-in-Err-clause-served
returns-in-Err-clause-served g c =
    let is = c.in-Err.ensures.door in
    lane_none _ c.args.pass.now.seen c.args.pass.now.last _ _ _ (ap (λ (d : DoorSeen). d.ended) is.0) (ap (λ (d : DoorSeen). d.gave) is.0) (ap (λ (d : DoorSeen). d.number) is.0)
