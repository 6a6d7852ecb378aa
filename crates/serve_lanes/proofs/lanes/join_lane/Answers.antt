use Rattle.std.proofs.Common.{◌≡◌, ◌++◌, ◌∷◌, [], List, map, sym, ap, ◌∙◌, subst}
use Rattle.std.proofs.lemmas.List.{map-append}
use Rattle.bim_net.specs.ConnectionViews.{DoorSeen}
use Rattle.serve_lanes.specs.Histories.{LanesJoined}
use Rattle.serve_lanes.proofs.Joining.{joined_more}
use Rattle.serve_lanes.proofs.lanes.join_lane.Goals as goal

pub returns-clause-number : goal.returns-clause-number
returns-clause-number g c = c.join.ensures.joined.number

pub returns-clause-doors : goal.returns-clause-doors
returns-clause-doors g c =
    ap (λ ds. map g.D.Door.seen ds) c.push_reserved.ensures.items ∙ map-append g.D.Door.seen c.args.joined.now.doors.items (c.args.lane.door ∷ [])

pub returns-clause-joined : goal.returns-clause-joined
returns-clause-joined g c =
    let doors : map g.D.Door.seen c.push_reserved.new.self.items ≡ map g.D.Door.seen c.args.joined.now.doors.items ++ g.D.Door.seen c.args.lane.door ∷ [] =
    ap (λ ds. map g.D.Door.seen ds) c.push_reserved.ensures.items ∙ map-append g.D.Door.seen c.args.joined.now.doors.items (c.args.lane.door ∷ []) in
    subst (λ (ds : List DoorSeen). LanesJoined g.K.Serving.service c.args.links c.args.turn.now c.join.new.into ds c.has_failed-joined.result c.add.new.self) (sym doors)
    (joined_more g.K.Serving.service c.args.links c.args.turn.now c.args.joined.now.into c.args.lane.pass c.join.new.into (map g.D.Door.seen c.args.joined.now.doors.items) (g.D.Door.seen c.args.lane.door)
    c.args.joined.now.failed c.has_failed-joined.result c.args.lane.end c.args.joined.now.lack c.args.lane.lack c.add.new.self
    c.join.ensures.joined c.join.ensures.own c.requires.joined c.requires.over c.requires.other c.has_failed-joined.ensures c.add.ensures.memory c.add.ensures.kept c.add.ensures.added)
