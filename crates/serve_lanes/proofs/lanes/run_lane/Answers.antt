use Rattle.serve_lanes.proofs.Joining.{ends_lane, lane_over}
use Rattle.serve_lanes.proofs.lanes.run_lane.Goals as goal

pub returns-clause-over : goal.returns-clause-over
returns-clause-over g c =
    let s = c.serve_lane-lane.ensures in
    let ready = c.requires.ready in
    lane_over g.K.Serving.service c.args.links c.args.turn.now c.args.lane.now.pass c.serve_lane-lane.new.pass (g.D.Door.seen c.args.lane.now.door) (g.D.Door.seen c.serve_lane-lane.new.door)
    (g.C.Clock.seen c.args.lane.now.clock) c.args.lane.now.lack c.serve_lane-lane.new.lack c.serve_lane-lane.result ready s.own s.number s.served
    (ends_lane c.args.links c.serve_lane-lane.result (g.D.Door.seen c.args.lane.now.door) (g.D.Door.seen c.serve_lane-lane.new.door) ready.new.no_fault ready.new.none_given s.failed s.sound s.closed s.full)
