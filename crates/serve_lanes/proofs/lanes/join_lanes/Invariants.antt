use Rattle.std.proofs.Common.{◌≡◌, ◌≢◌, ◌+◌, ◌++◌, ◌≤◌, length, vec_len, vec_capacity, map, All}
use Rattle.std.specs.VecDeque.{deque_len}
use Rattle.serve_lanes.specs.Histories.{LaneOver, LanesJoined}
use Rattle.serve_lanes.proofs.lanes.join_lanes.Given as goal

abbrev pub invariant-loop-lane : goal.invariant-loop-lane
invariant-loop-lane g l = record {
  number : l.joined.into.number ≡ l.fn.own.number;
  joined : LanesJoined g.K.Serving.service l.fn.links l.fn.turn l.joined.into (map g.D.Door.seen l.joined.doors.items) l.joined.failed l.joined.lack;
  room : vec_len l.joined.doors + length l.lanes.items ≤ vec_capacity l.joined.doors;
  over : All (λ x. LaneOver g.K.Serving.service l.fn.links l.fn.turn x.pass (g.D.Door.seen x.door) x.end x.lack) l.lanes.items;
  other : All (λ x. (g.D.Door.seen x.door).number ≢ l.fn.own.number) l.lanes.items;
  numbers : map (λ d. d.number) (map g.D.Door.seen l.joined.doors.items) ++ map (λ x. (g.D.Door.seen x.door).number) l.lanes.items
      ≡ map (λ x. (g.D.Door.seen x.door).number) l.fn.lanes.items;
}

abbrev pub decreases-loop-lane : goal.decreases-loop-lane
decreases-loop-lane g l = deque_len l.lanes
