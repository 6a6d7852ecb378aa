use Rattle.std.proofs.Common.{◌≡◌, ◌+◌, ◌<◌}
use Rattle.book_turn.specs.Passes.{IsSingle}
use Rattle.serve_lanes.specs.Lanes.{ServedLink, LaneServed}
use Rattle.serve_lanes.proofs.lane.serve_lane.Given as goal

abbrev pub invariant-loop : goal.invariant-loop
invariant-loop g l = record {
  can : (goal.iterator-loop g).can_next l.iterator';
  finite : (goal.iterator-loop g).is_finite l.iterator';
  own : IsSingle l.fn.turn l.pass;
  number : l.pass.number ≡ l.initial.pass.number;
  clock : (g.C.Clock.seen l.clock).one ≡ (g.C.Clock.seen l.initial.clock).one;
  sound : (g.D.Door.seen l.door).faults ≡ (g.D.Door.seen l.initial.door).faults;
  left : 0 < l.links → (0 < l.left) × ((g.D.Door.seen l.door).gave + l.left ≡ (g.D.Door.seen l.initial.door).gave + l.links);
  served : LaneServed (ServedLink (g.C.Clock.seen l.initial.clock).one l.fn.turn.settings l.initial.pass.number)
      l.initial.pass.seen l.initial.pass.last l.pass.seen l.pass.last (g.D.Door.seen l.initial.door) (g.D.Door.seen l.door)
      l.initial.lack l.lack;
}
