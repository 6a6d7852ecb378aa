use Rattle.std.proofs.Common.{◌≡◌, ◌+◌, ◌≤◌, length, vec_len, vec_capacity, map, All}
use Rattle.std.specs.VecDeque.{deque_len}
use Rattle.bim_net.specs.Hosts.{AreNew}
use Rattle.book_turn.specs.NumberLists.{numbers_from}
use Rattle.book_turn.specs.Passes.{new_passes}
use Rattle.serve_lanes.specs.Histories.{IsReady, TellsOne}
use Rattle.serve_lanes.proofs.lanes.make_lanes.Given as goal

abbrev pub invariant-loop-pass : goal.invariant-loop-pass
invariant-loop-pass g l = record {
  count : vec_len l.lanes + length l.passes.items ≡ vec_len l.fn.doors;
  room : vec_len l.fn.doors ≤ vec_capacity l.lanes;
  passes : l.passes.items ≡ new_passes l.fn.turn (vec_len l.lanes) (length l.passes.items);
  doors : AreNew g.K.Serving.service.tells (vec_len l.lanes) (map g.D.Door.seen l.doors.items);
  as_doors : length l.doors.items ≡ length l.passes.items;
  as_clocks : length l.clocks.items ≡ length l.passes.items;
  one : All (λ c. TellsOne g.K.Serving.service.one (g.C.Clock.seen c).one) l.clocks.items;
  ready : All (λ x. IsReady g.K.Serving.service l.fn.turn x.pass (g.D.Door.seen x.door) (g.C.Clock.seen x.clock) x.lack) l.lanes.items;
  numbers : map (λ x. (g.D.Door.seen x.door).number) l.lanes.items ≡ numbers_from 0 (vec_len l.lanes);
}

abbrev pub decreases-loop-pass : goal.decreases-loop-pass
decreases-loop-pass g l = deque_len l.passes
