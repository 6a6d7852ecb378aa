use Rattle.std.proofs.Common.{◌≡◌, ◌-◌, ◌++◌, take}
use Rattle.ear_cut.specs.Registers.{as_spot}
use Rattle.void_bridge.specs.LoopEdges.{edges_along}
use Rattle.void_bridge.specs.inner.Barriers.{segments_of, AreBarriers}
use Rattle.void_bridge.proofs.EdgesAdded.{spot_at}
use Rattle.void_bridge.proofs.joining.add_loop.Given as goal

abbrev pub invariant-loop-i : goal.invariant-loop-i
invariant-loop-i l = record {
  previous_is : as_spot l.previous ≡ spot_at l.view l.corners (l.i - 1);
  edges : segments_of l.barriers ≡ segments_of l.fn.barriers ++ edges_along l.view (take l.i l.corners);
  framed : AreBarriers l.barriers;
}
