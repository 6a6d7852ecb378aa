use Rattle.std.proofs.Common.{◌-◌, length}
use Rattle.void_bridge.specs.Bridges.{joined_in}
use Rattle.void_bridge.specs.inner.Barriers.{segments_of, AreBarriers}
use Rattle.void_bridge.specs.inner.Tried.{AreTried}
use Rattle.void_bridge.proofs.HolesRead.{items_of}
use Rattle.void_bridge.proofs.BridgeLoop.{IsJoining}
use Rattle.void_bridge.proofs.joining.joined_in.Given as goal

abbrev pub invariant-loop-step : goal.invariant-loop-step
invariant-loop-step l = record {
  framed : AreBarriers l.barriers;
  tried : AreTried l.view (segments_of l.barriers) l.current.items (items_of l.holes.items) l.tried.items;
  joining : IsJoining l.view (joined_in l.view l.outer (items_of l.inner)) (length l.inner - l.step) l.current.items (items_of l.holes.items) (segments_of l.barriers);
}
