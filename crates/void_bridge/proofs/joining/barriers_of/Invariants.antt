use Rattle.std.proofs.Common.{◌≡◌, ◌++◌, take}
use Rattle.std.specs.List.{flat_map}
use Rattle.void_bridge.specs.LoopEdges.{edges_round}
use Rattle.void_bridge.specs.inner.Barriers.{segments_of, AreBarriers}
use Rattle.void_bridge.proofs.HolesRead.{items_of}
use Rattle.void_bridge.proofs.joining.barriers_of.Given as goal

abbrev pub invariant-loop-hole : goal.invariant-loop-hole
invariant-loop-hole l = record {
  edges : segments_of l.barriers ≡ edges_round l.view l.outer ++ flat_map (edges_round l.view) (take l.hole-index (items_of l.holes));
  framed : AreBarriers l.barriers;
}
