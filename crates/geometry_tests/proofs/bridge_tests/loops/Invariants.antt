use Rattle.std.proofs.Common.{◌≡◌, ◌+◌, map}
use Rattle.void_bridge.specs.HoleLoops.{corner_count, AreLoops}
use Rattle.geometry_tests.proofs.bridge_tests.loops.Given as goal

abbrev pub invariant-loop-corners : goal.invariant-loop-corners
invariant-loop-corners l = record {
  loops : AreLoops (map (λ v. v.items) l.made.items);
  count : corner_count (map (λ v. v.items) l.made.items) + l.left ≡ 100;
}
