use Rattle.std.proofs.Common.{map, option_copied}
use Rattle.std.specs.List.{AllZip}
use Rattle.p21_values.specs.Attributes.{items_in}
use Rattle.void_bridge.specs.HoleLoops.{AreLoops}
use Rattle.faceset.specs.FaceSets.{AreCorners}
use Rattle.faceset.proofs.faces.loops_among.Given as goal

abbrev pub invariant-loop-row : goal.invariant-loop-row
invariant-loop-row l = AllZip (AreCorners (option_copied l.numbers) l.points) (map items_in l.yielded) (map (λ ring. ring.items) l.made.items) × AreLoops (map (λ ring. ring.items) l.made.items)
