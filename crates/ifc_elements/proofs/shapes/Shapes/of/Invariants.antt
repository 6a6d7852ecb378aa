use Rattle.ifc_elements.specs.Shapes.{AreShapes}
use Rattle.ifc_elements.proofs.shapes.Shapes.of.Given as goal

abbrev pub invariant-loop-id : goal.invariant-loop-id
invariant-loop-id l = AreShapes l.exchange l.shapes
