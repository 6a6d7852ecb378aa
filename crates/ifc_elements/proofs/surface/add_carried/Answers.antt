use Rattle.ifc_elements.proofs.TrianglesAdded.{near_at}
use Rattle.ifc_elements.proofs.surface.add_carried.Goals as goal

pub carry-requires-clause-reach : goal.carry-requires-clause-reach
carry-requires-clause-reach c = near_at c.args.own.now c.loop-triangle.triangle-index _ c.loop-triangle-test.true c.requires.reach
