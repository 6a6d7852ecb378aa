use Rattle.std.proofs.Common.{arith}
use Rattle.bim_model.proofs.Extents.{bounds_more, bounds_all}
use Rattle.bim_model.proofs.geometry.extent_of.Goals as goal

pub loop-triangle-preserved : goal.loop-triangle-preserved
loop-triangle-preserved c =
    bounds_more _ c.args.triangles.now c.loop-triangle.triangle-index _ _ c.loop-triangle-test.true
    (c.widened-extent-in-loop-triangle-2.ensures _
    (c.widened-extent-in-loop-triangle.ensures _ (c.widened-extent.ensures _ c.loop-triangle.invariant)))

pub returns : goal.returns
returns c = bounds_all c.args.triangles.now _ c.loop-triangle.triangle-index c.loop-triangle.extent (omega arith) (omega arith) c.loop-triangle.invariant
