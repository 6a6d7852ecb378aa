use Rattle.ifc_elements.specs.Sound.{IsOut}
use Rattle.ifc_elements.specs.Surfaces.{moved}
use Rattle.ifc_elements.proofs.TrianglesMoved.{any_corner, moved_more}
use Rattle.ifc_elements.proofs.surface.all_moved.Goals as goal

pub returns-in-None : goal.returns-in-None
returns-in-None c = any_corner IsOut (moved c.args.frame.now) c.args.own.now c.loop-triangle.triangle-index _ c.loop-triangle-test.true c.in-None.ensures

pub loop-triangle-preserved : goal.loop-triangle-preserved
loop-triangle-preserved c =
    moved_more c.args.frame.now c.args.own.now c.loop-triangle.triangle-index _ c.in-Some.there c.loop-triangle.made.items c.push.new.self.items c.loop-triangle-test.true
    c.in-Some.ensures c.in_ok-push-in-Some.ensures.items c.loop-triangle.invariant
