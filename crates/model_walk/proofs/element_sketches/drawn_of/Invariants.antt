use Rattle.std.proofs.Common.{◌≤◌, take}
use Rattle.bim_model.specs.declared.limits.TheConstants.{MOST_TRIANGLES}
use Rattle.model_walk.proofs.SketchesMade.{DrawnSoFar}
use Rattle.model_walk.proofs.element_sketches.drawn_of.Given as goal

abbrev pub invariant-loop-id : goal.invariant-loop-id
invariant-loop-id l = DrawnSoFar l.told.exchange.now l.told.scale l.told.mode l.fn.stock l.stock (take l.id-index l.ids) l.drawn l.count × (l.count ≤ MOST_TRIANGLES)
