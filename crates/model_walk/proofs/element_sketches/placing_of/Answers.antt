use Rattle.std.proofs.Common.{sym}
use Rattle.placement.specs.Placed.{frame_in}
use Rattle.model_walk.proofs.SketchesMade.{placed_there}
use Rattle.model_walk.proofs.element_sketches.placing_of.Goals as goal

pub returns-in-Some-get : goal.returns-in-Some-get
returns-in-Some-get c = λ world scale mode all.
    placed_there world scale mode (frame_in c.args.frames.now) c.args.instance.now c.in-Some.value c.in-Some-reference.id c.in-Some-get.frame (sym c.in-Some.ensures) (sym c.in-Some-reference.ensures) (sym c.in-Some-get.ensures) all
