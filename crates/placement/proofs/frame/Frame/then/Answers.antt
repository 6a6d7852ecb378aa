use Rattle.placement.proofs.Components.{carried_then}
use Rattle.placement.proofs.frame.Frame.then.Goals as goal

pub returns-clause-carries : goal.returns-clause-carries
returns-clause-carries c =
    carried_then c.args.self.now c.args.inner.now _ c.turned.ensures.value c.turned-2.ensures.value c.turned-3.ensures.value c.moved.ensures.x c.moved.ensures.y c.moved.ensures.z
