use Rattle.placement.proofs.Components.{carried_still}
use Rattle.placement.proofs.frame.Frame.identity.Goals as goal

pub returns-clause-carries : goal.returns-clause-carries
returns-clause-carries c = carried_still
