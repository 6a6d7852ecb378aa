use Rattle.tri_pierce.proofs.DecidedSigns.{triangles_decided, lists_decided, elements_decided}
use Rattle.tri_pierce.proofs.laws.piercing_is_decided.Goals as goal

pub returns-clause-triangles : goal.returns-clause-triangles
returns-clause-triangles c = triangles_decided

pub returns-clause-lists : goal.returns-clause-lists
returns-clause-lists c = lists_decided

pub returns-clause-elements : goal.returns-clause-elements
returns-clause-elements c = elements_decided
