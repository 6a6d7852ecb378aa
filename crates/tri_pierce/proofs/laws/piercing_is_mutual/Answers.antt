use Rattle.tri_pierce.proofs.DecidedSigns.{triangles_swap, elements_swap}
use Rattle.tri_pierce.proofs.laws.piercing_is_mutual.Goals as goal

pub returns-clause-triangles : goal.returns-clause-triangles
returns-clause-triangles c = triangles_swap

pub returns-clause-elements : goal.returns-clause-elements
returns-clause-elements c = elements_swap
