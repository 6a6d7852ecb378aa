use Rattle.tri_pierce.proofs.NearPoints.{triangles_near, elements_near}
use Rattle.tri_pierce.proofs.laws.piercing_is_near.Goals as goal

pub returns-clause-triangles : goal.returns-clause-triangles
returns-clause-triangles c = triangles_near

pub returns-clause-elements : goal.returns-clause-elements
returns-clause-elements c = elements_near
